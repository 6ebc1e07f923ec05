-- C23 and C24: records as lines. "A line that starts with a blank goes on with the record before it; a line passed over ends no
-- record. Every other line begins one."
use Rattle.std.specs.Prelude.{ℕ, suc, ◌+◌, List, [], ◌∷◌, ◌++◌, Bool, true, false, cond, length, get_or, drop, ltb, leb}
use Rattle.std.proofs.Math.Option.{Option, none, some}
use Rattle.words.specs.Words.{blank, word_at, spelled, same}
use Rattle.words.specs.Commands.{passed_over}
use Rattle.words.specs.Hex.{hex}
use Rattle.words.specs.Lines.{longest}
use Rattle.words.specs.declared.Ending.{Ending}
use Rattle.words.specs.declared.Ending.TheVariants.{Whole, Wrong, Long}
use Rattle.trace.specs.Records.{Record, good_record}
use Rattle.trace_lines.specs.Shown.{received, sent}
use Rattle.trace_lines.specs.declared.told.Kind.{Kind}
use Rattle.trace_lines.specs.declared.told.Kind.TheVariants.{Passed, Onward, First, Other}

-- what a line is, by its first word
abbrev pub kind_by : List ℕ → List ℕ → ℕ → Kind
kind_by line word behind =
    cond (passed_over word) Passed
    (cond (blank (get_or line 0 0)) Onward
    (cond (same word received) (First 0 behind)
    (cond (same word sent) (First 1 behind)
    Other)))

unfoldable pub kind_of : List ℕ → Kind
kind_of line = kind_by line (spelled line (word_at line 0)) (word_at line 0).end

-- "a line of over 16,384 octets .., a comment too, which is a record of its own whatever it says"
abbrev pub kind_if : Bool → List ℕ → Kind
kind_if long line = cond long Other (kind_of line)

-- a record that is begun, and the line on which it begins
pub record Begun : Type 0 where
  pub direction : ℕ
  pub message : List ℕ
  pub line : ℕ

abbrev pub record_of : Begun → Record
record_of b = record { direction = b.direction; message = b.message }

-- octets more: whole octets in hex, and at most 255 with those before
abbrev pub grown_by : Begun → List ℕ → Ending → Option Begun
grown_by b octets Whole =
    cond (leb (length b.message + length octets) 255) (some (record { direction = b.direction; message = b.message ++ octets; line = b.line })) none
grown_by b octets Wrong = none
grown_by b octets Long = none

unfoldable pub grown : Begun → List ℕ → Option Begun
grown b text = grown_by b (hex 255 text).octets (hex 255 text).ends

-- the record that is begun behind a line, or the line on which a bad one begins
pub data Next : Type 0 where
  goes : Option Begun → Next
  refuses : ℕ → Next

abbrev pub or_refuses : ℕ → Option Begun → Next
or_refuses n none = refuses n
or_refuses n (some b) = goes (some b)

abbrev pub onward_with : List ℕ → ℕ → Option Begun → Next
onward_with line n none = refuses n
onward_with line n (some b) = or_refuses b.line (grown b line)

-- "the number, from 1 and counting all lines, of the line on which the first bad record begins"
unfoldable pub followed : Kind → List ℕ → ℕ → Option Begun → Next
followed Passed line n begun = goes begun
followed Onward line n begun = onward_with line n begun
followed (First direction at) line n begun = or_refuses n (grown (record { direction = direction; message = []; line = n }) (drop at line))
followed Other line n begun = refuses n

-- whether the record before a line is ended by it
abbrev pub ends : Kind → Bool
ends Passed = false
ends Onward = false
ends (First direction at) = true
ends Other = true

-- the records up to the first bad one, and the line on which that begins
pub record Told : Type 0 where
  pub records : List Record
  pub bad : Option ℕ

abbrev pub bad_at : ℕ → Told
bad_at n = record { records = []; bad = some n }

-- a record that ends, and what is told behind it
abbrev pub finished : Option Begun → Told → Told
finished none behind = behind
finished (some b) behind =
    cond (good_record (record_of b)) (record { records = record_of b ∷ behind.records; bad = behind.bad }) (bad_at b.line)

abbrev pub told_by : Next → (Option Begun → Told) → Told
told_by (goes begun) behind = behind begun
told_by (refuses n) behind = bad_at n

abbrev pub line_kind : List ℕ → Kind
line_kind line = kind_if (ltb longest (length line)) line

-- from a line on, with the record that is begun before it
unfoldable pub told_from : Option Begun → ℕ → List (List ℕ) → Told
told_from begun n [] = finished begun (record { records = []; bad = none })
told_from begun n (line ∷ others) =
    cond (ends (line_kind line))
    (finished begun (told_by (followed (line_kind line) line n none) (λ next. told_from next (suc n) others)))
    (told_by (followed (line_kind line) line n begun) (λ next. told_from next (suc n) others))

unfoldable pub told : List (List ℕ) → Told
told lines = told_from none 1 lines
