-- C26: "A read may give less than was asked for (a pipe does) and is no end." The writer's input comes in pieces, and `gather` makes
-- lines of them: they are the lines of the whole input, however it is cut.
use Rattle.std.specs.Prelude.{ℕ, zero, suc, ◌≡◌, List, [], ◌∷◌, Bool, false, cond, length, drop, ltb}
use Rattle.std.proofs.Math.Option.{Option}
use Rattle.octets.specs.Part.{between}
use Rattle.words.specs.Lines.{longest, piece, with_piece, gathered}
use Rattle.trace.specs.Files.{joined}
use Rattle.trace_lines.specs.Told.{Begun, kind_if, line_kind, followed}
use Rattle.trace_promises.specs.Retold.{lines_in}

-- a line as the writer takes it: whether it is too long, and what is kept of it
pub record Line : Type 0 where
  pub long : Bool
  pub text : List ℕ

abbrev pub line_of : List ℕ → ℕ → Line
line_of line have = record { long = ltb longest have; text = between 0 have line }

-- the loop over a piece, from a place on: each line that ends in it, then `behind` with what is left
abbrev pub taken_from : ℕ → List ℕ → ℕ → List ℕ → ℕ → (List ℕ → ℕ → List Line) → List Line
taken_from zero input from line have behind = behind line have
taken_from (suc most) input from line have behind =
    cond (ltb from (length input))
    (cond (gathered input from have).is_whole
    (line_of (with_piece line have (piece input from)) (gathered input from have).have
    ∷ taken_from most input (gathered input from have).next (with_piece line have (piece input from)) 0 behind)
    (taken_from most input (gathered input from have).next (with_piece line have (piece input from)) (gathered input from have).have behind))
    (behind line have)

-- piece after piece; where the input ends, the last line if there is one
abbrev pub taken_all : List (List ℕ) → List ℕ → ℕ → List Line
taken_all [] line have = cond (ltb 0 have) (line_of line have ∷ []) []
taken_all (input ∷ others) line have = taken_from (suc (length input)) input 0 line have (taken_all others)

-- the loop as the programs have it, over what is left of a piece: each turn gathers from its start and drops what was gathered
abbrev pub taken_left : ℕ → List ℕ → List ℕ → ℕ → (List ℕ → ℕ → List Line) → List Line
taken_left zero rest line have behind = behind line have
taken_left (suc most) rest line have behind =
    cond (ltb 0 (length rest))
    (cond (gathered rest 0 have).is_whole
    (line_of (with_piece line have (piece rest 0)) (gathered rest 0 have).have
    ∷ taken_left most (drop (gathered rest 0 have).next rest) (with_piece line have (piece rest 0)) 0 behind)
    (taken_left most (drop (gathered rest 0 have).next rest) (with_piece line have (piece rest 0)) (gathered rest 0 have).have behind))
    (behind line have)

abbrev pub taken_each : List (List ℕ) → List ℕ → ℕ → List Line
taken_each [] line have = cond (ltb 0 have) (line_of line have ∷ []) []
taken_each (input ∷ others) line have = taken_left (suc (length input)) input line have (taken_each others)

-- it is that line, or both are too long
abbrev pub SameLine : Line → List ℕ → Type 0
SameLine t line = (t.long ≡ ltb longest (length line)) × (t.long ≡ false → t.text ≡ line)

abbrev pub SameLines : List Line → List (List ℕ) → Type 0
SameLines [] [] = Unit {0}
SameLines [] (line ∷ lines) = ⊥
SameLines (t ∷ others) [] = ⊥
SameLines (t ∷ others) (line ∷ lines) = SameLine t line × SameLines others lines

abbrev pub Gathers : Type 0
Gathers = (pieces : List (List ℕ)) (line : List ℕ) → length line ≡ 16384 → SameLines (taken_all pieces line 0) (lines_in (joined pieces))

-- the same of the programs' loop: it takes those lines too, and of each piece what the loop from place to place takes, with the same left
abbrev pub GathersLeft : Type 0
GathersLeft =
    ((pieces : List (List ℕ)) (line : List ℕ) → length line ≡ 16384 → SameLines (taken_each pieces line 0) (lines_in (joined pieces)))
    × ((input line : List ℕ) (have : ℕ) (behind : List ℕ → ℕ → List Line)
    → taken_left (suc (length input)) input line have behind ≡ taken_from (suc (length input)) input 0 line have behind)

-- and so it is taken for what it is
abbrev pub TakenAs : Type 0
TakenAs = (t : Line) (line : List ℕ) → SameLine t line → (n : ℕ) (begun : Option Begun)
    → (kind_if t.long t.text ≡ line_kind line) × (followed (kind_if t.long t.text) t.text n begun ≡ followed (line_kind line) line n begun)
