-- How the code goes: one character after the other, with what it holds of the line that has begun.
use Rattle.std.specs.Prelude.{ℕ, suc, ◌+◌, ◌-◌, ◌*◌, ◌/◌, ◌%◌, ◌^◌, ◌≤◌, ◌<◌, List, [], ◌∷◌, ◌++◌, Bool, cond, length, get_or, eqb, ltb}
use Rattle.octets.specs.Splice.{splice}
use Rattle.cells.specs.Alphabet.{space}
use Rattle.cells.specs.Lines.{line, broken_at, extent, line_octets}
use Rattle.cells.specs.declared.rows.Line.{Line}
use Rattle.cells.specs.declared.rows.Row.{Row}
use Rattle.cells.specs.declared.Walk.{Walk}

-- the bits of the octets read before septet i that are of no earlier septet: the upper i % 8 bits of the last of these octets
unfoldable pub carried_to : List ℕ → ℕ → ℕ
carried_to string i = get_or string (i - i / 8 - 1) 0 / 2 ^ (8 - i % 8) % 2 ^ (i % 8)

-- a line with one character more: its width, and how much of it stands up to the last space
abbrev pub grown : Row → ℕ → Row
grown row c = record { width = suc row.width; kept = cond (eqb c space) (suc row.width) row.kept }

abbrev pub is_over : Row → Bool
is_over row = ltb 40 row.width

-- the line that a row makes: the last one, or one that is broken
unfoldable pub line_of : Row → Line
line_of row = cond (is_over row) (broken_at row.kept) (line row.width 0)

-- what is left of a row behind the line that it makes
unfoldable pub left_of : Row → Row
left_of row = cond (is_over row) (record { width = row.width - extent (broken_at row.kept); kept = 0 }) row

-- the lines that end with a row's last character
abbrev pub ended_by : Row → List Line
ended_by row = cond (is_over row) (line_of row ∷ []) []

abbrev pub no_row : Row
no_row = record { width = 0; kept = 0 }

-- the lines of a row that goes on with more characters
unfoldable pub flow : Row → List ℕ → List Line
flow row [] = line_of row ∷ []
flow row (c ∷ s) = ended_by (grown row c) ++ flow (left_of (grown row c)) s

-- octets written at a place, or not
unfoldable pub put_if : Bool → List ℕ → ℕ → List ℕ → List ℕ
put_if writes buffer at written = cond writes (splice buffer at written) buffer

-- a walk with one character more, and what it writes
abbrev pub walked : Walk → ℕ → Walk
walked w c =
    record {
      row = left_of (grown w.row c);
      characters = w.characters + 1;
      ended = w.ended + length (ended_by (grown w.row c));
    }

abbrev pub text_with : Bool → List ℕ → Walk → ℕ → List ℕ
text_with writes text w c = put_if writes text w.characters (c ∷ [])

abbrev pub lines_with : Bool → List ℕ → Walk → ℕ → List ℕ
lines_with writes lines w c = put_if writes lines (2 * w.ended) (line_octets (ended_by (grown w.row c)))

-- there is room for it
abbrev pub GiveRoom : List ℕ → List ℕ → Walk → ℕ → Type 0
GiveRoom text lines w c = (w.characters < length text) × (2 * w.ended + length (line_octets (ended_by (grown w.row c))) ≤ length lines)

-- a line that isn't over, and what can still be counted
abbrev pub GiveBounds : Walk → Type 0
GiveBounds w = (w.row.width ≤ 40) × ((w.row.kept ≤ w.row.width) × ((w.characters + 1 < 18446744073709551616) × (w.ended + 1 < 18446744073709551616)))
