-- Lines of text, a character for each cell. "Characters are UTF-8"; they are numbers of 16 bits.
use Rattle.std.specs.Prelude.{ℕ, ◌+◌, ◌/◌, ◌%◌, ◌≤◌, List, [], ◌∷◌, ◌++◌, cond, take, drop, eqb, ltb}

-- "0A, 0C and 0D are printed as 240A, 240C and 240D, one character each, so that a cell never breaks a line."
unfoldable pub pictured : ℕ → ℕ
pictured c = cond (eqb c 0x0A) 0x240A (cond (eqb c 0x0C) 0x240C (cond (eqb c 0x0D) 0x240D c))

-- one octet, two or three; each behind the first has six bits of the number
unfoldable pub utf8 : ℕ → List ℕ
utf8 c =
    cond (ltb c 0x80) (c ∷ [])
    (cond (ltb c 0x800) ((0xC0 + c / 64) ∷ (0x80 + c % 64) ∷ [])
    ((0xE0 + c / 4096) ∷ (0x80 + c / 64 % 64) ∷ (0x80 + c % 64) ∷ []))

-- the characters of cells in a row
unfoldable pub cell_text : List ℕ → List ℕ
cell_text [] = []
cell_text (c ∷ s) = utf8 (pictured c) ++ cell_text s

-- "each alone on a line of its own"
abbrev pub row_text : List ℕ → List ℕ
row_text cells = cell_text cells ++ (10 ∷ [])

-- "then the N lines of text": two octets tell a line, how many cells it has, and 1 if a space was dropped behind it, else 0
unfoldable pub text_rows : List ℕ → List ℕ → List ℕ
text_rows text [] = []
text_rows text (cells ∷ []) = []
text_rows text (cells ∷ dropped ∷ rows) = row_text (take cells text) ++ text_rows (drop (cells + dropped) text) rows

-- each line has at most forty cells
abbrev pub ShortRows : List ℕ → Type 0
ShortRows [] = Unit {0}
ShortRows (cells ∷ []) = Unit {0}
ShortRows (cells ∷ dropped ∷ rows) = (cells ≤ 40) × ShortRows rows
