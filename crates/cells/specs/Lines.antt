-- "lines of at most forty cells. A longer rest is broken at the last space among its first forty-one characters, which is
-- dropped, else after forty."
use Rattle.std.specs.Prelude.{ℕ, zero, suc, ◌+◌, List, [], ◌∷◌, cond, length, take, drop, eqb, ltb, leb}
use Rattle.cells.specs.Alphabet.{space}
use Rattle.cells.specs.declared.rows.Line.{Line}

-- how many characters there are up to the last space, and with it; 0 where there is no space
unfoldable pub up_to_space : List ℕ → ℕ
up_to_space [] = 0
up_to_space (c ∷ s) = cond (ltb 0 (up_to_space s)) (suc (up_to_space s)) (cond (eqb c space) 1 0)

-- "its cells, 0 to 40, and 1 if a space was dropped behind it, else 0"
abbrev pub line : ℕ → ℕ → Line
line cells dropped = record { cells = cells; dropped = dropped }

-- "broken at the last space .., which is dropped, else after forty"
abbrev pub broken_at : ℕ → Line
broken_at zero = line 40 0
broken_at (suc before) = line before 1

-- how much of the text a line takes
abbrev pub extent : Line → ℕ
extent l = l.cells + l.dropped

-- the line at the front of a longer rest
abbrev pub first_line : List ℕ → Line
first_line text = broken_at (up_to_space (take 41 text))

-- at most n breaks; "what is not longer than forty is the last line, empty or not"
unfoldable pub lines_by : ℕ → List ℕ → List Line
lines_by zero text = line (length text) 0 ∷ []
lines_by (suc n) text =
    cond (leb (length text) 40) (line (length text) 0 ∷ [])
    (first_line text ∷ lines_by n (drop (extent (first_line text)) text))

-- each break takes a character or more
unfoldable pub lines_of : List ℕ → List Line
lines_of text = lines_by (length text) text

-- "A line is two octets"
unfoldable pub line_octets : List Line → List ℕ
line_octets [] = []
line_octets (l ∷ s) = l.cells ∷ l.dropped ∷ line_octets s
