-- C36: "in the order of the input, `number N dropped R` (33 to 35), `number N renumbered 36`, `place N dropped 32`, so that the word
-- tells number from place. An empty list prints nothing."
use Rattle.std.specs.Prelude.{ℕ, List, [], ◌∷◌, ◌++◌}
use Rattle.trace.specs.Salvage.{Listed, dropped, renumbered36, short, salvaged}
use Rattle.trace_lines.specs.Shown.{four_line}

-- `number `, `place `, ` dropped `, ` renumbered `
abbrev pub number_word : List ℕ
number_word = 110 ∷ 117 ∷ 109 ∷ 98 ∷ 101 ∷ 114 ∷ 32 ∷ []

abbrev pub place_word : List ℕ
place_word = 112 ∷ 108 ∷ 97 ∷ 99 ∷ 101 ∷ 32 ∷ []

abbrev pub dropped_word : List ℕ
dropped_word = 32 ∷ 100 ∷ 114 ∷ 111 ∷ 112 ∷ 112 ∷ 101 ∷ 100 ∷ 32 ∷ []

abbrev pub renumbered_word : List ℕ
renumbered_word = 32 ∷ 114 ∷ 101 ∷ 110 ∷ 117 ∷ 109 ∷ 98 ∷ 101 ∷ 114 ∷ 101 ∷ 100 ∷ 32 ∷ []

unfoldable pub listed_line : Listed → List ℕ
listed_line (dropped number n) = four_line number_word number dropped_word n
listed_line (renumbered36 number) = four_line number_word number renumbered_word 36
listed_line (short place) = four_line place_word place dropped_word 32

unfoldable pub listed_lines : List Listed → List ℕ
listed_lines [] = []
listed_lines (l ∷ others) = listed_line l ++ listed_lines others

unfoldable pub salvage_text : List ℕ → List ℕ
salvage_text file = listed_lines (salvaged file).list
