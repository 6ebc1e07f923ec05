-- Lines of an answer. A line ends with 10; 32 is a space.
use Rattle.std.specs.Prelude.{ℕ, ◌+◌, List, [], ◌∷◌, ◌++◌, Bool, cond, ℤ, length, ltb}
use Rattle.printing.specs.Numbers.{decimal, id_text, pair}

-- "a line that would pass forty characters goes on in the next, which starts with a space"
abbrev pub next_text : ℕ → ℕ → List ℕ
next_text column octet = cond (ltb 37 column) (10 ∷ 32 ∷ pair octet) (32 ∷ pair octet)

abbrev pub next_column : ℕ → ℕ
next_column column = cond (ltb 37 column) 3 (column + 3)

unfoldable pub folded : ℕ → List ℕ → List ℕ
folded column [] = []
folded column (o ∷ s) = next_text column o ++ folded (next_column column) s

-- a line that may be left out
abbrev pub when : Bool → List ℕ → List ℕ
when there line = cond there line []

-- "An empty string of octets prints the word alone."
unfoldable pub octets_line : List ℕ → List ℕ → List ℕ
octets_line word s = word ++ folded (length word) s ++ (10 ∷ [])

unfoldable pub number_line : List ℕ → ℕ → List ℕ
number_line word n = word ++ (32 ∷ []) ++ decimal n ++ (10 ∷ [])

unfoldable pub id_line : List ℕ → ℤ → List ℕ
id_line word id = word ++ (32 ∷ []) ++ id_text id ++ (10 ∷ [])

-- `problem 81 0`
unfoldable pub problem_line : ℕ → ℕ → List ℕ
problem_line tag problem = (112 ∷ 114 ∷ 111 ∷ 98 ∷ 108 ∷ 101 ∷ 109 ∷ 32 ∷ []) ++ pair tag ++ (32 ∷ []) ++ decimal problem ++ (10 ∷ [])
