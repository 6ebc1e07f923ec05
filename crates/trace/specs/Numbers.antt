-- 02 [7]: "all high first"; "the sum of the first 510 octets modulo 65,536".
use Rattle.std.specs.Prelude.{ℕ, ◌+◌, ◌*◌, ◌/◌, ◌%◌, List, [], ◌∷◌, slice_index}

-- a number in two octets, and in four; what is too large for them stands there modulo 65,536 or 4,294,967,296
abbrev pub two : ℕ → List ℕ
two n = n / 256 % 256 ∷ n % 256 ∷ []

abbrev pub four : ℕ → List ℕ
four n = n / 16777216 % 256 ∷ n / 65536 % 256 ∷ n / 256 % 256 ∷ n % 256 ∷ []

-- the number that two octets say
abbrev pub pair_at : List ℕ → ℕ → ℕ
pair_at s at = slice_index s at * 256 + slice_index s (at + 1)

abbrev pub total : List ℕ → ℕ
total [] = 0
total (a ∷ s) = a + total s

-- octets, not words
unfoldable pub sum_of : List ℕ → ℕ
sum_of s = total s % 65536
