-- Sums, and numbers in two and four octets.
use Rattle.std.proofs.Common.{◌≡◌, ℕ, ◌+◌, ◌/◌, ◌%◌, ◌<◌, ◌≤◌, Bool, ◌&&◌, eqb, List, [], ◌∷◌, ◌++◌, length, get_or, drop, replicate, refl, ap, append-nil, le_antisymm, add-one, arith, drop_of_length-le, drop-cons}
use lib.Seq.{drop-length}
use Rattle.std.specs.List.{list_all}
use Rattle.trace.specs.Numbers.{two, four, total, sum_of}
use Rattle.trace.specs.Blocks.{all_zero, zeros}

-- a turn of the sum
pub sum-on : (s : List ℕ) (i sum : ℕ) → i < length s → ((sum + get_or s i 0) % 65536 + total (drop (i + 1) s)) % 65536 ≡ (sum + total (drop i s)) % 65536
sum-on s i sum h = rw (add-one i, drop-cons s i 0 h) (omega arith)

pub sum_over : (s : List ℕ) (i sum : ℕ) → length s ≤ i → sum < 65536 → sum ≡ (sum + total (drop i s)) % 65536
sum_over s i sum h l = rw (drop_of_length-le s {i = i} h) (omega arith)

-- octets that are each zero
pub each_zero : (s : List ℕ) → list_all (λ octet. eqb octet 0) s ≡ all_zero s
each_zero [] = refl
each_zero (a ∷ s) = ap (λ (t : Bool). eqb a 0 && t) (each_zero s)

-- all was cleared
pub filled : (i : ℕ) (d : List ℕ) → i ≤ length d → length d ≤ i → replicate i 0 ++ drop i d ≡ zeros (length d)
filled i d h l = rw (le_antisymm h l, drop-length d, append-nil (zeros (length d)))

-- a number that two octets hold, and one that four hold, as the code writes them
pub two-written : (n : ℕ) → n < 65536 → n / 256 ∷ n % 256 ∷ [] ≡ two n
two-written n h = let e : n / 256 % 256 ≡ n / 256 = omega arith in rw e

pub four-written : (n : ℕ) → n < 4294967296 → n / 16777216 ∷ n / 65536 % 256 ∷ n / 256 % 256 ∷ n % 256 ∷ [] ≡ four n
four-written n h = let e : n / 16777216 % 256 ≡ n / 16777216 = omega arith in rw e

pub sum_below : (s : List ℕ) → sum_of s < 65536
unfolding sum_of
sum_below s = omega arith
