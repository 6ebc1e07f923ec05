-- Digits in any base, the lowest first, and the number that they are.
use Prim.Native.Nat.{ℕ, zero, suc, ◌+◌, ◌*◌, ◌/◌, ◌%◌, ◌^◌, ◌<◌}
use mathlib.Core.Path.{◌≡◌, refl, ap, ◌∙◌}
use mathlib.Core.List.{List, [], ◌∷◌}
use native.Mathlib.Nat.{pow-zero, pow-suc, pow-succ', mul_comm, mul-zero, mul-suc, add_comm, zero-add, zero-div, zero-mod, div-one, div-eq_of_lt, div-div-eq-div-mul, div-lt_iff_lt-mul, mod-lt, mod-eq_of_lt, mod-add-div, add-mul-div_left, add-mul-mod_self_left}
use native.Mathlib.Omega.{arith}
use lib.ListN.{length, get_or}
use lib.Arith.{digits_lt}
use lib.Pow.{pow-add}
use Rattle.cells.specs.Packing.{number, digits}

-- each digit is below the base
abbrev pub Below : ℕ → List ℕ → Type 0
Below base [] = Unit {0}
Below base (d ∷ s) = (d < base) × Below base s

-- a number without its lowest digit
rest-is : (base d n : ℕ) → d < base → (d + base * n) / base ≡ n
rest-is base d n h = add-mul-div_left d n (omega arith) ∙ ap (λ (q : ℕ). q + n) (div-eq_of_lt h) ∙ zero-add n

-- digit k of a number
pub digit-is : (base : ℕ) (s : List ℕ) (k : ℕ) → Below base s → get_or s k 0 ≡ number base s / base ^ k % base
unfolding number
digit-is base [] k h = rw (zero-div, zero-mod)
digit-is base (d ∷ s) zero h = rw (pow-zero, div-one, add-mul-mod_self_left, mod-eq_of_lt h.0)
digit-is base (d ∷ s) (suc k) h =
    rw (pow-succ', ← div-div-eq-div-mul (d + base * number base s) base (base ^ k), rest-is base d (number base s) h.0) (digit-is base s k h.1)

-- digits are a number below the power of their count
pub number-below : (base : ℕ) (s : List ℕ) → Below base s → number base s < base ^ length s
unfolding number
number-below base [] h = rw pow-zero (omega arith)
number-below base (d ∷ s) h = rw (pow-suc, mul_comm base (number base s), add_comm d (number base s * base)) (digits_lt (number-below base s h.1) h.0)

-- as many digits as asked for
pub length_digits : (base n v : ℕ) → length (digits base n v) ≡ n
unfolding digits
length_digits base zero v = refl
length_digits base (suc n) v = ap suc (length_digits base n (v / base))

-- they are below the base
pub digits-below : (base n v : ℕ) → 0 < base → Below base (digits base n v)
unfolding digits
digits-below base zero v p = tt
digits-below base (suc n) v p = (mod-lt v p, digits-below base n (v / base) p)

-- enough digits of a number are that number
pub number_digits : (base n v : ℕ) → 0 < base → v < base ^ n → number base (digits base n v) ≡ v
unfolding number digits
number_digits base zero v p h = let e = pow-zero base in omega arith
number_digits base (suc n) v p h =
    rw (number_digits base n (v / base) p ((div-lt_iff_lt-mul p).1 (rw pow-suc at h))) (mod-add-div v base)

-- a power of a power
pub pow-mul : (base m n : ℕ) → base ^ (m * n) ≡ (base ^ m) ^ n
pow-mul base m zero = simp (mul-zero, pow-zero)
pow-mul base m (suc n) = rw (mul-suc, pow-add, pow-mul base m n, pow-suc (base ^ m) n)
