-- The digits that io::decimal writes are those of the definition.
use Prim.Native.Nat.{ℕ, zero, suc, ◌-◌, ◌/◌, ◌%◌, ◌^◌, ◌≤◌, ◌<◌}
use mathlib.Core.Path.{◌≡◌, refl}
use native.Mathlib.Nat.{pow-suc, pow-zero, one-le-pow, pow-le-pow_right, lt_of_not-le, le_of_suc-le-suc}
use native.Mathlib.Omega.{arith}
use borrow.Author.Tests.{lt-ltb, le-ltb}
use Rattle.io.specs.Digits.{last_digits, IsDigitCount}
use Rattle.printing.specs.Numbers.{decimal_by, decimal}

-- a number of two digits or more, without its last digit
fewer : (n r : ℕ) → IsDigitCount 10 1 n (suc (suc r)) → (10 ≤ n) × IsDigitCount 10 1 (n / 10) (suc r)
fewer n r h =
    let e : suc (suc r) - 1 ≡ suc r = omega arith in
    let f : suc r - 1 ≡ r = omega arith in
    let p : 10 ^ suc r ≤ n = rw e at (h.2 (omega arith)) in
    let a = pow-suc 10 (suc r) in
    let b = pow-suc 10 r in
    let o = one-le-pow r 10 (omega arith) in
    (omega arith, (omega arith, omega arith, λ _. rw f (omega arith)))

pub digits_are : (k r n : ℕ) → IsDigitCount 10 1 n r → r ≤ k → last_digits 10 r n ≡ decimal_by k n
unfolding decimal_by
digits_are zero r n h l = absurd (omega arith)
digits_are (suc k) zero n h l = absurd (omega arith)
digits_are (suc k) (suc zero) n h l =
    let a = pow-suc 10 0 in
    let b = pow-zero 10 in
    let p : n < 10 = omega arith in
    let q : n % 10 ≡ n = omega arith in
    rw (q, lt-ltb n 10 p)
digits_are (suc k) (suc (suc r)) n h l =
    let f = fewer n r h in
    let p : n % 10 < 10 = omega arith in
    rw (lt-ltb (n % 10) 10 p, le-ltb n 10 f.0, ← digits_are k (suc r) (n / 10) f.1 (omega arith))

pub is-decimal : (r n : ℕ) → IsDigitCount 10 1 n r → r ≤ 20 → last_digits 10 r n ≡ decimal n
unfolding decimal
is-decimal r n h l = digits_are 20 r n h l

-- twenty digits hold a number of 64 bits
pub at-most-twenty : (r n : ℕ) → IsDigitCount 10 1 n r → n < 18446744073709551616 → r ≤ 20
at-most-twenty r n h f = le_of_suc-le-suc (lt_of_not-le more)
  where
    more : 21 ≤ r → ⊥
    more l =
        let p : 10 ^ (r - 1) ≤ n = h.2 (omega arith) in
        let s : 20 ≤ r - 1 = omega arith in
        let q : 10 ^ 20 ≤ 10 ^ (r - 1) = pow-le-pow_right (omega arith) s in
        let e : 10 ^ 20 ≡ 100000000000000000000 = refl in
        omega arith
