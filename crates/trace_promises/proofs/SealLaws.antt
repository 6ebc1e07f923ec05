-- 510 octets and their sum: a block that says its number.
use Prim.Native.Nat.{ℕ, ◌+◌, ◌*◌, ◌/◌, ◌%◌, ◌<◌}
use mathlib.Core.Path.{◌≡◌, sym, ap, ◌∙◌}
use mathlib.Core.List.{List, [], ◌∷◌, ◌++◌}
use native.Mathlib.Omega.{arith}
use lib.ListN.{length, take, get_or, length-append}
use lib.Seq.{take_at, get_or_at, get_or-append-add}
use Rattle.trace.specs.Numbers.{two, four, pair_at, sum_of}
use Rattle.trace.specs.Blocks.{number_in, sum_in, sealed}

-- two octets and four say the number that was written
pub two_back : (n : ℕ) → n < 65536 → n / 256 % 256 * 256 + n % 256 ≡ n
two_back n h = omega arith

four-back : (n : ℕ) → n < 4294967296 → (n / 16777216 % 256 * 256 + n / 65536 % 256) * 65536 + (n / 256 % 256 * 256 + n % 256) ≡ n
four-back n h =
    let high : n / 16777216 % 256 * 256 + n / 65536 % 256 ≡ n / 65536 = omega arith in
    let low : n / 256 % 256 * 256 + n % 256 ≡ n % 65536 = omega arith in
    rw (high, low) (omega arith)

sum_below : (s : List ℕ) → sum_of s < 65536
unfolding sum_of
sum_below s = omega arith

module _ (s : List ℕ) (l : length s ≡ 510) where
  two-behind : (n : ℕ) → n < 65536 → pair_at (s ++ two n) 510 ≡ n
  two-behind n h =
      let e : 511 ≡ length s + 1 = omega arith in
      let x : get_or (s ++ two n) 510 0 ≡ n / 256 % 256 = get_or_at s (n / 256 % 256) (n % 256 ∷ []) 0 510 l in
      let y : get_or (s ++ two n) 511 0 ≡ n % 256 = ap (λ (i : ℕ). get_or (s ++ two n) i 0) e ∙ get_or-append-add s (two n) 1 0 in
      rw (x, y) (two_back n h)

  pub sealed-length : length (sealed s) ≡ 512
  unfolding sealed
  sealed-length = simp (length-append, l)

  pub sealed-sum : sum_of (take 510 (sealed s)) ≡ sum_in (sealed s)
  unfolding sealed sum_in
  sealed-sum = ap sum_of (take_at s (two (sum_of s)) 510 l) ∙ sym (two-behind (sum_of s) (sum_below s))

pub sealed-number : (n : ℕ) (s : List ℕ) → n < 4294967296 → number_in (sealed (four n ++ s)) ≡ n
unfolding sealed number_in
sealed-number n s h = four-back n h
