-- Octets joined in one number, and a part of the table taken apart.
use mathlib.Core.Path.{◌≡◌, refl, sym, ◌∙◌}
use mathlib.Core.Bool.{Bool, true, false, ◌&&◌}
use mathlib.Core.List.{List, [], ◌∷◌}
use Prim.Native.Nat.{ℕ, zero, suc, ◌+◌, ◌*◌, ◌/◌, ◌%◌, ◌<◌}
use native.Mathlib.Omega.{arith}
use borrow.Author.Tests.{eqb-true, eqb-false, eq-eqb, ne_eqb}
use lib.Dec.{eqb}
use lib.ListN.{length}
use Rattle.octets.specs.Octets.{Octets}
use Rattle.sides.specs.Side.{all_zero}
use Rattle.sides.specs.Seen.{octets_in, octets_seen}
use Rattle.table.specs.Raw.{join_of}

-- there and back
pub join-below : (n : ℕ) (s : List ℕ) → length s ≡ n → Octets s → n ≡ 8 → join_of s < 18446744073709551616
join-below n [] l o e = omega arith
join-below n (a ∷ []) l o e = absurd (omega arith)
join-below n (a ∷ b ∷ []) l o e = absurd (omega arith)
join-below n (a ∷ b ∷ c ∷ []) l o e = absurd (omega arith)
join-below n (a ∷ b ∷ c ∷ d ∷ []) l o e = absurd (omega arith)
join-below n (a ∷ b ∷ c ∷ d ∷ x ∷ []) l o e = absurd (omega arith)
join-below n (a ∷ b ∷ c ∷ d ∷ x ∷ f ∷ []) l o e = absurd (omega arith)
join-below n (a ∷ b ∷ c ∷ d ∷ x ∷ f ∷ g ∷ []) l o e = absurd (omega arith)
join-below n (a ∷ b ∷ c ∷ d ∷ x ∷ f ∷ g ∷ h ∷ []) l o e =
    omega (arith, o.0, o.1.0, o.1.1.0, o.1.1.1.0, o.1.1.1.1.0, o.1.1.1.1.1.0, o.1.1.1.1.1.1.0, o.1.1.1.1.1.1.1.0)
join-below n (a ∷ b ∷ c ∷ d ∷ x ∷ f ∷ g ∷ h ∷ i ∷ s) l o e = absurd (omega arith)

join-octets : (n : ℕ) (s : List ℕ) → length s ≡ 2 * n → Octets s → octets_in n (join_of s) ≡ s
join-octets zero [] l o = refl
join-octets zero (a ∷ s) l o = absurd (omega arith)
join-octets (suc n) [] l o = absurd (omega arith)
join-octets (suc n) (a ∷ []) l o = absurd (omega arith)
join-octets (suc n) (a ∷ b ∷ s) l o =
    let p : (a + 256 * (b + 256 * join_of s)) % 256 ≡ a = omega (arith, o.0) in
    let q : (a + 256 * (b + 256 * join_of s)) / 256 ≡ b + 256 * join_of s = omega (arith, o.0) in
    let r : (b + 256 * join_of s) % 256 ≡ b = omega (arith, o.1.0) in
    let u : (a + 256 * (b + 256 * join_of s)) / 65536 ≡ join_of s = omega (arith, o.0, o.1.0) in
    rw (p, q, r, u, join-octets n s (omega arith) o.1.1)

pub joined-seen : (s : List ℕ) → length s ≡ 8 → Octets s → octets_seen (join_of s) ≡ s
joined-seen s l o = join-octets 4 s l o

-- all zero is the number 0
zero-step : (a n : ℕ) (z : Bool) → z ≡ eqb n 0 → (eqb a 0 && z) ≡ eqb (a + 256 * n) 0
zero-step a n z e = go (eqb a 0) (eqb n 0) refl refl
  where
    go : (x y : Bool) → eqb a 0 ≡ x → eqb n 0 ≡ y → (x && z) ≡ eqb (a + 256 * n) 0
    go true true p q = e ∙ q ∙ sym (eq-eqb (a + 256 * n) 0 (omega (arith, eqb-true a 0 p, eqb-true n 0 q)))
    go true false p q = e ∙ q ∙ sym (ne_eqb (a + 256 * n) 0 (λ k. eqb-false n 0 q (omega arith)))
    go false y p q = sym (ne_eqb (a + 256 * n) 0 (λ k. eqb-false a 0 p (omega arith)))

pub all-zero : (s : List ℕ) → all_zero s ≡ eqb (join_of s) 0
all-zero [] = refl
all-zero (a ∷ s) = zero-step a (join_of s) (all_zero s) (all-zero s)

-- a side as it is written, octet by octet
pub side-written : (side : ℕ) → ◌≡◌ {A = List ℕ} (side % 256 ∷ side / 256 % 256 ∷ side / 65536 % 256 ∷ side / 16777216 % 256 ∷ side / 4294967296 % 256 ∷ side / 1099511627776 % 256
    ∷ side / 281474976710656 % 256 ∷ side / 72057594037927936 % 256 ∷ []) (octets_seen side)
side-written side =
    let a : side / 65536 / 256 ≡ side / 16777216 = omega arith in
    let b : side / 65536 / 65536 ≡ side / 4294967296 = omega arith in
    let c : side / 4294967296 / 256 ≡ side / 1099511627776 = omega arith in
    let d : side / 4294967296 / 65536 ≡ side / 281474976710656 = omega arith in
    let e : side / 281474976710656 / 256 ≡ side / 72057594037927936 = omega arith in
    rw (b, d, a, c, e)
