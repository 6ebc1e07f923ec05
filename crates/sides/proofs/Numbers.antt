-- A side as a number: its first place and the rest, and how many places there are to look at.
use mathlib.Core.Path.{◌≡◌, refl, sym, ap}
use mathlib.Core.Bool.{Bool, true, false, cond, not, ◌&&◌}
use mathlib.Core.List.{List, [], ◌∷◌}
use Prim.Native.Nat.{ℕ, zero, suc, ◌*◌, ◌/◌, ◌%◌, ◌<◌, ◌≤◌}
use native.Mathlib.Omega.{arith}
use borrow.Author.Tests.{eqb-true, eq-eqb, ne_eqb}
use lib.Dec.{eqb}
use lib.ListN.{length}
use Rattle.octets.proofs.TestLaws.{both}
use Rattle.codes.specs.Ids.{id_of}
use Rattle.sides.specs.Side.{Waiting, among, side_of, all_zero, sound_side}
use Rattle.sides.specs.Seen.{octets_in, octets_seen, side_seen, joined_at, shifted}

-- the numbers of n places are below this
abbrev pub power : ℕ → ℕ
power zero = 1
power (suc n) = 65536 * power n

-- the first place of a side
abbrev pub first_of : ℕ → Waiting
first_of side = record { id = id_of (side % 256); operation = side / 256 % 256 }

-- a place more, where nothing stands
pub side-more : (n side : ℕ) → side < power n → side_of (octets_in (suc n) side) ≡ side_of (octets_in n side)
unfolding side_of
side-more zero side h = let z : side ≡ 0 = omega arith in rw z
side-more (suc n) side h = rw (side-more n (side / 65536) (omega arith))

-- the first place and the rest
pub side-used : (side : ℕ) → side < 18446744073709551616 → (side / 256 % 256 ≡ 0 → ⊥) → side_seen side ≡ first_of side ∷ side_seen (side / 65536)
unfolding side_of
side-used side l h = rw (ne_eqb (side / 256 % 256) 0 h) (ap (λ (ws : List Waiting). first_of side ∷ ws) (sym (side-more 3 (side / 65536) (omega arith))))

pub side-none : (side : ℕ) → side / 256 % 256 ≡ 0 → side_seen side ≡ []
unfolding side_of
side-none side h = rw (eq-eqb (side / 256 % 256) 0 h)

most : (b : Bool) (w : Waiting) (ws : List Waiting) (n : ℕ) → length ws ≤ n → length (cond {A = List Waiting} b [] (w ∷ ws)) ≤ suc n
most true w ws n h = omega arith
most false w ws n h = omega arith

pub side-most : (n side : ℕ) → length (side_of (octets_in n side)) ≤ n
unfolding side_of
side-most zero side = omega arith
side-most (suc n) side = most (eqb (side / 256 % 256) 0) (first_of side) (side_of (octets_in n (side / 65536))) n (side-most n (side / 65536))

-- zeros in all places are the number 0
pub zero_of : (n side : ℕ) → side < power n → all_zero (octets_in n side) ≡ true → side ≡ 0
zero_of zero side h z = omega arith
zero_of (suc n) side h z =
    let a = both _ _ z in
    let b = both _ _ a.1 in
    let c = zero_of n (side / 65536) (omega arith) b.1 in
    omega (arith, eqb-true (side % 256) 0 a.0, eqb-true (side / 256 % 256) 0 b.0)

zero_more : (n side : ℕ) → side < power n → all_zero (octets_in (suc n) side) ≡ all_zero (octets_in n side)
zero_more zero side h = let z : side ≡ 0 = omega arith in rw z
zero_more (suc n) side h = rw (zero_more n (side / 65536) (omega arith))

module _ (listed : ℕ → Bool) where
  sound_more : (n side : ℕ) → side < power n → sound_side listed (octets_in (suc n) side) ≡ sound_side listed (octets_in n side)
  unfolding sound_side side_of
  sound_more zero side h = let z : side ≡ 0 = omega arith in rw z
  sound_more (suc n) side h =
      let l : side / 65536 < power n = omega arith in
      rw (zero_more n (side / 65536) l, side-more n (side / 65536) l, sound_more n (side / 65536) l)

  -- the first place looked at, and the rest
  pub sound-zero : sound_side listed (octets_seen 0) ≡ true
  unfolding sound_side
  sound-zero = refl

  pub sound-step : (side : ℕ) → side < 18446744073709551616 → (side / 256 % 256 ≡ 0 → ⊥)
      → sound_side listed (octets_seen side) ≡ (listed (side / 256 % 256) && not (among (id_of (side % 256)) (side_seen (side / 65536))) && sound_side listed (octets_seen (side / 65536)))
  unfolding sound_side
  sound-step side l h =
      let k : side / 65536 < power 3 = omega arith in
      rw (ne_eqb (side / 256 % 256) 0 h, ← side-more 3 (side / 65536) k, ← sound_more 3 (side / 65536) k)

  stale : (side : ℕ) → side < 18446744073709551616 → side / 256 % 256 ≡ 0 → (b : Bool) → (eqb (side % 256) 0 && all_zero (octets_in 3 (side / 65536))) ≡ b → (side ≡ 0 → ⊥) → b ≡ false
  stale side l h false e n = refl
  stale side l h true e n =
      let a = both _ _ e in
      let c = zero_of 3 (side / 65536) (omega arith) a.1 in
      absurd (n (omega (arith, eqb-true (side % 256) 0 a.0)))

  pub sound-stale : (side : ℕ) → side < 18446744073709551616 → side / 256 % 256 ≡ 0 → (side ≡ 0 → ⊥) → sound_side listed (octets_seen side) ≡ false
  unfolding sound_side
  sound-stale side l h n = rw (eq-eqb (side / 256 % 256) 0 h) (stale side l h _ refl n)

-- places put together, and taken apart
abbrev scaled : ℕ → ℕ → ℕ
scaled zero n = n
scaled (suc i) n = 65536 * scaled i n

joined-below : (i n side behind : ℕ) → behind < n → joined_at i side behind < scaled i n
joined-below zero n side behind h = h
joined-below (suc i) n side behind h = let k = joined-below i n (side / 65536) behind h in omega arith

shifted-below : (i n side : ℕ) → side < scaled i n → shifted i side < n
shifted-below zero n side h = h
shifted-below (suc i) n side h = shifted-below i n (side / 65536) (omega arith)

pub shifted-suc : (i side : ℕ) → shifted (suc i) side ≡ shifted i side / 65536
shifted-suc zero side = refl
shifted-suc (suc i) side = shifted-suc i (side / 65536)

-- another place goes in where fewer than four are used
pub last_fits : (i side place : ℕ) → i < 4 → place < 65536 → joined_at i side place < 18446744073709551616
last_fits zero side place l h = omega arith
last_fits (suc zero) side place l h = let k = joined-below 1 65536 side place h in omega arith
last_fits (suc (suc zero)) side place l h = let k = joined-below 2 65536 side place h in omega arith
last_fits (suc (suc (suc zero))) side place l h = let k = joined-below 3 65536 side place h in omega arith
last_fits (suc (suc (suc (suc i)))) side place l h = absurd (omega arith)

-- and so do those behind a place, moved up
pub moved-fits : (i side : ℕ) → i < 4 → side < 18446744073709551616 → joined_at i side (shifted i side / 65536) < 18446744073709551616
moved-fits zero side l h = omega arith
moved-fits (suc zero) side l h =
    let a = shifted-below 1 281474976710656 side h in
    let k = joined-below 1 4294967296 side (shifted 1 side / 65536) (omega arith) in
    omega arith
moved-fits (suc (suc zero)) side l h =
    let a = shifted-below 2 4294967296 side h in
    let k = joined-below 2 65536 side (shifted 2 side / 65536) (omega arith) in
    omega arith
moved-fits (suc (suc (suc zero))) side l h =
    let a = shifted-below 3 65536 side h in
    let k = joined-below 3 1 side (shifted 3 side / 65536) (omega arith) in
    omega arith
moved-fits (suc (suc (suc (suc i)))) side l h = absurd (omega arith)
