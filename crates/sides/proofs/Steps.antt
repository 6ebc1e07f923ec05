-- What the code's proofs cite: a turn of each loop, and what the answers say.
use mathlib.Core.Path.{◌≡◌, refl, sym, ap, ◌∙◌}
use mathlib.Core.Bool.{Bool, true, false, cond, not, ◌&&◌, ◌||◌, false≢true}
use Rattle.std.proofs.Math.Bool.{and-false}
use mathlib.Core.List.{List, [], ◌∷◌}
use mathlib.Core.Logic.{◌⊎◌, inl, inr}
use Prim.Native.Nat.{ℕ, zero, suc, ◌+◌, ◌*◌, ◌/◌, ◌%◌, ◌<◌, ◌≤◌}
use native.Mathlib.Omega.{arith}
use borrow.Author.Tests.{eqb-true, eqb-false, eq-eqb, ne_eqb, lt-leb}
use lib.Dec.{eqb, leb}
use lib.IntN.{ℤ}
use lib.ListN.{length}
use Rattle.codes.specs.Ids.{id_of, octet_of}
use Rattle.codes.proofs.IdLaws.{octet-back}
use Rattle.sides.specs.Side.{Waiting, same_id, among, full, operation_of, is_empty, side_of, sound_side}
use Rattle.sides.specs.Seen.{octets_in, octets_seen, side_seen, listed_for, joined_at, shifted, before, place_of, found_in, with_last}
use Rattle.std.specs.Prelude.{Option, None, Some}
use Rattle.sides.specs.declared.Found.{Found}
use Rattle.sides.proofs.Numbers.{first_of, power, side-used, side-none, side-most, last_fits, moved-fits, sound-step, sound-stale}

module _ (side : ℕ) (l : side < 18446744073709551616) (h : side / 256 % 256 ≡ 0 → ⊥) where
  -- one more is used
  pub one_more : length (side_seen side) ≡ suc (length (side_seen (side / 65536)))
  one_more = ap length (side-used side l h)

  -- the id in the first place
  same_first : (id : ℤ) → same_id (id_of (side % 256)) id ≡ eqb (side % 256) (octet_of id)
  same_first id = rw (octet-back (side % 256) (omega arith))

  pub found_here : (id : ℤ) → side % 256 ≡ octet_of id → (before id (side_seen side) ≡ 0) × (among id (side_seen side) ≡ true)
  unfolding among
  found_here id e = rw (side-used side l h, same_first id, eq-eqb (side % 256) (octet_of id) e) (refl, refl)

  pub found-behind : (id : ℤ) → (side % 256 ≡ octet_of id → ⊥)
      → (before id (side_seen side) ≡ suc (before id (side_seen (side / 65536)))) × (among id (side_seen side) ≡ among id (side_seen (side / 65536)))
  unfolding among
  found-behind id n = rw (side-used side l h, same_first id, ne_eqb (side % 256) (octet_of id) n) (refl, refl)

pub found_nowhere : (id : ℤ) (side : ℕ) → side / 256 % 256 ≡ 0 → among id (side_seen side) ≡ false
unfolding among
found_nowhere id side h = rw (side-none side h)

-- no place lies behind the last
before-step : (b : Bool) (n m : ℕ) → n ≤ m → cond b 0 (suc n) ≤ suc m
before-step true n m h = omega arith
before-step false n m h = omega arith

before-most : (id : ℤ) (ws : List Waiting) → before id ws ≤ length ws
before-most id [] = omega arith
before-most id (w ∷ ws) = before-step (same_id w.id id) (before id ws) (length ws) (before-most id ws)

pub before-four : (id : ℤ) (side : ℕ) → before id (side_seen side) ≤ 4
before-four id side = omega (arith, before-most id (side_seen side), side-most 4 side)

-- where the search ends
pub found-is : {z id : ℤ} → z ≡ id → (side place rest : ℕ) → place ≡ before z (side_seen side) → rest ≡ shifted place side → among z (side_seen side) ≡ true
    → ◌≡◌ {A = Option Found} (Some (record { place = place; rest = rest })) (found_in id side)
found-is e side place rest p r a = rw (← e, a, r, p)

pub found-none : {z id : ℤ} → z ≡ id → (side : ℕ) → among z (side_seen side) ≡ false → ◌≡◌ {A = Option Found} None (found_in id side)
found-none e side a = rw (← e, a)

-- what was found says whether the id is among them, and where
module _ (id : ℤ) (side : ℕ) where
  pub there_of : (f : Found) → Some f ≡ found_in id side → (among id (side_seen side) ≡ true) × (f ≡ place_of id side)
  there_of f e = go (among id (side_seen side)) e
    where
      go : (b : Bool) → Some f ≡ cond b (Some (place_of id side)) None → (b ≡ true) × (f ≡ place_of id side)
      go true k = (refl, cc)
      go false k = cc

  pub none_of : ◌≡◌ {A = Option Found} None (found_in id side) → among id (side_seen side) ≡ false
  none_of e = go (among id (side_seen side)) e
    where
      go : (b : Bool) → ◌≡◌ {A = Option Found} None (cond b (Some (place_of id side)) None) → b ≡ false
      go true k = cc
      go false k = refl

-- the first place of a side that has one
split : (b : Bool) (x w : Waiting) (l ws : List Waiting) → cond {A = List Waiting} b [] (x ∷ l) ≡ w ∷ ws → (b ≡ false) × ((x ≡ w) × (l ≡ ws))
split true x w l ws e = let z : ◌≡◌ {A = ℕ} 0 1 = cc in absurd (omega arith)
split false x w l ws e = (refl, (cc, cc))

pub first-is : (n side : ℕ) (w : Waiting) (ws : List Waiting) → side_of (octets_in (suc n) side) ≡ w ∷ ws
    → (eqb (side / 256 % 256) 0 ≡ false) × ((first_of side ≡ w) × (side_of (octets_in n (side / 65536)) ≡ ws))
unfolding side_of
first-is n side w ws e = split (eqb (side / 256 % 256) 0) (first_of side) w (side_of (octets_in n (side / 65536))) ws e

none_first : (n side : ℕ) → side < power n → side_of (octets_in n side) ≡ [] → side / 256 % 256 ≡ 0
unfolding side_of
none_first zero side h e = omega arith
none_first (suc n) side h e = eqb-true (side / 256 % 256) 0 (go (eqb (side / 256 % 256) 0) e)
  where
    go : (b : Bool) → cond {A = List Waiting} b [] (first_of side ∷ side_of (octets_in n (side / 65536))) ≡ [] → b ≡ true
    go true k = refl
    go false k = let z : ◌≡◌ {A = ℕ} 0 1 = cc in absurd (omega arith)

-- the operation that stands where the id was found
operation-step : (b : Bool) (side o n i : ℕ) → side / 256 % 256 ≡ o → shifted i (side / 65536) / 256 % 256 ≡ n
    → shifted (cond b 0 (suc i)) side / 256 % 256 ≡ cond b o n
operation-step true side o n i p q = p
operation-step false side o n i p q = q

pub no_place : (w : Waiting) (ws : List Waiting) → side_of [] ≡ w ∷ ws → ⊥
unfolding side_of
no_place w ws e = let z : ◌≡◌ {A = ℕ} 0 1 = cc in absurd (omega arith)

operation-found : (id : ℤ) (ws : List Waiting) (n side : ℕ) → side < power n → side_of (octets_in n side) ≡ ws
    → shifted (before id ws) side / 256 % 256 ≡ operation_of id ws
unfolding operation_of
operation-found id [] n side h e = none_first n side h e
operation-found id (w ∷ ws) zero side h e = absurd (no_place w ws e)
operation-found id (w ∷ ws) (suc n) side h e =
    let f = first-is n side w ws e in
    operation-step (same_id w.id id) side w.operation (operation_of id ws) (before id ws) (ap (λ (v : Waiting). v.operation) f.1.0) (operation-found id ws n (side / 65536) (omega arith) f.1.1)

pub operation-at : (id : ℤ) (side : ℕ) → side < 18446744073709551616 → shifted (before id (side_seen side)) side / 256 % 256 ≡ operation_of id (side_seen side)
operation-at id side l = operation-found id (side_seen side) 4 side (omega arith) refl

none-step : (b z : Bool) (o n : ℕ) → (b || z) ≡ false → (z ≡ false → n ≡ 0) → cond b o n ≡ 0
none-step true z o n e h = absurd (false≢true (sym e))
none-step false z o n e h = h e

pub operation-none : (id : ℤ) (ws : List Waiting) → among id ws ≡ false → operation_of id ws ≡ 0
unfolding operation_of among
operation-none id [] h = refl
operation-none id (w ∷ ws) h = none-step (same_id w.id id) (among id ws) w.operation (operation_of id ws) h (operation-none id ws)

-- no operation that waits is 0
used_step : (b z : Bool) (o n : ℕ) → eqb o 0 ≡ false → eqb n 0 ≡ not z → eqb (cond b o n) 0 ≡ not (b || z)
used_step true z o n p q = p
used_step false z o n p q = q

used-side : (id : ℤ) (w : Waiting) (ws : List Waiting) (b : Bool) → eqb w.operation 0 ≡ b → eqb (operation_of id ws) 0 ≡ not (among id ws)
    → eqb (operation_of id (cond {A = List Waiting} b [] (w ∷ ws))) 0 ≡ not (among id (cond {A = List Waiting} b [] (w ∷ ws)))
unfolding operation_of among
used-side id w ws true e h = refl
used-side id w ws false e h = used_step (same_id w.id id) (among id ws) w.operation (operation_of id ws) e h

used-in : (id : ℤ) (n side : ℕ) → eqb (operation_of id (side_of (octets_in n side))) 0 ≡ not (among id (side_of (octets_in n side)))
unfolding side_of operation_of among
used-in id zero side = refl
used-in id (suc n) side = used-side id (first_of side) (side_of (octets_in n (side / 65536))) (eqb (side / 256 % 256) 0) refl (used-in id n (side / 65536))

pub used-told : (id : ℤ) (side : ℕ) → eqb (operation_of id (side_seen side)) 0 ≡ not (among id (side_seen side))
used-told id side = used-in id 4 side

-- one that is among them has a place
less-step : (b z : Bool) (i n : ℕ) → (b || z) ≡ true → (z ≡ true → i < n) → cond b 0 (suc i) < suc n
less-step true z i n e h = omega arith
less-step false z i n e h = let k = h e in omega arith

before-less : (id : ℤ) (ws : List Waiting) → among id ws ≡ true → before id ws < length ws
unfolding among
before-less id [] e = absurd (false≢true e)
before-less id (w ∷ ws) e = less-step (same_id w.id id) (among id ws) (before id ws) (length ws) e (before-less id ws)

pub empty-told : (side : ℕ) → eqb (side / 256 % 256) 0 ≡ is_empty (side_seen side)
unfolding side_of
empty-told side = go (eqb (side / 256 % 256) 0)
  where
    go : (b : Bool) → b ≡ is_empty (cond {A = List Waiting} b [] (first_of side ∷ side_of (octets_in 3 (side / 65536))))
    go true = refl
    go false = refl

at-four : (n : ℕ) (b : Bool) → eqb n 4 ≡ b → n ≤ 4 → b ≡ leb 4 n
at-four n true e h = rw (eqb-true n 4 e)
at-four n false e h = let k = eqb-false n 4 e in sym (lt-leb 4 n (omega arith))

pub full-told : (side n : ℕ) → n ≡ length (side_seen side) → n ≤ 4 → eqb n 4 ≡ full (side_seen side)
unfolding full
full-told side n e h = at-four n (eqb n 4) refl h ∙ ap (leb 4) e

-- an invoke put behind the last
module _ (side n : ℕ) (e : n ≡ length (side_seen side)) (h : n ≤ 4) (id : ℤ) (operation : ℕ) where
  pub last_none : (n ≡ 4) ⊎ ((n ≡ 4 → ⊥) × (operation ≡ 0)) → side ≡ with_last side id operation
  last_none (inl q) = rw (sym (full-told side n e h) ∙ eq-eqb n 4 q)
  last_none (inr q) = rw (sym (full-told side n e h) ∙ ne_eqb n 4 q.0, eq-eqb operation 0 q.1)

  pub last_goes : operation < 256 → octet_of id < 256 → (n ≡ 4 → ⊥) → (n < 4) × (joined_at n side (octet_of id + 256 * operation) < 18446744073709551616)
  last_goes o i q = let k : n < 4 = omega arith in (k, last_fits n side (octet_of id + 256 * operation) k (omega arith))

  pub last-is : (n ≡ 4 → ⊥) → (operation ≡ 0 → ⊥) → joined_at n side (octet_of id + 256 * operation) ≡ with_last side id operation
  last-is q r = rw (sym (full-told side n e h) ∙ ne_eqb n 4 q, ne_eqb operation 0 r, e)

-- the place with an id taken out
pub moved-goes : (side : ℕ) (id : ℤ) → side < 18446744073709551616 → among id (side_seen side) ≡ true
    → (before id (side_seen side) < 4) × (joined_at (before id (side_seen side)) side (shifted (before id (side_seen side)) side / 65536) < 18446744073709551616)
moved-goes side id l a =
    let k = before-less id (side_seen side) a in
    let m = side-most 4 side in
    (omega arith, moved-fits (before id (side_seen side)) side (omega arith) l)

-- a turn of the check
none-zero : (ours : Bool) → listed_for ours 0 ≡ false
none-zero true = refl
none-zero false = refl

module _ (ours : Bool) (side : ℕ) (l : side < 18446744073709551616) where
  away : (side ≡ 0 → ⊥) → ((c : Bool) → (listed_for ours (side / 256 % 256) && not (among (id_of (side % 256)) (side_seen (side / 65536))) && c) ≡ false)
      → false ≡ sound_side (listed_for ours) (octets_seen side)
  away n t = go (eqb (side / 256 % 256) 0) refl
    where
      go : (b : Bool) → eqb (side / 256 % 256) 0 ≡ b → false ≡ sound_side (listed_for ours) (octets_seen side)
      go true e = sym (sound-stale (listed_for ours) side l (eqb-true (side / 256 % 256) 0 e) n)
      go false e = sym (sound-step (listed_for ours) side l (eqb-false (side / 256 % 256) 0 e) ∙ t _)

  pub unlisted-away : (side ≡ 0 → ⊥) → listed_for ours (side / 256 % 256) ≡ false → false ≡ sound_side (listed_for ours) (octets_seen side)
  unlisted-away n a = away n (λ c. rw a)

  pub twice-away : (side ≡ 0 → ⊥) → among (id_of (side % 256)) (side_seen (side / 65536)) ≡ true → false ≡ sound_side (listed_for ours) (octets_seen side)
  twice-away n a = away n (λ c. rw (a, and-false (listed_for ours (side / 256 % 256))))

  pub goes_on : listed_for ours (side / 256 % 256) ≡ true → among (id_of (side % 256)) (side_seen (side / 65536)) ≡ false
      → sound_side (listed_for ours) (octets_seen (side / 65536)) ≡ sound_side (listed_for ours) (octets_seen side)
  goes_on a b =
      sym (sound-step (listed_for ours) side l (λ z. absurd (false≢true (sym (none-zero ours) ∙ sym (ap (listed_for ours) z) ∙ a))) ∙ rw (a, b))
