-- A side and its octets, there and back; what a side can hold, and the two changes that keep it so.
use mathlib.Core.Path.{◌≡◌, refl, sym, ap, ◌∙◌}
use mathlib.Core.Bool.{Bool, true, false, cond, not, ◌&&◌, ◌||◌, false≢true}
use mathlib.Core.List.{List, [], ◌∷◌, ◌++◌}
use Prim.Native.Nat.{ℕ, zero, suc, ◌+◌, ◌*◌, ◌/◌, ◌%◌, ◌<◌, ◌≤◌}
use native.Mathlib.Omega.{arith}
use borrow.Author.Tests.{eqb-true, eqb-false, eq-eqb, ne_eqb, le-leb, leb-true, leb-false, not-true}
use lib.Dec.{eqb, leb}
use lib.IntN.{ℤ}
use lib.ListN.{length, length-append}
use Rattle.octets.specs.Octets.{Octets}
use Rattle.octets.proofs.TestLaws.{both}
use Rattle.codes.specs.Ids.{id_of, octet_of}
use Rattle.codes.proofs.IdLaws.{IsId, is-id, octet-back, id-back}
use Rattle.sides.specs.Side.{Waiting, places, same_id, among, full, without, each_listed, none_twice, holds_side, side_of, side_octets, all_zero, sound_side}
use Rattle.sides.specs.Seen.{octets_in, octets_seen, side_seen, Settled, joined_at, shifted, before, with_last, without_id}
use Rattle.sides.proofs.Numbers.{power, first_of, side-most}
use Rattle.sides.proofs.Steps.{first-is}

-- ids that one octet can say, and operations that are none but 0
abbrev pub Held : List Waiting → Type 0
Held [] = Unit {0}
Held (w ∷ ws) = (IsId w.id × (w.operation ≡ 0 → ⊥)) × Held ws

abbrev pub Ids : List Waiting → Type 0
Ids [] = Unit {0}
Ids (w ∷ ws) = IsId w.id × Ids ws

-- what is read from octets
held-step : (b : Bool) (id operation : ℕ) (ws : List Waiting) → eqb operation 0 ≡ b → id < 256 → Held ws
    → Held (cond {A = List Waiting} b [] (record { id = id_of id; operation = operation } ∷ ws))
held-step true id operation ws e l h = tt
held-step false id operation ws e l h = ((is-id id l, eqb-false operation 0 e), h)

pub held_of : (s : List ℕ) → Octets s → Held (side_of s)
unfolding side_of
held_of [] h = tt
held_of (a ∷ []) h = tt
held_of (a ∷ b ∷ s) h = held-step (eqb b 0) a b (side_of s) refl h.0 (held_of s h.1.1)

-- what is written is read back
pub side-back : (n : ℕ) (ws : List Waiting) → length ws ≤ n → Held ws → side_of (side_octets n ws) ≡ ws
unfolding side_of side_octets
side-back zero [] l h = refl
side-back zero (w ∷ ws) l h = absurd (omega arith)
side-back (suc n) [] l h = refl
side-back (suc n) (w ∷ ws) l h =
    rw (ne_eqb w.operation 0 h.0.1, side-back n ws (omega arith) h.1)
    (ap (λ (z : ℤ). record { id = z; operation = w.operation } ∷ ws) (id-back h.0.0))

-- zeros are the octets of a side in which nothing waits
pub none-octets : (n : ℕ) (s : List ℕ) → length s ≡ 2 * n → all_zero s ≡ true → side_octets n [] ≡ s
unfolding side_octets
none-octets zero [] l h = refl
none-octets zero (a ∷ s) l h = absurd (omega arith)
none-octets (suc n) [] l h = absurd (omega arith)
none-octets (suc n) (a ∷ []) l h = absurd (omega arith)
none-octets (suc n) (a ∷ b ∷ s) l h =
    let p = both (eqb a 0) (eqb b 0 && all_zero s) h in
    let q = both (eqb b 0) (all_zero s) p.1 in
    rw (eqb-true a 0 p.0, eqb-true b 0 q.0, none-octets n s (omega arith) q.1)

pub none-zero : (n : ℕ) → all_zero (side_octets n []) ≡ true
unfolding side_octets
none-zero zero = refl
none-zero (suc n) = none-zero n

pub octets-length : (n : ℕ) (ws : List Waiting) → length (side_octets n ws) ≡ 2 * n
unfolding side_octets
octets-length zero ws = refl
octets-length (suc n) [] = let k = octets-length n [] in omega arith
octets-length (suc n) (w ∷ ws) = let k = octets-length n ws in omega arith

pub zero-sound : (listed : ℕ → Bool) (n : ℕ) (s : List ℕ) → length s ≡ 2 * n → all_zero s ≡ true → sound_side listed s ≡ true
unfolding sound_side
zero-sound listed n [] l h = refl
zero-sound listed n (a ∷ []) l h = absurd (omega arith)
zero-sound listed n (a ∷ b ∷ s) l h =
    let p = both (eqb a 0) (eqb b 0 && all_zero s) h in
    let q = both (eqb b 0) (all_zero s) p.1 in
    rw (q.0, p.0, q.1)

module _ (listed : ℕ → Bool) where
  -- a sound side is read and written back as it stands
  back_step : (b : Bool) (n a o : ℕ) (s : List ℕ) → eqb o 0 ≡ b → a < 256 → length s ≡ 2 * n
      → cond b (eqb a 0 && all_zero s) (listed o && not (among (id_of a) (side_of s)) && sound_side listed s) ≡ true
      → (sound_side listed s ≡ true → side_octets n (side_of s) ≡ s)
      → side_octets (suc n) (cond {A = List Waiting} b [] (record { id = id_of a; operation = o } ∷ side_of s)) ≡ a ∷ o ∷ s
  unfolding side_octets
  back_step true n a o s e l k h g =
      let p = both (eqb a 0) (all_zero s) h in
      rw (eqb-true a 0 p.0, eqb-true o 0 e, none-octets n s k p.1)
  back_step false n a o s e l k h g =
      let p = both (listed o && not (among (id_of a) (side_of s))) (sound_side listed s) h in
      rw (octet-back a l, g p.1)

  pub sound_back : (n : ℕ) (s : List ℕ) → length s ≡ 2 * n → Octets s → sound_side listed s ≡ true → side_octets n (side_of s) ≡ s
  unfolding side_of sound_side side_octets
  sound_back zero [] l o h = refl
  sound_back zero (a ∷ s) l o h = absurd (omega arith)
  sound_back (suc n) [] l o h = absurd (omega arith)
  sound_back (suc n) (a ∷ []) l o h = absurd (omega arith)
  sound_back (suc n) (a ∷ b ∷ s) l o h = back_step (eqb b 0) n a b s refl o.0 (omega arith) h (sound_back n s (omega arith) o.1.1)

  -- it holds what a side can hold
  abbrev Fit : ℕ → List Waiting → Type 0
  Fit n ws = (length ws ≤ n) × ((each_listed listed ws ≡ true) × (none_twice ws ≡ true))

  fit-step : (b : Bool) (n a o : ℕ) (s : List ℕ)
      → cond b (eqb a 0 && all_zero s) (listed o && not (among (id_of a) (side_of s)) && sound_side listed s) ≡ true
      → (sound_side listed s ≡ true → Fit n (side_of s))
      → Fit (suc n) (cond {A = List Waiting} b [] (record { id = id_of a; operation = o } ∷ side_of s))
  unfolding each_listed none_twice
  fit-step true n a o s h g = (omega arith, (refl, refl))
  fit-step false n a o s h g =
      let p = both (listed o && not (among (id_of a) (side_of s))) (sound_side listed s) h in
      let q = both (listed o) (not (among (id_of a) (side_of s))) p.0 in
      let r = g p.1 in
      (omega (arith, r.0), (rw (q.0, r.1.0), rw (q.1, r.1.1)))

  sound-fit : (n : ℕ) (s : List ℕ) → length s ≡ 2 * n → sound_side listed s ≡ true → Fit n (side_of s)
  unfolding side_of sound_side each_listed none_twice
  sound-fit n [] l h = (omega arith, (refl, refl))
  sound-fit n (a ∷ []) l h = absurd (omega arith)
  sound-fit zero (a ∷ b ∷ s) l h = absurd (omega arith)
  sound-fit (suc n) (a ∷ b ∷ s) l h = fit-step (eqb b 0) n a b s h (sound-fit n s (omega arith))

  holds-fit : (ws : List Waiting) → Fit 4 ws → holds_side listed ws ≡ true
  unfolding holds_side
  holds-fit ws h = rw (le-leb (length ws) 4 h.0, h.1.0, h.1.1)

  pub fit_of : (ws : List Waiting) → holds_side listed ws ≡ true → Fit 4 ws
  unfolding holds_side
  fit_of ws h =
      let p = both (leb (length ws) 4 && each_listed listed ws) (none_twice ws) h in
      let q = both (leb (length ws) 4) (each_listed listed ws) p.0 in
      (leb-true (length ws) 4 q.0, (q.1, p.1))

  pub sound-holds : (s : List ℕ) → length s ≡ 8 → sound_side listed s ≡ true → holds_side listed (side_of s) ≡ true
  sound-holds s l h = holds-fit (side_of s) (sound-fit 4 s l h)

  -- and what it can hold is written as a sound side
  module _ (zero-not : listed 0 ≡ false) where
    used-of : (o : ℕ) → listed o ≡ true → o ≡ 0 → ⊥
    used-of o h e = false≢true (sym zero-not ∙ ap listed (sym e) ∙ h)

    pub held-listed : (ws : List Waiting) → each_listed listed ws ≡ true → Ids ws → Held ws
    unfolding each_listed
    held-listed [] h i = tt
    held-listed (w ∷ ws) h i =
        let p = both (listed w.operation) (each_listed listed ws) h in
        ((i.0, used-of w.operation p.0), held-listed ws p.1 i.1)

    written-sound : (n : ℕ) (ws : List Waiting) → length ws ≤ n → each_listed listed ws ≡ true → none_twice ws ≡ true → Ids ws → sound_side listed (side_octets n ws) ≡ true
    unfolding sound_side side_octets each_listed none_twice
    written-sound zero [] l e t i = refl
    written-sound zero (w ∷ ws) l e t i = absurd (omega arith)
    written-sound (suc n) [] l e t i = none-zero n
    written-sound (suc n) (w ∷ ws) l e t i =
        let p = both (listed w.operation) (each_listed listed ws) e in
        let q = both (not (among w.id ws)) (none_twice ws) t in
        rw (
          ne_eqb w.operation 0 (used-of w.operation p.0),
          id-back i.0,
          side-back n ws (omega arith) (held-listed ws p.1 i.1),
          p.0,
          q.0,
          written-sound n ws (omega arith) p.1 q.1 i.1,
        )

    pub holds-sound : (ws : List Waiting) → holds_side listed ws ≡ true → Ids ws → sound_side listed (side_octets places ws) ≡ true
    holds-sound ws h i = let f = fit_of ws h in written-sound 4 ws f.0 f.1.0 f.1.1 i

-- one more behind the last: whether an id is among them, and what a side can hold
among-last : (id : ℤ) (ws : List Waiting) (v : Waiting) → among id (ws ++ (v ∷ [])) ≡ (among id ws || same_id v.id id)
unfolding among
among-last id [] v = go (same_id v.id id)
  where
    go : (b : Bool) → (b || false) ≡ b
    go true = refl
    go false = refl
among-last id (w ∷ ws) v = go (same_id w.id id) (among-last id ws v)
  where
    go : (b : Bool) → among id (ws ++ (v ∷ [])) ≡ (among id ws || same_id v.id id)
        → (b || among id (ws ++ (v ∷ []))) ≡ ((b || among id ws) || same_id v.id id)
    go true e = refl
    go false e = e

same-both : (a b : ℤ) → same_id a b ≡ same_id b a
same-both a b = go (same_id a b) refl
  where
    go : (z : Bool) → same_id a b ≡ z → z ≡ same_id b a
    go true e = sym (eq-eqb (octet_of b) (octet_of a) (sym (eqb-true (octet_of a) (octet_of b) e)))
    go false e = sym (ne_eqb (octet_of b) (octet_of a) (λ k. eqb-false (octet_of a) (octet_of b) e (sym k)))

pub neither : (a b : Bool) → (a || b) ≡ false → (a ≡ false) × (b ≡ false)
neither true b e = absurd (false≢true (sym e))
neither false b e = (refl, e)

none-twice-last : (ws : List Waiting) (v : Waiting) → none_twice ws ≡ true → among v.id ws ≡ false → none_twice (ws ++ (v ∷ [])) ≡ true
unfolding none_twice among
none-twice-last [] v h n = refl
none-twice-last (w ∷ ws) v h n =
    let p = both (not (among w.id ws)) (none_twice ws) h in
    let q = neither (same_id w.id v.id) (among v.id ws) n in
    rw (among-last w.id ws v, not-true (among w.id ws) p.0, same-both v.id w.id, q.0, none-twice-last ws v p.1 q.1)

module _ (listed : ℕ → Bool) where
  each_last : (ws : List Waiting) (v : Waiting) → each_listed listed ws ≡ true → listed v.operation ≡ true → each_listed listed (ws ++ (v ∷ [])) ≡ true
  unfolding each_listed
  each_last [] v h l = rw l
  each_last (w ∷ ws) v h l =
      let p = both (listed w.operation) (each_listed listed ws) h in
      rw (p.0, each_last ws v p.1 l)

  pub holds-last : (ws : List Waiting) (v : Waiting) → holds_side listed ws ≡ true → full ws ≡ false → among v.id ws ≡ false → listed v.operation ≡ true
      → holds_side listed (ws ++ (v ∷ [])) ≡ true
  unfolding full
  holds-last ws v h f n l =
      let p = fit_of listed ws h in
      let k = leb-false 4 (length ws) f in
      holds-fit listed (ws ++ (v ∷ [])) (rw (length-append ws (v ∷ [])) (omega arith), (each_last ws v p.1.0 l, none-twice-last ws v p.1.1 n))

  pub holds-first : (v : Waiting) → listed v.operation ≡ true → holds_side listed (v ∷ []) ≡ true
  unfolding each_listed none_twice among
  holds-first v l = holds-fit listed (v ∷ []) (omega arith, (rw l, refl))

  pub holds-none : holds_side listed [] ≡ true
  unfolding each_listed none_twice
  holds-none = holds-fit listed [] (omega arith, (refl, refl))

-- one taken out: no other comes in
less-length : (b : Bool) (w : Waiting) (ws vs : List Waiting) → length vs ≤ length ws → length (cond {A = List Waiting} b ws (w ∷ vs)) ≤ suc (length ws)
less-length true w ws vs h = omega arith
less-length false w ws vs h = omega arith

without-length : (id : ℤ) (ws : List Waiting) → length (without id ws) ≤ length ws
unfolding without
without-length id [] = omega arith
without-length id (w ∷ ws) = less-length (same_id w.id id) w ws (without id ws) (without-length id ws)

gone-step : (b s x y : Bool) → (s || x) ≡ false → (x ≡ false → y ≡ false) → (cond b x (s || y)) ≡ false
gone-step true true x y e h = absurd (false≢true (sym e))
gone-step true false x y e h = e
gone-step false true x y e h = absurd (false≢true (sym e))
gone-step false false x y e h = h e

among-cond : (i : ℤ) (b : Bool) (w : Waiting) (ws vs : List Waiting) → among i (cond {A = List Waiting} b ws (w ∷ vs)) ≡ cond b (among i ws) (same_id w.id i || among i vs)
unfolding among
among-cond i true w ws vs = refl
among-cond i false w ws vs = refl

stays_out : (i id : ℤ) (ws : List Waiting) → among i ws ≡ false → among i (without id ws) ≡ false
unfolding among without
stays_out i id [] h = refl
stays_out i id (w ∷ ws) h =
    among-cond i (same_id w.id id) w ws (without id ws)
    ∙ gone-step (same_id w.id id) (same_id w.id i) (among i ws) (among i (without id ws)) h (stays_out i id ws)

twice-cond : (b : Bool) (w : Waiting) (ws vs : List Waiting) → none_twice ws ≡ true → (not (among w.id vs) && none_twice vs) ≡ true → none_twice (cond {A = List Waiting} b ws (w ∷ vs)) ≡ true
unfolding none_twice
twice-cond true w ws vs h k = h
twice-cond false w ws vs h k = k

none-twice-less : (id : ℤ) (ws : List Waiting) → none_twice ws ≡ true → none_twice (without id ws) ≡ true
unfolding none_twice without
none-twice-less id [] h = refl
none-twice-less id (w ∷ ws) h =
    let p = both (not (among w.id ws)) (none_twice ws) h in
    twice-cond (same_id w.id id) w ws (without id ws) p.1
    (rw (stays_out w.id id ws (not-true (among w.id ws) p.0), none-twice-less id ws p.1))

each-cond : (listed : ℕ → Bool) (b : Bool) (w : Waiting) (ws vs : List Waiting) → each_listed listed ws ≡ true → (listed w.operation && each_listed listed vs) ≡ true
    → each_listed listed (cond {A = List Waiting} b ws (w ∷ vs)) ≡ true
unfolding each_listed
each-cond listed true w ws vs h k = h
each-cond listed false w ws vs h k = k

each-less : (listed : ℕ → Bool) (id : ℤ) (ws : List Waiting) → each_listed listed ws ≡ true → each_listed listed (without id ws) ≡ true
unfolding each_listed without
each-less listed id [] h = refl
each-less listed id (w ∷ ws) h =
    let p = both (listed w.operation) (each_listed listed ws) h in
    each-cond listed (same_id w.id id) w ws (without id ws) p.1 (rw (p.0, each-less listed id ws p.1))

pub holds-less : (listed : ℕ → Bool) (id : ℤ) (ws : List Waiting) → holds_side listed ws ≡ true → holds_side listed (without id ws) ≡ true
holds-less listed id ws h =
    let p = fit_of listed ws h in
    let k = without-length id ws in
    holds-fit listed (without id ws) (omega (arith, p.0), (each-less listed id ws p.1.0, none-twice-less id ws p.1.1))

ids-cond : (b : Bool) (w : Waiting) (ws vs : List Waiting) → Ids ws → IsId w.id → Ids vs → Ids (cond {A = List Waiting} b ws (w ∷ vs))
ids-cond true w ws vs h i k = h
ids-cond false w ws vs h i k = (i, k)

pub ids-less : (id : ℤ) (ws : List Waiting) → Ids ws → Ids (without id ws)
unfolding without
ids-less id [] h = tt
ids-less id (w ∷ ws) h = ids-cond (same_id w.id id) w ws (without id ws) h.1 h.0 (ids-less id ws h.1)

pub ids-last : (ws : List Waiting) (v : Waiting) → Ids ws → IsId v.id → Ids (ws ++ (v ∷ []))
ids-last [] v h i = (i, tt)
ids-last (w ∷ ws) v h i = (h.0, ids-last ws v h.1 i)

pub held-ids : (ws : List Waiting) → Held ws → Ids ws
held-ids [] h = tt
held-ids (w ∷ ws) h = (h.0.0, held-ids ws h.1)

-- the numbers: one more behind the last
zeros-in : (n : ℕ) → octets_in n 0 ≡ side_octets n []
unfolding side_octets
zeros-in zero = refl
zeros-in (suc n) = ap (λ (s : List ℕ). 0 ∷ 0 ∷ s) (zeros-in n)

-- the octets of a first place, by the place alone
second-octet : (side : ℕ) → side % 65536 / 256 ≡ side / 256 % 256
second-octet side =
    let d : side / 256 ≡ 256 * (side / 65536) + side % 65536 / 256 = omega arith in
    let m : (256 * (side / 65536) + side % 65536 / 256) % 256 ≡ side % 65536 / 256 = omega arith in
    rw d (sym m)

two-octets : (place rest : ℕ) → place < 65536 → (place + 65536 * rest) / 256 % 256 ≡ place / 256
two-octets place rest h =
    let q : (place + 65536 * rest) / 256 ≡ place / 256 + 256 * rest = omega arith in
    rw q (omega arith)

-- a first place kept, and others behind it
place-first : (n side rest : ℕ) (ws : List Waiting) → octets_in n rest ≡ side_octets n ws → octets_in (suc n) (side % 65536 + 65536 * rest) ≡ side_octets (suc n) (first_of side ∷ ws)
unfolding side_octets
place-first n side rest ws h =
    let a : (side % 65536 + 65536 * rest) % 256 ≡ side % 256 = omega arith in
    let b = two-octets (side % 65536) rest (omega arith) ∙ second-octet side in
    let d : (side % 65536 + 65536 * rest) / 65536 ≡ rest = omega arith in
    rw (a, b, d, octet-back (side % 256) (omega arith), h)

last-in : (ws : List Waiting) (n side place : ℕ) → side_of (octets_in n side) ≡ ws → length ws < n → place < 65536
    → octets_in n (joined_at (length ws) side place) ≡ side_octets n (ws ++ (first_of place ∷ []))
unfolding side_octets
last-in ws zero side place e l p = absurd (omega arith)
last-in [] (suc n) side place e l p =
    let z : place / 65536 ≡ 0 = omega arith in
    rw (z, octet-back (place % 256) (omega arith), zeros-in n)
last-in (w ∷ ws) (suc n) side place e l p =
    let f = first-is n side w ws e in
    rw (← f.1.0) (place-first n side (joined_at (length ws) (side / 65536) place) (ws ++ (first_of place ∷ [])) (last-in ws n (side / 65536) place f.1.1 (omega arith) p))

pub last-octets : (side : ℕ) (id : ℤ) (operation : ℕ) → full (side_seen side) ≡ false → (operation ≡ 0 → ⊥) → operation < 256 → octet_of id < 256 → id_of (octet_of id) ≡ id
    → octets_seen (with_last side id operation) ≡ side_octets places (side_seen side ++ (record { id = id; operation = operation } ∷ []))
unfolding full
last-octets side id operation f z o b i =
    let k = leb-false 4 (length (side_seen side)) f in
    let a : (octet_of id + 256 * operation) % 256 ≡ octet_of id = omega arith in
    let q : (octet_of id + 256 * operation) / 256 ≡ operation = omega arith in
    let d : operation % 256 ≡ operation = omega arith in
    let g = last-in (side_seen side) 4 side (octet_of id + 256 * operation) refl (omega arith) (omega arith) in
    rw (f, ne_eqb operation 0 z) (rw (a, q, d, i) at g)

-- the place with an id taken out
more-octets : (n side : ℕ) → side < power n → octets_in (suc n) side ≡ octets_in n side ++ (0 ∷ 0 ∷ [])
more-octets zero side h = let z : side ≡ 0 = omega arith in rw z
more-octets (suc n) side h = ap (λ (s : List ℕ). side % 256 ∷ side / 256 % 256 ∷ s) (more-octets n (side / 65536) (omega arith))

more-places : (n : ℕ) (ws : List Waiting) → length ws ≤ n → side_octets (suc n) ws ≡ side_octets n ws ++ (0 ∷ 0 ∷ [])
unfolding side_octets
more-places zero [] l = refl
more-places zero (w ∷ ws) l = absurd (omega arith)
more-places (suc n) [] l = ap (λ (s : List ℕ). 0 ∷ 0 ∷ s) (more-places n [] (omega arith))
more-places (suc n) (w ∷ ws) l = ap (λ (s : List ℕ). octet_of w.id ∷ w.operation ∷ s) (more-places n ws (omega arith))

behind-octets : (n side : ℕ) (w : Waiting) (ws : List Waiting) → octets_in (suc n) side ≡ side_octets (suc n) (w ∷ ws) → octets_in n (side / 65536) ≡ side_octets n ws
unfolding side_octets
behind-octets n side w ws e = cc

cleared-step : (b : Bool) (id : ℤ) (n side : ℕ) (w : Waiting) (ws : List Waiting) → length ws ≤ n → side / 65536 < power n → first_of side ≡ w
    → octets_in n (side / 65536) ≡ side_octets n ws → (b ≡ false → octets_in n (joined_at (before id ws) (side / 65536) (shifted (before id ws) (side / 65536) / 65536)) ≡ side_octets n (without id ws))
    → octets_in (suc n) (joined_at (cond b 0 (suc (before id ws))) side (shifted (cond b 0 (suc (before id ws))) side / 65536)) ≡ side_octets (suc n) (cond {A = List Waiting} b ws (w ∷ without id ws))
cleared-step true id n side w ws l h f e g = more-octets n (side / 65536) h ∙ ap (λ (s : List ℕ). s ++ (0 ∷ 0 ∷ [])) e ∙ sym (more-places n ws l)
cleared-step false id n side w ws l h f e g =
    rw (← f) (place-first n side (joined_at (before id ws) (side / 65536) (shifted (before id ws) (side / 65536) / 65536)) (without id ws) (g refl))

else-there : (b z : Bool) → (b || z) ≡ true → b ≡ false → z ≡ true
else-there true z e h = absurd (false≢true (sym h))
else-there false z e h = e

cleared-in : (id : ℤ) (ws : List Waiting) (n side : ℕ) → side_of (octets_in n side) ≡ ws → octets_in n side ≡ side_octets n ws → side < power n → length ws ≤ n → among id ws ≡ true
    → octets_in n (joined_at (before id ws) side (shifted (before id ws) side / 65536)) ≡ side_octets n (without id ws)
unfolding among without
cleared-in id [] n side e o h l a = absurd (false≢true a)
cleared-in id (w ∷ ws) zero side e o h l a = absurd (omega arith)
cleared-in id (w ∷ ws) (suc n) side e o h l a =
    let f = first-is n side w ws e in
    let k = behind-octets n side w ws o in
    cleared-step (same_id w.id id) id n side w ws (omega arith) (omega arith) f.1.0 k
    (λ b. cleared-in id ws n (side / 65536) f.1.1 k (omega arith) (omega arith) (else-there (same_id w.id id) (among id ws) a b))

pub without-none : (id : ℤ) (ws : List Waiting) → among id ws ≡ false → without id ws ≡ ws
unfolding among without
without-none id [] h = refl
without-none id (w ∷ ws) h =
    let q = neither (same_id w.id id) (among id ws) h in
    rw (q.0, without-none id ws q.1)

pub cleared-octets : (side : ℕ) (id : ℤ) → side < 18446744073709551616 → Settled side → octets_seen (without_id id side) ≡ side_octets places (without id (side_seen side))
cleared-octets side id l s = go (among id (side_seen side)) refl
  where
    go : (b : Bool) → among id (side_seen side) ≡ b
        → octets_seen (cond b (joined_at (before id (side_seen side)) side (shifted (before id (side_seen side)) side / 65536)) side) ≡ side_octets places (without id (side_seen side))
    go true a = cleared-in id (side_seen side) 4 side refl s (omega arith) (side-most 4 side) a
    go false a = s ∙ ap (side_octets places) (sym (without-none id (side_seen side) a))
