-- Entries and their images, what is read of a table after an entry was written, which tables are sound, what a change leaves, and
-- the lowest closed value.
use mathlib.Core.Path.{◌≡◌, refl, sym, ap, ◌∙◌}
use mathlib.Core.Bool.{Bool, true, false, cond, not, ◌&&◌, ◌||◌, false≢true}
use mathlib.Core.List.{List, [], ◌∷◌}
use mathlib.Core.Option.{none, some}
use Prim.Native.Nat.{ℕ, zero, suc, ◌+◌, ◌*◌, ◌-◌, ◌<◌, ◌≤◌}
use native.Mathlib.Nat.{add-zero}
use native.Mathlib.Omega.{arith}
use borrow.Author.Tests.{eqb-true, eqb-false, eq-eqb, ltb-true, ltb-false, le-leb, leb-true}
use lib.Dec.{eqb, ltb, leb, lit<}
use lib.ListN.{length, get_or, take, drop, length-append}
use lib.Seq.{ext_get_or, take_at, drop_at, take_all}
use Rattle.octets.proofs.TestLaws.{both}
use Rattle.octets.specs.Octets.{Octets}
use Rattle.octets.specs.Part.{between}
use Rattle.octets.specs.Splice.{splice}
use Rattle.octets.proofs.OctetsLaws.{octets-take, octets-drop}
use Rattle.octets.proofs.PartLaws.{length-between, get_d_between}
use Rattle.octets.proofs.SpliceLaws.{length-splice, get_or-within, get_or-before, get_or-behind}
use Rattle.codes.specs.Operations.{begins, waits}
use Rattle.sides.specs.Side.{Waiting, places, is_empty, holds_side, side_of, side_octets, all_zero, sound_side}
use Rattle.sides.proofs.SideLaws.{Ids, held_of, held-ids, side-back, none-octets, none-zero, octets-length, sound_back, fit_of, sound-holds, held-listed, holds-sound}
use Rattle.table.specs.Table.{Entry, size, Image, image_in, no_image, image_at, entry_of, sound_image, entry_at, sound_entries, valid, added, state_of, entry_octets, with_entry, lowest_from, lowest_closed, holds}

three : (a b c : Bool) → (a && b && c) ≡ true → (a ≡ true) × ((b ≡ true) × (c ≡ true))
three true true c e = (refl, (refl, e))
three true false c e = absurd (false≢true e)
three false b c e = absurd (false≢true e)

-- the operation 0 is on neither side
pub begins-none : begins 0 ≡ false
begins-none = refl

pub waits-none : waits 0 ≡ false
waits-none = refl

-- the octets of an entry as an image
abbrev image_of : Entry → Image
image_of e = record { state = state_of e; own = side_octets places e.own; peer = side_octets places e.peer }

-- the state of an open entry is not 0
open-state : (p q : Bool) → eqb (1 + added p 2 + added q 4) 0 ≡ false
open-state true true = refl
open-state true false = refl
open-state false true = refl
open-state false false = refl

-- a test of each number below n
module _ (f : ℕ → Bool) where
  abbrev below : ℕ → Bool
  below zero = true
  below (suc n) = below n && f n

  last_or : (n k : ℕ) → k < suc n → f n ≡ true → (k < n → f k ≡ true) → (b : Bool) → ltb k n ≡ b → f k ≡ true
  last_or n k l h g true e = g (ltb-true k n e)
  last_or n k l h g false e = let z : k ≡ n = omega (arith, ltb-false k n e) in rw z h

  each : (n : ℕ) → below n ≡ true → (k : ℕ) → k < n → f k ≡ true
  each zero h k l = absurd (omega arith)
  each (suc n) h k l = last_or n k l (both (below n) (f n) h).1 (each n (both (below n) (f n) h).0 k) (ltb k n) refl

  of-each : (n : ℕ) → ((k : ℕ) → k < n → f k ≡ true) → below n ≡ true
  of-each zero h = refl
  of-each (suc n) h = rw (of-each n (λ k l. h k (omega arith)), h n (omega arith))

-- the three parts of what an image can hold
pub holds_parts : (e : Entry) → holds e ≡ true
    → (holds_side begins e.own ≡ true) × ((holds_side waits e.peer ≡ true) × ((e.is_open || (is_empty e.own && is_empty e.peer)) ≡ true))
unfolding holds
holds_parts e h = three (holds_side begins e.own) (holds_side waits e.peer) _ h

pub open-holds : (p q : List Waiting) → holds_side begins p ≡ true → holds_side waits q ≡ true → holds (record { is_open = true; own = p; peer = q }) ≡ true
unfolding holds
open-holds p q h k = rw (h, k)

-- an entry that an image can hold is read back from its image
module _ (o : Bool) (p q : List Waiting) where
  abbrev made : Entry
  made = record { is_open = o; own = p; peer = q }

state-back : (o : Bool) (p q : List Waiting) → not (eqb (state_of (made o p q)) 0) ≡ o
unfolding state_of
state-back true p q = rw (open-state (not (is_empty p)) (not (is_empty q)))
state-back false p q = refl

-- both sides as they were
sides-back : (e : Entry) → holds e ≡ true → Ids e.own → Ids e.peer
    → (side_of (side_octets places e.own) ≡ e.own) × (side_of (side_octets places e.peer) ≡ e.peer)
sides-back e h i j =
    let w = holds_parts e h in
    let a = fit_of begins e.own w.0 in
    let b = fit_of waits e.peer w.1.0 in
    (side-back 4 e.own a.0 (held-listed begins begins-none e.own a.1.0 i), side-back 4 e.peer b.0 (held-listed waits waits-none e.peer b.1.0 j))

entry-back : (e : Entry) → holds e ≡ true → Ids e.own → Ids e.peer → entry_of (image_of e) ≡ e
unfolding entry_of
entry-back e h i j = let s = sides-back e h i j in rw (s.0, s.1, state-back e.is_open e.own e.peer)

empty-none : (ws : List Waiting) → is_empty ws ≡ true → ws ≡ []
empty-none [] h = refl
empty-none (w ∷ ws) h = absurd (false≢true h)

closed-zero : (o : Bool) (p q : List Waiting) → (o || (is_empty p && is_empty q)) ≡ true → (o || (all_zero (side_octets places p) && all_zero (side_octets places q))) ≡ true
closed-zero true p q h = refl
closed-zero false p q h =
    let a = both (is_empty p) (is_empty q) h in
    rw (empty-none p a.0, empty-none q a.1, none-zero 4)

image-sound : (e : Entry) → holds e ≡ true → Ids e.own → Ids e.peer → sound_image (image_of e) ≡ true
unfolding sound_image
image-sound e h i j =
    let w = holds_parts e h in
    rw (
      entry-back e h i j,
      eq-eqb (state_of e) (state_of e) refl,
      holds-sound begins begins-none e.own w.0 i,
      holds-sound waits waits-none e.peer w.1.0 j,
      state-back e.is_open e.own e.peer,
    )
    (closed-zero e.is_open e.own e.peer w.1.1)

-- eight octets a side
abbrev pub Eight : Image → Type 0
Eight i = (length i.own ≡ 8) × (length i.peer ≡ 8)

-- what a sound image is made of
sound-parts : (i : Image) → sound_image i ≡ true
    → ((i.state ≡ state_of (entry_of i)) × (sound_side begins i.own ≡ true))
    × ((sound_side waits i.peer ≡ true) × ((not (eqb i.state 0) || (all_zero i.own && all_zero i.peer)) ≡ true))
unfolding sound_image
sound-parts i h =
    let w = both (eqb i.state (state_of (entry_of i)) && sound_side begins i.own && sound_side waits i.peer) _ h in
    let v = three (eqb i.state (state_of (entry_of i))) (sound_side begins i.own) (sound_side waits i.peer) w.0 in
    ((eqb-true i.state (state_of (entry_of i)) v.0, v.1.0), (v.1.1, w.1))

none-waits : (b : Bool) (p q : List ℕ) → length p ≡ 8 → length q ≡ 8 → (b || (all_zero p && all_zero q)) ≡ true → (b || (is_empty (side_of p) && is_empty (side_of q))) ≡ true
none-waits true p q l m h = refl
none-waits false p q l m h =
    let a = both (all_zero p) (all_zero q) h in
    rw (← none-octets 4 p l a.0, ← none-octets 4 q m a.1, side-back 4 [] (omega arith) tt)

pub sound-image-holds : (i : Image) → Eight i → sound_image i ≡ true → holds (entry_of i) ≡ true
unfolding holds entry_of
sound-image-holds i l h =
    let w = sound-parts i h in
    rw (sound-holds begins i.own l.0 w.0.1, sound-holds waits i.peer l.1 w.1.0)
    (none-waits (not (eqb i.state 0)) i.own i.peer l.0 l.1 w.1.1)

-- a sound side is written as it was read
pub settled-own : (i : Image) → Eight i → Octets i.own → sound_image i ≡ true → side_octets places (side_of i.own) ≡ i.own
settled-own i l o h = sound_back begins 4 i.own l.0 o (sound-parts i h).0.1

pub settled-peer : (i : Image) → Eight i → Octets i.peer → sound_image i ≡ true → side_octets places (side_of i.peer) ≡ i.peer
settled-peer i l o h = sound_back waits 4 i.peer l.1 o (sound-parts i h).1.0

entry_length : (e : Entry) → length (entry_octets e) ≡ 17
unfolding entry_octets
entry_length e =
    let a = length-append (side_octets places e.own) (side_octets places e.peer) in
    let b = octets-length 4 e.own in
    let c = octets-length 4 e.peer in
    omega arith

-- a part of what was written, and of what stands before or behind it
part-within : (t : List ℕ) (at : ℕ) (w : List ℕ) (i j : ℕ) → at + length w ≤ length t → i ≤ j → j ≤ length w → between (at + i) (at + j) (splice t at w) ≡ between i j w
part-within t at w i j h l m =
    let n : length (between (at + i) (at + j) (splice t at w)) ≡ j - i = length-between (at + i) (at + j) (splice t at w) (rw (length-splice t at w h) (omega arith)) ∙ omega arith in
    let d : length (between i j w) ≡ j - i = length-between i j w m in
    ext_get_or 0 (between (at + i) (at + j) (splice t at w)) (between i j w) (n ∙ sym d)
    (λ k x.
    let e : at + i + k ≡ at + (i + k) = omega arith in
    get_d_between (at + i) (at + j) (splice t at w) k (omega (arith, n))
    ∙ ap (λ (z : ℕ). get_or (splice t at w) z 0) e
    ∙ get_or-within t at w (i + k) (omega arith) (omega (arith, n))
    ∙ sym (get_d_between i j w k (omega (arith, n))))

same-part : (s t : List ℕ) (i j : ℕ) → length s ≡ length t → i ≤ j → j ≤ length t → ((k : ℕ) → i ≤ k → k < j → get_or s k 0 ≡ get_or t k 0) → between i j s ≡ between i j t
same-part s t i j l h m g =
    let n : length (between i j s) ≡ j - i = length-between i j s (omega arith) in
    let d : length (between i j t) ≡ j - i = length-between i j t m in
    ext_get_or 0 (between i j s) (between i j t) (n ∙ sym d)
    (λ k x. get_d_between i j s k (omega (arith, n)) ∙ g (i + k) (omega arith) (omega (arith, n)) ∙ sym (get_d_between i j t k (omega (arith, n))))

-- the entry that the table has
pub image-in : (t : List ℕ) (k : ℕ) → size * k + size ≤ length t → image_at t k ≡ image_in t k
image-in t k h = rw (le-leb (size * k + size) (length t) h)

pub eight-in : (t : List ℕ) (k : ℕ) → size * k + size ≤ length t → Eight (image_in t k)
eight-in t k h = (length-between (size * k + 1) (size * k + 9) t (omega arith) ∙ omega arith, length-between (size * k + 9) (size * k + 17) t (omega arith) ∙ omega arith)

pub octets-in : (t : List ℕ) (k : ℕ) → Octets t → Octets (image_in t k).own × Octets (image_in t k).peer
octets-in t k o = (octets-take (size * k + 9 - (size * k + 1)) (drop (size * k + 1) t) (octets-drop (size * k + 1) t o), octets-take (size * k + 17 - (size * k + 9)) (drop (size * k + 9) t) (octets-drop (size * k + 9) t o))

-- an entry written into a table in which it fits
module _ (t : List ℕ) (k : ℕ) (e : Entry) (fits : size * k + size ≤ length t) where
  pub length-with : length (with_entry t k e) ≡ length t
  unfolding with_entry
  length-with = length-splice t (size * k) (entry_octets e) (rw (entry_length e) fits)

  own-written : between (size * k + 1) (size * k + 9) (with_entry t k e) ≡ side_octets places e.own
  unfolding with_entry entry_octets
  own-written =
      let n = entry_length e in
      part-within t (size * k) (entry_octets e) 1 9 (rw n fits) (omega arith) (rw n (omega arith))
      ∙ take_at (side_octets places e.own) (side_octets places e.peer) 8 (octets-length 4 e.own)

  peer-written : between (size * k + 9) (size * k + 17) (with_entry t k e) ≡ side_octets places e.peer
  unfolding with_entry entry_octets
  peer-written =
      let n = entry_length e in
      let l = octets-length 4 e.peer in
      part-within t (size * k) (entry_octets e) 9 17 (rw n fits) (omega arith) (rw n (omega arith))
      ∙ ap (take 8) (drop_at (side_octets places e.own) (side_octets places e.peer) 8 (octets-length 4 e.own))
      ∙ take_all 8 (side_octets places e.peer) (omega arith)

  state-written : get_or (with_entry t k e) (size * k) 0 ≡ state_of e
  unfolding with_entry entry_octets
  state-written =
      let n = entry_length e in
      rw add-zero at (get_or-within t (size * k) (entry_octets e) 0 (omega arith) (rw n (lit< tt)))

  image-written : image_at (with_entry t k e) k ≡ image_of e
  image-written =
      image-in (with_entry t k e) k (rw length-with fits)
      ∙ rw (state-written, own-written, peer-written)

  pub read-written : holds e ≡ true → Ids e.own → Ids e.peer → entry_at (with_entry t k e) k ≡ e
  unfolding entry_at
  read-written h i j = rw image-written (entry-back e h i j)

  pub open-written : e.is_open ≡ true → (entry_at (with_entry t k e) k).is_open ≡ true
  unfolding entry_at entry_of
  open-written o = rw image-written (state-back e.is_open e.own e.peer ∙ o)

  other : (j : ℕ) → (j ≡ k → ⊥) → (b : Bool) → ltb j k ≡ b → (i : ℕ) → size * j ≤ i → i < size * j + size → get_or (with_entry t k e) i 0 ≡ get_or t i 0
  unfolding with_entry
  other j n true q i l m =
      let z = ltb-true j k q in
      get_or-before t (size * k) (entry_octets e) i (omega arith) (omega arith)
  other j n false q i l m =
      let z = ltb-false j k q in
      let y : k < j = omega arith in
      get_or-behind t (size * k) (entry_octets e) i (omega arith) (rw (entry_length e) (omega arith))

  same_at : (j : ℕ) → (j ≡ k → ⊥) → (b : Bool) → leb (size * j + size) (length t) ≡ b → cond b (image_in (with_entry t k e) j) no_image ≡ cond b (image_in t j) no_image
  same_at j n false q = refl
  same_at j n true q =
      let l = leb-true (size * j + size) (length t) q in
      let o = other j n (ltb j k) refl in
      let a = o (size * j) (omega arith) (omega arith) in
      let b = same-part (with_entry t k e) t (size * j + 1) (size * j + 9) length-with (omega arith) (omega arith) (λ i x y. o i (omega arith) (omega arith)) in
      let c = same-part (with_entry t k e) t (size * j + 9) (size * j + 17) length-with (omega arith) (omega arith) (λ i x y. o i (omega arith) (omega arith)) in
      rw (a, b, c)

pub images-stay : (t : List ℕ) (j k : ℕ) (e : Entry) → size * k + size ≤ length t → (j ≡ k → ⊥) → image_at (with_entry t k e) j ≡ image_at t j
images-stay t j k e l n = rw (length-with t k e l) (same_at t k e l j n (leb (size * j + size) (length t)) refl)

pub others-stay : (t : List ℕ) (j k : ℕ) (e : Entry) → size * k + size ≤ length t → (j ≡ k → ⊥) → entry_at (with_entry t k e) j ≡ entry_at t j
unfolding entry_at
others-stay t j k e l n = ap entry_of (images-stay t j k e l n)

-- the first n entries are sound: each of them is
entries_below : (t : List ℕ) (n : ℕ) → sound_entries t n ≡ below (λ k. sound_image (image_at t k)) n
unfolding sound_entries
entries_below t zero = refl
entries_below t (suc n) = ap (λ (b : Bool). b && sound_image (image_at t n)) (entries_below t n)

-- a table is valid exactly when it has 238 octets and each entry is sound
pub valid-each : (t : List ℕ) → valid t ≡ true → (length t ≡ 238) × ((k : ℕ) → k < 14 → sound_image (image_at t k) ≡ true)
unfolding valid
valid-each t h =
    let w = both (eqb (length t) 238) (sound_entries t 14) h in
    (eqb-true (length t) 238 w.0, each (λ k. sound_image (image_at t k)) 14 (sym (entries_below t 14) ∙ w.1))

pub each-valid : (t : List ℕ) → length t ≡ 238 → ((k : ℕ) → k < 14 → sound_image (image_at t k) ≡ true) → valid t ≡ true
unfolding valid
each-valid t l h = rw (eq-eqb (length t) 238 l, entries_below t 14) (of-each (λ k. sound_image (image_at t k)) 14 h)

pub fits-at : (t : List ℕ) (k : ℕ) → valid t ≡ true → k < 14 → size * k + size ≤ length t
fits-at t k h l = omega (arith, (valid-each t h).0)

pub valid-entry : (t : List ℕ) (k : ℕ) → valid t ≡ true → k < 14 → sound_image (image_in t k) ≡ true
valid-entry t k h l = rw (← image-in t k (fits-at t k h l)) ((valid-each t h).1 k l)

pub entry_in : (t : List ℕ) (k : ℕ) → size * k + size ≤ length t → entry_at t k ≡ entry_of (image_in t k)
unfolding entry_at
entry_in t k l = ap entry_of (image-in t k l)

pub holds_at : (t : List ℕ) (k : ℕ) → valid t ≡ true → k < 14 → holds (entry_at t k) ≡ true
holds_at t k h l =
    let f = fits-at t k h l in
    rw (entry_in t k f) (sound-image-holds (image_in t k) (eight-in t k f) (valid-entry t k h l))

pub ids_at : (t : List ℕ) (k : ℕ) → Octets t → size * k + size ≤ length t → Ids (entry_at t k).own × Ids (entry_at t k).peer
unfolding entry_of
ids_at t k o f =
    let w = octets-in t k o in
    rw (entry_in t k f) (held-ids (side_of (image_in t k).own) (held_of (image_in t k).own w.0), held-ids (side_of (image_in t k).peer) (held_of (image_in t k).peer w.1))

pub valid-with : (t : List ℕ) (k : ℕ) (e : Entry) → valid t ≡ true → k < 14 → holds e ≡ true → Ids e.own → Ids e.peer → valid (with_entry t k e) ≡ true
valid-with t k e h l g x y =
    let v = valid-each t h in
    let f = fits-at t k h l in
    each-valid (with_entry t k e) (length-with t k e f ∙ v.0) (λ j m. here-or f v.1 j m (eqb j k) refl)
  where
    here-or : size * k + size ≤ length t → ((j : ℕ) → j < 14 → sound_image (image_at t j) ≡ true) → (j : ℕ) → j < 14 → (b : Bool) → eqb j k ≡ b
        → sound_image (image_at (with_entry t k e) j) ≡ true
    here-or f v j m true q = rw (eqb-true j k q, image-written t k e f) (image-sound e g x y)
    here-or f v j m false q = rw (images-stay t j k e f (eqb-false j k q)) (v j m)

-- what holds of v and of all behind it
here_or_on : (t : List ℕ) (v w : ℕ) → (entry_at t v).is_open ≡ true → ((j : ℕ) → suc v ≤ j → j < w → (entry_at t j).is_open ≡ true)
    → (j : ℕ) → v ≤ j → j < w → (b : Bool) → ltb v j ≡ b → (entry_at t j).is_open ≡ true
here_or_on t v w o h j l m true q = h j (ltb-true v j q) m
here_or_on t v w o h j l m false q = let z : j ≡ v = omega (arith, ltb-false v j q) in rw z o

-- w is the lowest closed of n values from v on
Lowest : List ℕ → ℕ → ℕ → ℕ → Type 0
Lowest t v n w = (v ≤ w) × (w < v + n) × ((entry_at t w).is_open ≡ false) × ((j : ℕ) → v ≤ j → j < w → (entry_at t j).is_open ≡ true)

lowest_step : (t : List ℕ) (v n w : ℕ) → (lowest_from t (suc v) n ≡ some w → Lowest t (suc v) n w) → (b : Bool) → (entry_at t v).is_open ≡ b
    → cond b (lowest_from t (suc v) n) (some v) ≡ some w → Lowest t v (suc n) w
unfolding Lowest
lowest_step t v n w g true q h =
    let r = g h in
    (omega arith, omega arith, r.2, λ j l m. here_or_on t v w q r.3 j l m (ltb v j) refl)
lowest_step t v n w g false q h =
    let e : v ≡ w = cc in
    (omega arith, omega arith, rw e at q, λ j l m. absurd (omega arith))

lowest-from : (t : List ℕ) (v n w : ℕ) → lowest_from t v n ≡ some w → Lowest t v n w
unfolding lowest_from
lowest-from t v zero w h = let z : ◌≡◌ {A = ℕ} 0 1 = cc in absurd (omega arith)
lowest-from t v (suc n) w h = lowest_step t v n w (lowest-from t (suc v) n w) (entry_at t v).is_open refl h

none-step : (t : List ℕ) (v n : ℕ) → (lowest_from t (suc v) n ≡ none → (j : ℕ) → suc v ≤ j → j < suc v + n → (entry_at t j).is_open ≡ true)
    → (b : Bool) → (entry_at t v).is_open ≡ b → cond b (lowest_from t (suc v) n) (some v) ≡ none → (j : ℕ) → v ≤ j → j < v + suc n → (entry_at t j).is_open ≡ true
none-step t v n g true q h j l m = here_or_on t v (v + suc n) q (λ i a b. g h i a (omega arith)) j l m (ltb v j) refl
none-step t v n g false q h j l m = let z : ◌≡◌ {A = ℕ} 0 1 = cc in absurd (omega arith)

none_from : (t : List ℕ) (v n : ℕ) → lowest_from t v n ≡ none → (j : ℕ) → v ≤ j → j < v + n → (entry_at t j).is_open ≡ true
unfolding lowest_from
none_from t v zero h j l m = absurd (omega arith)
none_from t v (suc n) h j l m = none-step t v n (none_from t (suc v) n) (entry_at t v).is_open refl h j l m

pub lowest-closed-is : (t : List ℕ) (v : ℕ) → lowest_closed t ≡ some v → (v < 7) × ((entry_at t v).is_open ≡ false) × ((j : ℕ) → j < v → (entry_at t j).is_open ≡ true)
unfolding lowest_closed Lowest
lowest-closed-is t v h =
    let r = lowest-from t 0 7 v h in
    (omega arith, r.2, λ j l. r.3 j (omega arith) l)

pub lowest-closed-none : (t : List ℕ) → lowest_closed t ≡ none → (j : ℕ) → j < 7 → (entry_at t j).is_open ≡ true
unfolding lowest_closed
lowest-closed-none t h j l = none_from t 0 7 h j (omega arith) (omega arith)
