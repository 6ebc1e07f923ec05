-- What the code's proofs cite: the test of an entry and of the image, the named entry, the scan for a closed value, and what a change
-- writes.
use mathlib.Core.Path.{◌≡◌, refl, sym, ap, subst, ◌∙◌}
use mathlib.Core.Bool.{Bool, true, false, cond, ◌&&◌, false≢true}
use Rattle.std.proofs.Math.Bool.{and-true, and-false}
use Rattle.std.proofs.Common.{set}
use mathlib.Core.List.{List, [], ◌∷◌, ◌++◌}
use mathlib.Core.Option.{none, some}
use Rattle.std.specs.Prelude.{Option, None, Some, MatchOption, MatchBool}
use Rattle.std.specs.List.{AllWithin, HoldsAt}
use Prim.Native.Nat.{ℕ, zero, suc, ◌+◌, ◌-◌, ◌*◌, ◌/◌, ◌<◌, ◌≤◌}
use native.Mathlib.Omega.{arith}
use borrow.Author.Tests.{ne_eqb, lt-leb}
use lib.Dec.{eqb}
use lib.IntN.{ℤ}
use lib.ListN.{length, get_or, take, drop, length-append}
use lib.Seq.{ext_get_or}
use Rattle.std.specs.Simd.{first_chunks}
use Rattle.std.proofs.lemmas.List.{drop-drop}
use Rattle.octets.specs.Part.{between}
use Rattle.octets.proofs.PartLaws.{length-between, get_d_between}
use Rattle.octets.specs.Octets.{Octets}
use Rattle.octets.specs.Splice.{splice}
use Rattle.octets.proofs.SpliceLaws.{splice-splice}
use Rattle.octets.proofs.TestLaws.{both}
use Rattle.codes.specs.Ids.{id_of, octet_of}
use Rattle.codes.specs.Operations.{begins, waits}
use Rattle.codes.proofs.IdLaws.{IsId, is-id}
use Rattle.sides.specs.Side.{Waiting, places, full, without, each_listed, holds_side, side_of, side_octets, all_zero, sound_side}
use Rattle.sides.specs.Seen.{octets_seen, with_last, without_id}
use Rattle.sides.proofs.SideLaws.{Ids, held_of, held-ids, side-back, fit_of, held-listed, last-octets, cleared-octets, ids-less, ids-last, zero-sound}
use Rattle.table.specs.Table.{Entry, closed, size, Image, image_in, image_at, sound_image, state_of, entry_of, entry_at, valid, entry_octets, with_entry, lowest_from, lowest_closed, holds}
use Rattle.table.specs.Change.{changed, with_change}
use Rattle.table.specs.Seen.{slot_seen, change_seen, FindsClosed}
use Rattle.table.specs.Raw.{join_of, slot_of, IsOctets, slot_octets, slot_changed, ChangeFits}
use Rattle.table.specs.declared.Slot.{Slot}
use Rattle.table.specs.declared.Change.{Change}
use Rattle.table.proofs.Joined.{join-below, joined-seen, all-zero}
use Rattle.table.proofs.TableLaws.{begins-none, waits-none, Eight, image-in, eight-in, each-valid, fits-at, valid-entry, entry_in, holds_parts, settled-own, settled-peer}

-- the numbers of an image say its entry
pub slot_is : (i : Image) → Eight i → IsOctets i → slot_seen (slot_of i) ≡ entry_of i
unfolding entry_of
slot_is i l o = rw (joined-seen i.own l.0 o.0, joined-seen i.peer l.1 o.1)

-- a closed entry is sound if all is 0
two : (listed : ℕ → Bool) (s : List ℕ) (b : Bool) → length s ≡ 8 → all_zero s ≡ b → b ≡ (sound_side listed s && b)
two listed s true l e = rw (zero-sound listed 4 s l e)
two listed s false l e = sym (and-false (sound_side listed s))

both_zero : (a b x y : Bool) → a ≡ (x && a) → b ≡ (y && b) → (a && b) ≡ (x && y && (a && b))
both_zero true true x y e f = rw (sym (e ∙ and-true x), sym (f ∙ and-true y))
both_zero true false x y e f = sym (and-false (x && y))
both_zero false b x y e f = sym (and-false (x && y))

pub closed_is : (i : Image) (state : ℕ) (slot : Slot) → i.state ≡ state → slot ≡ slot_of i → Eight i → state ≡ 0 → (eqb slot.own 0 && eqb slot.peer 0) ≡ sound_image i
unfolding sound_image entry_of state_of
closed_is i state slot z r l e =
    rw (r, z ∙ e, ← all-zero i.own, ← all-zero i.peer)
    (both_zero (all_zero i.own) (all_zero i.peer) (sound_side begins i.own) (sound_side waits i.peer) (two begins i.own (all_zero i.own) l.0 refl) (two waits i.peer (all_zero i.peer) l.1 refl))

-- an open one by its state and its sides
pub open_is : (i : Image) (state s : ℕ) (slot : Slot) → i.state ≡ state → slot ≡ slot_of i → Eight i → IsOctets i → (state ≡ 0 → ⊥) → s ≡ state_of (slot_seen slot)
    → (eqb state s && sound_side begins (octets_seen slot.own) && sound_side waits (octets_seen slot.peer)) ≡ sound_image i
unfolding sound_image
open_is i state s slot z r l o n e =
    rw (e, r, ← z, slot_is i l o, joined-seen i.own l.0 o.0, joined-seen i.peer l.1 o.1, ne_eqb i.state 0 (λ k. n (sym z ∙ k))) (sym (and-true _))

-- one octet written
pub set-splice : (d : List ℕ) (i v : ℕ) → i < length d → set d i v ≡ splice d i (v ∷ [])
unfolding splice
set-splice [] i v l = absurd (omega arith)
set-splice (a ∷ d) zero v l = refl
set-splice (a ∷ d) (suc i) v l = let e : suc i + 1 ≡ suc (i + 1) = omega arith in rw e (ap (λ (s : List ℕ). a ∷ s) (set-splice d i v (omega arith)))

-- the three writings are one
pub slot-written : (t u v w : List ℕ) (k at s : ℕ) (e : Slot) → at ≡ size * k → s ≡ state_of (slot_seen e) → size * k + size ≤ length t → u ≡ splice t at (s ∷ [])
    → v ≡ splice u (at + 1) (octets_seen e.own) → w ≡ splice v (at + 9) (octets_seen e.peer) → w ≡ splice t (size * k) (slot_octets e)
slot-written t u v w k at s e a b l x y z =
    let f : v ≡ splice t at (s ∷ octets_seen e.own) = y ∙ ap (λ (r : List ℕ). splice r (at + 1) (octets_seen e.own)) x ∙ splice-splice t at (s ∷ []) (octets_seen e.own) (omega arith) in
    z
    ∙ ap (λ (r : List ℕ). splice r (at + 9) (octets_seen e.peer)) f
    ∙ splice-splice t at (s ∷ octets_seen e.own) (octets_seen e.peer) (omega arith)
    ∙ rw (a, b)

-- an entry that the table hasn't
pub past_end : (t : List ℕ) (k : ℕ) → length t < size * k + size
    → ◌≡◌ {A = Slot} (record { «open» = false; own = 0; peer = 0 }) (slot_of (image_at t k)) × (slot_seen (record { «open» = false; own = 0; peer = 0 }) ≡ entry_at t k)
unfolding entry_at entry_of
past_end t k h = (rw (lt-leb (size * k + size) (length t) h), rw (lt-leb (size * k + size) (length t) h))

-- an entry by its octets
nested : (t : List ℕ) (a b i j : ℕ) → b ≤ length t → i ≤ j → a + j ≤ b → between i j (between a b t) ≡ between (a + i) (a + j) t
nested t a b i j h l m =
    let p : length (between a b t) ≡ b - a = length-between a b t h in
    let n : length (between i j (between a b t)) ≡ j - i = length-between i j (between a b t) (omega arith) in
    let d : length (between (a + i) (a + j) t) ≡ a + j - (a + i) = length-between (a + i) (a + j) t (omega arith) in
    ext_get_or 0 (between i j (between a b t)) (between (a + i) (a + j) t) (n ∙ omega (arith, d))
    (λ k x.
    let e : a + (i + k) ≡ a + i + k = omega arith in
    get_d_between i j (between a b t) k (omega (arith, n))
    ∙ get_d_between a b t (i + k) (omega (arith, n))
    ∙ ap (λ (z : ℕ). get_or t z 0) e
    ∙ sym (get_d_between (a + i) (a + j) t k (omega (arith, n))))

pub part-image : (t : List ℕ) (k : ℕ) → size * k + size ≤ length t → image_in (between (size * k) (size * k + size) t) 0 ≡ image_in t k
part-image t k h =
    let z : size * k + 0 ≡ size * k = omega arith in
    let s = get_d_between (size * k) (size * k + size) t 0 (omega arith) in
    rw (
      s,
      z,
      nested t (size * k) (size * k + size) 1 9 h (omega arith) (omega arith),
      nested t (size * k) (size * k + size) 9 17 h (omega arith) (omega arith),
    )

pub eight-of : (s : List ℕ) → length s ≡ size → Eight (image_in s 0)
eight-of s h = eight-in s 0 (omega arith)

pub within : (t : List ℕ) (k : ℕ) (s : List ℕ) (r : Slot) → size * k + size ≤ length t → s ≡ between (size * k) (size * k + size) t → r ≡ slot_of (image_in s 0) → IsOctets (image_in s 0)
    → (r ≡ slot_of (image_at t k)) × (slot_seen r ≡ entry_at t k)
within t k s r h p e o =
    let i : image_in s 0 ≡ image_in t k = ap (λ (x : List ℕ). image_in x 0) p ∙ part-image t k h in
    let q = e ∙ ap slot_of i in
    (rw (image-in t k h) q, ap slot_seen q ∙ slot_is (image_in t k) (eight-in t k h) (subst IsOctets i o) ∙ sym (entry_in t k h))

-- the image: another length, and every entry looked at
pub other_length : (t : List ℕ) → (length t ≡ 238 → ⊥) → eqb (length t) 238 ≡ valid t
unfolding valid
other_length t n = rw (ne_eqb (length t) 238 n)

chunk-at : (n : ℕ) (t : List ℕ) (k : ℕ) (d : List ℕ) → k < n → get_or (first_chunks size n t) k d ≡ take size (drop (size * k) t)
chunk-at zero t k d l = absurd (omega arith)
chunk-at (suc n) t zero d l = refl
chunk-at (suc n) t (suc k) d l =
    let e : size + size * k ≡ size * suc k = omega arith in
    chunk-at n (drop size t) k d (omega arith) ∙ ap (take size) (drop-drop (size * k) size t ∙ ap (λ (i : ℕ). drop i t) e)

chunks-length : (n : ℕ) (t : List ℕ) → length (first_chunks size n t) ≡ n
chunks-length zero t = refl
chunks-length (suc n) t = ap suc (chunks-length n (drop size t))

module _ (t : List ℕ) (l : length t ≡ 238) (es : List (List ℕ)) (c : es ≡ first_chunks size (length t / size) t) where
  fourteen : es ≡ first_chunks size 14 t
  fourteen = let e : length t / size ≡ 14 = omega arith in rw e at c

  fourteen-long : length es ≡ 14
  fourteen-long = rw fourteen (chunks-length 14 t)

  seen-at : (k : ℕ) → k < 14 → image_in (get_or es k []) 0 ≡ image_in t k
  seen-at k m =
      let e : size ≡ size * k + size - size * k = omega arith in
      let p : get_or es k [] ≡ between (size * k) (size * k + size) t = rw fourteen (chunk-at 14 t k [] m ∙ ap (λ (n : ℕ). take n (drop (size * k) t)) e) in
      ap (λ (x : List ℕ). image_in x 0) p ∙ part-image t k (omega arith)

  pub all_seen : (r : Bool)
      → MatchBool r (AllWithin (λ e. sound_image (image_in e 0) ≡ true) es 0 (length es)) ((k : ℕ) × (k < length es) × HoldsAt (λ e. sound_image (image_in e 0) ≡ false) es k)
      → r ≡ valid t
  all_seen true h =
      sym (each-valid t l (λ k m. rw (image-in t k (omega arith)) (subst (λ (i : Image). sound_image i ≡ true) (seen-at k m) (h k [] (omega arith) (omega (arith, fourteen-long))))))
  all_seen false h = go (valid t) refl
    where
      m : h.0 < 14
      m = omega (arith, fourteen-long, h.1)

      go : (b : Bool) → valid t ≡ b → false ≡ b
      go true v = sym (subst (λ (i : Image). sound_image i ≡ false) (seen-at h.0 m) (h.2 [])) ∙ valid-entry t h.0 v m
      go false v = refl

-- the first closed entry is the lowest closed
none-closed : (t : List ℕ) (v n : ℕ) → ((k : ℕ) → v ≤ k → k < v + n → (entry_at t k).is_open ≡ true) → none ≡ lowest_from t v n
unfolding lowest_from
none-closed t v zero h = refl
none-closed t v (suc n) h = rw (h v (omega arith) (omega arith)) (none-closed t (suc v) n (λ k l m. h k (omega arith) (omega arith)))

closed-step : (t : List ℕ) (v n i : ℕ) → v ≤ i → (entry_at t i).is_open ≡ false → ((k : ℕ) → v ≤ k → k < i → (entry_at t k).is_open ≡ true)
    → (v < i → some i ≡ lowest_from t (suc v) n) → (o : Bool) → (entry_at t v).is_open ≡ o → some i ≡ cond o (lowest_from t (suc v) n) (some v)
closed-step t v n i l c h g true e =
    let z : v ≡ i → ⊥ = λ z. false≢true (sym c ∙ ap (λ (k : ℕ). (entry_at t k).is_open) (sym z) ∙ e) in
    g (omega arith)
closed-step t v n i l c h g false e =
    let z : v < i → ⊥ = λ z. false≢true (sym e ∙ h v (omega arith) z) in
    ap some (omega arith)

first-closed : (t : List ℕ) (v n i : ℕ) → v ≤ i → i < v + n → (entry_at t i).is_open ≡ false → ((k : ℕ) → v ≤ k → k < i → (entry_at t k).is_open ≡ true)
    → some i ≡ lowest_from t v n
unfolding lowest_from
first-closed t v zero i a b c h = absurd (omega arith)
first-closed t v (suc n) i a b c h =
    closed-step t v n i a c h (λ l. first-closed t (suc v) n i l (omega arith) c (λ k x y. h k (omega arith) y)) (entry_at t v).is_open refl

pub lowest-is : (t : List ℕ) (r : Option ℕ)
    → MatchOption r ((k : ℕ) → 0 ≤ k → k < 7 → (entry_at t k).is_open ≡ true)
    (λ i. (0 ≤ i) × (i < 7) × ((entry_at t i).is_open ≡ false) × ((k : ℕ) → 0 ≤ k → k < i → (entry_at t k).is_open ≡ true))
    → FindsClosed t r
unfolding lowest_closed
lowest-is t None h = none-closed t 0 7 h
lowest-is t (Some i) h = first-closed t 0 7 i h.0 h.1 h.2 h.3

-- the entry that is written: its numbers are its octets
module _ (slot : Slot) (e : Entry) (h : holds e ≡ true) (i : Ids e.own) (j : Ids e.peer) where
  pub agrees : slot.«open» ≡ e.is_open → octets_seen slot.own ≡ side_octets places e.own → octets_seen slot.peer ≡ side_octets places e.peer → slot_octets slot ≡ entry_octets e
  unfolding entry_octets
  agrees o p q =
      let w = holds_parts e h in
      let a = fit_of begins e.own w.0 in
      let b = fit_of waits e.peer w.1.0 in
      let x = ap side_of p ∙ side-back 4 e.own a.0 (held-listed begins begins-none e.own a.1.0 i) in
      let y = ap side_of q ∙ side-back 4 e.peer b.0 (held-listed waits waits-none e.peer b.1.0 j) in
      λ n. state_of (record { is_open = o n; own = x n; peer = y n }) ∷ (p n ++ q n)

-- a side with another behind the last
last-listed : (listed : ℕ → Bool) (ws : List Waiting) (v : Waiting) → each_listed listed (ws ++ (v ∷ [])) ≡ true → listed v.operation ≡ true
unfolding each_listed
last-listed listed [] v h = (both (listed v.operation) true h).0
last-listed listed (w ∷ ws) v h = last-listed listed ws v (both (listed w.operation) (each_listed listed (ws ++ (v ∷ []))) h).1

module _ (listed : ℕ → Bool) (none : listed 0 ≡ false) (s : List ℕ) (l : length s ≡ 8) (o : Octets s) (id : ℤ) (operation : ℕ) (f : ChangeFits (Change.Adds true id operation)) where
  pub last-side : holds_side listed (side_of s ++ (record { id = id; operation = operation } ∷ [])) ≡ true
      → octets_seen (with_last (join_of s) id operation) ≡ side_octets places (side_of s ++ (record { id = id; operation = operation } ∷ []))
  unfolding full
  last-side h =
      let a = fit_of listed (side_of s ++ (record { id = id; operation = operation } ∷ [])) h in
      let n = length-append (side_of s) (record { id = id; operation = operation } ∷ []) in
      let e = joined-seen s l o in
      let k : full (side_of s) ≡ false = lt-leb 4 (length (side_of s)) (omega (arith, a.0)) in
      let z = last-listed listed (side_of s) (record { id = id; operation = operation }) a.1.0 in
      last-octets (join_of s) id operation (ap full (ap side_of e) ∙ k) (λ q. false≢true (sym none ∙ ap listed (sym q) ∙ z)) f.1.1 f.1.0 f.0
      ∙ ap (λ (ws : List Waiting). side_octets places (ws ++ (record { id = id; operation = operation } ∷ []))) (ap side_of e)

pub cleared-side : (s : List ℕ) → length s ≡ 8 → Octets s → side_octets places (side_of s) ≡ s → (id : ℤ) → octets_seen (without_id id (join_of s)) ≡ side_octets places (without id (side_of s))
cleared-side s l o t id =
    let e = joined-seen s l o in
    cleared-octets (join_of s) id (join-below 8 s l o refl) (e ∙ sym t ∙ ap (side_octets places) (sym (ap side_of e)))
    ∙ ap (λ (ws : List Waiting). side_octets places (without id ws)) (ap side_of e)

zeros-are : octets_seen 0 ≡ side_octets places []
unfolding side_octets
zeros-are = refl

-- each change writes the entry as it becomes
said-id : (id : ℤ) → octet_of id < 256 → id_of (octet_of id) ≡ id → IsId id
said-id id l e = rw e at (is-id (octet_of id) l)

module _ (i : Image) (l : Eight i) (o : IsOctets i) (sound : sound_image i ≡ true) where
  settled-ids : Ids (side_of i.own) × Ids (side_of i.peer)
  settled-ids = (held-ids (side_of i.own) (held_of i.own o.0), held-ids (side_of i.peer) (held_of i.peer o.1))

  own_same : octets_seen (join_of i.own) ≡ side_octets places (side_of i.own)
  own_same = joined-seen i.own l.0 o.0 ∙ sym (settled-own i l o.0 sound)

  peer-same : octets_seen (join_of i.peer) ≡ side_octets places (side_of i.peer)
  peer-same = joined-seen i.peer l.1 o.1 ∙ sym (settled-peer i l o.1 sound)

  pub change-octets : (c : Change) → ChangeFits c → holds (changed (entry_of i) (change_seen c)) ≡ true → slot_octets (slot_changed (slot_of i) c) ≡ entry_octets (changed (entry_of i) (change_seen c))
  unfolding changed entry_of
  change-octets Change.Opens f h = agrees (slot_changed (slot_of i) Change.Opens) (changed (entry_of i) (change_seen Change.Opens)) h settled-ids.0 settled-ids.1 refl own_same peer-same
  change-octets Change.Closes f h = agrees (slot_changed (slot_of i) Change.Closes) closed h tt tt refl (zeros-are) (zeros-are)
  change-octets (Change.Adds true id operation) f h =
      agrees (slot_changed (slot_of i) (Change.Adds true id operation)) (changed (entry_of i) (change_seen (Change.Adds true id operation))) h
      (ids-last (side_of i.own) (record { id = id; operation = operation }) settled-ids.0 (said-id id f.1.0 f.0)) settled-ids.1 refl
      (last-side begins begins-none i.own l.0 o.0 id operation f (holds_parts (changed (entry_of i) (change_seen (Change.Adds true id operation))) h).0) peer-same
  change-octets (Change.Adds false id operation) f h =
      agrees (slot_changed (slot_of i) (Change.Adds false id operation)) (changed (entry_of i) (change_seen (Change.Adds false id operation))) h
      settled-ids.0 (ids-last (side_of i.peer) (record { id = id; operation = operation }) settled-ids.1 (said-id id f.1.0 f.0)) refl own_same
      (last-side waits waits-none i.peer l.1 o.1 id operation f (holds_parts (changed (entry_of i) (change_seen (Change.Adds false id operation))) h).1.0)
  change-octets (Change.Clears true id) f h =
      agrees (slot_changed (slot_of i) (Change.Clears true id)) (changed (entry_of i) (change_seen (Change.Clears true id))) h
      (ids-less id (side_of i.own) settled-ids.0) settled-ids.1 refl (cleared-side i.own l.0 o.0 (settled-own i l o.0 sound) id) peer-same
  change-octets (Change.Clears false id) f h =
      agrees (slot_changed (slot_of i) (Change.Clears false id)) (changed (entry_of i) (change_seen (Change.Clears false id))) h
      settled-ids.0 (ids-less id (side_of i.peer) settled-ids.1) refl own_same (cleared-side i.peer l.1 o.1 (settled-peer i l o.1 sound) id)

-- the table that a change leaves
pub change-is : (t : List ℕ) (k : ℕ) (c : Change) → valid t ≡ true → k < 14 → IsOctets (image_in t k) → ChangeFits c → holds (changed (entry_at t k) (change_seen c)) ≡ true
    → splice t (size * k) (slot_octets (slot_changed (slot_of (image_in t k)) c)) ≡ with_change t k (change_seen c)
unfolding with_change with_entry
change-is t k c v l o f h =
    let g = fits-at t k v l in
    let e = entry_in t k g in
    rw e (ap (splice t (size * k)) (change-octets (image_in t k) (eight-in t k g) o (valid-entry t k v l) c f (rw e at h)))
