-- A change leaves an entry that an image can hold, and a table that is sound: what each step has to know of the side it changes.
use Prim.Native.Nat.{ℕ}
use mathlib.Core.Path.{◌≡◌, refl}
use mathlib.Core.Bool.{Bool, true, false, false≢true}
use mathlib.Core.List.{List, [], ◌∷◌}
use lib.IntN.{ℤ}
use Rattle.octets.specs.Octets.{Octets}
use Rattle.octets.proofs.TestLaws.{both}
use Rattle.codes.specs.Operations.{begins, waits}
use Rattle.codes.proofs.IdLaws.{IsId}
use Rattle.sides.specs.Side.{Waiting, among, full, is_empty}
use Rattle.sides.proofs.SideLaws.{Ids, holds-last, holds-first, holds-none, holds-less, ids-last, ids-less}
use Rattle.table.specs.Table.{Entry, entry_at, valid, holds}
use Rattle.table.specs.Change.{Side, ours, peers, Change, opens, closes, adds, clears, changed, with_change, CanChange}
use Rattle.table.proofs.TableLaws.{holds_parts, open-holds, ids_at, fits-at, valid-with}

-- the invokes of a side, and the operations that it may hold
abbrev pub on_the : Side → Entry → List Waiting
on_the ours e = e.own
on_the peers e = e.peer

abbrev pub listed_on : Side → ℕ → Bool
listed_on ours = begins
listed_on peers = waits

module _ (e : Entry) (h : holds e ≡ true) where
  pub opens-holds : holds (changed e opens) ≡ true
  unfolding changed
  opens-holds = let w = holds_parts e h in open-holds e.own e.peer w.0 w.1.0

  pub adds-holds : (side : Side) (id : ℤ) (operation : ℕ) → full (on_the side e) ≡ false → among id (on_the side e) ≡ false → listed_on side operation ≡ true
      → holds (changed e (adds side id operation)) ≡ true
  unfolding changed
  adds-holds ours id operation f n l =
      let w = holds_parts e h in
      open-holds _ e.peer (holds-last begins e.own (record { id = id; operation = operation }) w.0 f n l) w.1.0
  adds-holds peers id operation f n l =
      let w = holds_parts e h in
      open-holds e.own _ w.0 (holds-last waits e.peer (record { id = id; operation = operation }) w.1.0 f n l)

  pub clears-holds : (side : Side) (id : ℤ) → holds (changed e (clears side id)) ≡ true
  unfolding changed
  clears-holds ours id = let w = holds_parts e h in open-holds _ e.peer (holds-less begins id e.own w.0) w.1.0
  clears-holds peers id = let w = holds_parts e h in open-holds e.own _ w.0 (holds-less waits id e.peer w.1.0)

  -- nothing waits in a closed entry
  pub closed_none : e.is_open ≡ false → (e.own ≡ []) × (e.peer ≡ [])
  closed_none o =
      let w = both (is_empty e.own) (is_empty e.peer) (rw o at (holds_parts e h).1.1) in
      (none e.own w.0, none e.peer w.1)
    where
      none : (ws : List Waiting) → is_empty ws ≡ true → ws ≡ []
      none [] k = refl
      none (w ∷ ws) k = absurd (false≢true k)

-- the transaction stays open
pub opens-open : (e : Entry) → (changed e opens).is_open ≡ true
unfolding changed
opens-open e = refl

pub adds-open : (e : Entry) (side : Side) (id : ℤ) (operation : ℕ) → (changed e (adds side id operation)).is_open ≡ true
unfolding changed
adds-open e ours id operation = refl
adds-open e peers id operation = refl

pub clears-open : (e : Entry) (side : Side) (id : ℤ) → (changed e (clears side id)).is_open ≡ true
unfolding changed
clears-open e ours id = refl
clears-open e peers id = refl

pub closes-holds : (e : Entry) → holds (changed e closes) ≡ true
unfolding changed holds
closes-holds e = rw (holds-none begins, holds-none waits)

-- the first of ours in a closed entry
pub begins-holds : (e : Entry) (id : ℤ) (operation : ℕ) → holds e ≡ true → e.is_open ≡ false → begins operation ≡ true → holds (changed e (adds ours id operation)) ≡ true
unfolding changed
begins-holds e id operation h o b =
    let w = closed_none e h o in
    rw (w.0, w.1) (open-holds (record { id = id; operation = operation } ∷ []) [] (holds-first begins (record { id = id; operation = operation }) b) (holds-none waits))

-- ids that an octet says, in what a change leaves
abbrev pub SaidIn : Change → Type 0
SaidIn opens = Unit {0}
SaidIn closes = Unit {0}
SaidIn (adds side id operation) = IsId id
SaidIn (clears side id) = Unit {0}

pub changed-ids : (e : Entry) (c : Change) → SaidIn c → Ids e.own → Ids e.peer → Ids (changed e c).own × Ids (changed e c).peer
unfolding changed
changed-ids e opens s i j = (i, j)
changed-ids e closes s i j = (tt, tt)
changed-ids e (adds ours id operation) s i j = (ids-last e.own (record { id = id; operation = operation }) i s, j)
changed-ids e (adds peers id operation) s i j = (i, ids-last e.peer (record { id = id; operation = operation }) j s)
changed-ids e (clears ours id) s i j = (ids-less id e.own i, j)
changed-ids e (clears peers id) s i j = (i, ids-less id e.peer j)

-- a table that can change so is sound afterwards
pub change-valid : (t : List ℕ) (k : ℕ) (c : Change) → Octets t → SaidIn c → CanChange t k c → valid (with_change t k c) ≡ true
unfolding with_change
change-valid t k c o s h =
    let i = ids_at t k o (fits-at t k h.0 h.1.0) in
    let j = changed-ids (entry_at t k) c s i.0 i.1 in
    valid-with t k (changed (entry_at t k) c) h.0 h.1.0 h.1.1 j.0 j.1
