-- What a message leaves in a table of octets is octets.
use Prim.Native.Nat.{ℕ, zero, suc, ◌+◌, ◌*◌, ◌<◌}
use mathlib.Core.Path.{◌≡◌}
use mathlib.Core.List.{List, [], ◌∷◌, ◌++◌}
use mathlib.Core.Bool.{Bool, true, false, cond, not, ◌&&◌}
use native.Mathlib.Omega.{arith}
use lib.ListN.{length, take, drop}
use lib.Dec.{leb, eqb}
use borrow.Author.Tests.{leb-true, eqb-true}
use Rattle.octets.specs.Octets.{Octets}
use Rattle.octets.specs.Splice.{splice}
use Rattle.octets.proofs.OctetsLaws.{octets-append, octets-take, octets-drop}
use Rattle.octets.proofs.TestLaws.{both, one_of}
use Rattle.codes.specs.Operations.{begins, waits}
use Rattle.codes.proofs.IdLaws.{id-octet}
use Rattle.sides.specs.Side.{Waiting, places, is_empty, each_listed, none_twice, holds_side, side_octets}
use Rattle.sides.proofs.SideLaws.{Ids}
use Rattle.table.specs.Table.{Entry, size, entry_at, holds, state_of, entry_octets, with_entry}
use Rattle.table.specs.Change.{Change, changed, with_change, CanChange}
use Rattle.table.proofs.TableLaws.{holds_parts, ids_at, fits-at}
use Rattle.table.proofs.ChangeLaws.{SaidIn, changed-ids}

begins-octet : (o : ℕ) → begins o ≡ true → o < 256
begins-octet o h =
    one_of _ (eqb o 59) h
    (λ a. one_of _ (eqb o 17) a
    (λ b. let l = leb-true o 14 (both (leb 10 o) (leb o 14) b).1 in omega arith)
    (λ b. let e = eqb-true o 17 b in omega arith))
    (λ a. let e = eqb-true o 59 a in omega arith)

waits-octet : (o : ℕ) → waits o ≡ true → o < 256
waits-octet o h =
    one_of _ (eqb o 61) h
    (λ a. one_of (eqb o 18) (eqb o 60) a (λ b. let e = eqb-true o 18 b in omega arith) (λ b. let e = eqb-true o 60 b in omega arith))
    (λ a. let e = eqb-true o 61 a in omega arith)

module _ (listed : ℕ → Bool) (small : (o : ℕ) → listed o ≡ true → o < 256) where
  places-octets : (n : ℕ) (ws : List Waiting) → Ids ws → each_listed listed ws ≡ true → Octets (side_octets n ws)
  unfolding side_octets each_listed
  places-octets zero ws i h = tt
  places-octets (suc n) [] i h = (omega arith, (omega arith, places-octets n [] tt h))
  places-octets (suc n) (w ∷ ws) i h = let b = both (listed w.operation) (each_listed listed ws) h in (id-octet i.0, (small w.operation b.0, places-octets n ws i.1 b.1))

  side-octets : (ws : List Waiting) → Ids ws → holds_side listed ws ≡ true → Octets (side_octets places ws)
  unfolding holds_side
  side-octets ws i h = places-octets places ws i (both (leb (length ws) places) (each_listed listed ws) (both (leb (length ws) places && each_listed listed ws) (none_twice ws) h).0).1

state-octet : (a b c : Bool) → cond a (1 + cond b 2 0 + cond c 4 0) 0 < 256
state-octet false b c = omega arith
state-octet true false false = omega arith
state-octet true false true = omega arith
state-octet true true false = omega arith
state-octet true true true = omega arith

entry-octets : (e : Entry) → holds e ≡ true → Ids e.own → Ids e.peer → Octets (entry_octets e)
unfolding entry_octets state_of
entry-octets e h i j =
    let w = holds_parts e h in (
      state-octet e.is_open (not (is_empty e.own)) (not (is_empty e.peer)),
      octets-append (side_octets places e.own) (side_octets places e.peer) (side-octets begins begins-octet e.own i w.0) (side-octets waits waits-octet e.peer j w.1.0),
    )

splice-octets : (t : List ℕ) (at : ℕ) (x : List ℕ) → Octets t → Octets x → Octets (splice t at x)
unfolding splice
splice-octets t at x o h = octets-append (take at t ++ x) (drop (at + length x) t) (octets-append (take at t) x (octets-take at t o) h) (octets-drop (at + length x) t o)

pub change-octets : (t : List ℕ) (k : ℕ) (c : Change) → Octets t → SaidIn c → CanChange t k c → Octets (with_change t k c)
unfolding with_change with_entry
change-octets t k c o s h =
    let i = ids_at t k o (fits-at t k h.0 h.1.0) in
    let j = changed-ids (entry_at t k) c s i.0 i.1 in
    splice-octets t (size * k) (entry_octets (changed (entry_at t k) c)) o (entry-octets (changed (entry_at t k) c) h.1.1 j.0 j.1)
