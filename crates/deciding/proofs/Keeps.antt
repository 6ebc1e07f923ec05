-- What waits in an entry is kept within what it can hold: the change of every message that is taken.
use Prim.Native.Nat.{ℕ, ◌+◌, ◌<◌}
use mathlib.Core.Path.{◌≡◌, refl}
use mathlib.Core.List.{List}
use mathlib.Core.Bool.{Bool, true, false, cond}
use mathlib.Core.Option.{Option}
use native.Mathlib.Omega.{arith}
use borrow.Author.Tests.{eqb-false}
use lib.IntN.{ℤ}
use lib.Dec.{eqb}
use lib.ListN.{get_or, drop}
use Rattle.octets.specs.Reader.{Answer, fault, sound, Taken}
use Rattle.codes.specs.Operations.{waits}
use Rattle.components.specs.Component.{Component, invoke, reject}
use Rattle.components.specs.Component as component
use Rattle.components.specs.Facility.{Finding, empty, shows, general, left_over, faulty_reject, facility}
use Rattle.messages.specs.Layout.{value, flag, facility_type, register_type}
use Rattle.messages.specs.Scan.{required}
use Rattle.sides.specs.Side.{among, full}
use Rattle.table.specs.Table.{Entry, entry_at, holds}
use Rattle.table.specs.Change.{ours, peers, opens, adds, changed}
use Rattle.table.proofs.TableLaws.{holds_at}
use Rattle.table.proofs.ChangeLaws.{opens-holds, adds-holds, clears-holds, opens-open, adds-open, clears-open}
use Rattle.judging.specs.StepSix.{Judged, problem, accepted, judge_invoke, judge_result, judge_error}
use Rattle.judging.proofs.Walk.{walk-invoke, walk-result, walk-error}
use Rattle.deciding.specs.Steps.{first_octet, picked_entry, on_judged, step_six, step_four, five_and_six, four_to_six, on_release, decide}
use Rattle.deciding.specs.Seen.{Keeps}
use Rattle.deciding.proofs.StepLaws.{tested, by-type}

-- the entry that a message picks is one of fourteen
pub entry-below : (m : List ℕ) → (value (first_octet m) ≡ 7 → ⊥) → picked_entry m < 14
unfolding picked_entry
entry-below m n = let v : value (first_octet m) < 7 = omega arith in go (eqb (flag (first_octet m)) 1) (value (first_octet m)) v
  where
    go : (b : Bool) (v : ℕ) → v < 7 → cond b v (7 + v) < 14
    go true v h = omega arith
    go false v h = omega arith

-- what step 6 accepts
module _ (e : Entry) where
  abbrev Kept : Judged → Type 0
  Kept (problem tag number) = Unit {0}
  Kept (accepted change) = (holds (changed e change) ≡ true) × ((changed e change).is_open ≡ true)

  module _ (h : holds e ≡ true) (id : ℤ) where
    invoke-kept : (linked : Option ℤ) (o : ℕ) (p : List ℕ) → Kept (judge_invoke e id linked o p)
    invoke-kept linked o p = walk-invoke Kept (λ tag n z. tt) e id linked o p λ a f. go (waits o) refl a f
      where
        go : (b : Bool) → waits o ≡ b → among id e.peer ≡ false → full e.peer ≡ false → Kept (accepted (cond b (adds peers id o) opens))
        go true w a f = (adds-holds e h peers id o f a w, adds-open e peers id o)
        go false w a f = (opens-holds e h, opens-open e)

    result-kept : (o : Option ℕ) (p : List ℕ) → Kept (judge_result e id o p)
    result-kept o p = walk-result Kept (λ tag n z. tt) e id o p λ a u. (clears-holds e h ours id, clears-open e ours id)

    error-kept : (code : ℕ) → Kept (judge_error e id code)
    error-kept code = walk-error Kept (λ tag n z. tt) e id code λ a r. (clears-holds e h ours id, clears-open e ours id)

-- and so every change that a decision makes
judged-keeps : (e : Entry) (j : Judged) (id : ℤ) (c : Component) (r : List ℕ) → Kept e j → Keeps e (on_judged j id c r)
judged-keeps e (problem tag n) id c r k = tt
judged-keeps e (accepted change) id c r k = k

module _ (e : Entry) (h : holds e ≡ true) where
  six-keeps : (c : Component) (r : List ℕ) → Keeps e (step_six e c r)
  unfolding step_six
  six-keeps (invoke id linked o p) r = judged-keeps e (judge_invoke e id linked o p) id _ r (invoke-kept e h id linked o p)
  six-keeps (component.result id o p) r = judged-keeps e (judge_result e id o p) id _ r (result-kept e h id o p)
  six-keeps (component.error id code p) r = judged-keeps e (judge_error e id code) id _ r (error-kept e h id code)
  six-keeps (reject id tag n) r = tt

  five-keeps : (f : Finding) (r : List ℕ) → Keeps e (five_and_six e f r)
  unfolding five_and_six
  five-keeps empty r = (opens-holds e h, opens-open e)
  five-keeps (shows c) r = six-keeps c r
  five-keeps (general n id) r = tt
  five-keeps left_over r = tt
  five-keeps faulty_reject r = tt

  four-keeps : (type : ℕ) (s : List ℕ) → Keeps e (four_to_six e type s)
  unfolding four_to_six
  four-keeps type s = go (required type s)
    where
      go : (o : Answer (Taken (List ℕ))) → Keeps e (step_four o (λ v behind. five_and_six e (facility v) behind))
      go (fault n) = tt
      go (sound g) = five-keeps (facility g.value) g.rest

pub decide-keeps : (t m : List ℕ) (room : ℕ) → Keeps (entry_at t (picked_entry m)) (decide t m room)
unfolding on_release
decide-keeps t m room =
    let e = entry_at t (picked_entry m) in
    tested (Keeps e) t m room tt tt tt tt tt
    (λ g.
    let h = holds_at t (picked_entry m) g.table (entry-below m (eqb-false (value (first_octet m)) 7 g.transaction)) in
    by-type (Keeps e) e (flag (first_octet m)) (get_or m 1 0) (drop 2 m) tt tt tt tt (λ _ _. tt) (λ _ _. four-keeps e h facility_type (drop 2 m)) (λ _ _. four-keeps e h register_type (drop 2 m)))
