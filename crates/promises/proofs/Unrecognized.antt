-- An operation not served is rejected as unrecognized.
use Prim.Native.Nat.{ℕ}
use mathlib.Core.Path.{◌≡◌, ap, ◌∙◌}
use mathlib.Core.List.{List}
use mathlib.Core.Bool.{true, false}
use mathlib.Core.Option.{Option, some}
use lib.IntN.{ℤ}
use lib.ListN.{length}
use Rattle.codes.specs.Operations.{serves}
use Rattle.codes.specs.Problems.{invoke_problem}
use Rattle.components.specs.Component.{invoke}
use Rattle.sides.specs.Side.{among}
use Rattle.table.specs.Table.{Entry, entry_at}
use Rattle.judging.specs.StepSix.{problem, judge_invoke}
use Rattle.deciding.specs.Decision.{with_reject}
use Rattle.deciding.specs.Steps.{picked_entry, step_six, decide}
use Rattle.telephone.specs.Receive.{act, receive}
use Rattle.promises.specs.Reaches.{fewer_than_four, ReachesStepSix}
use Rattle.promises.specs.Unrecognized.{Unrecognized}
use Rattle.promises.proofs.Reached.{reached, room-left}

not-served : (e : Entry) (id : ℤ) (linked : Option ℤ) (operation : ℕ) (p : List ℕ) → serves operation ≡ false → fewer_than_four e.peer ≡ true → among id e.peer ≡ false
    → judge_invoke e id linked operation p ≡ problem invoke_problem 1
unfolding judge_invoke
not-served e id linked operation p s f h = rw (h, room-left e.peer f, s)

decided : (t m b : List ℕ) (id : ℤ) (linked : Option ℤ) (operation : ℕ) (p : List ℕ) → ReachesStepSix t m b (invoke id linked operation p)
    → serves operation ≡ false → fewer_than_four (entry_at t (picked_entry m)).peer ≡ true → among id (entry_at t (picked_entry m)).peer ≡ false → decide t m (length b) ≡ with_reject (some id) invoke_problem 1
unfolding step_six
decided t m b id linked operation p r s f h =
    reached t m b (invoke id linked operation p) r ∙ rw (not-served (entry_at t (picked_entry m)) id linked operation p s f h)

pub unrecognized : Unrecognized
unfolding receive act
unrecognized t m b id linked operation p r s f h = ap (act t m b) (decided t m b id linked operation p r s f h)
