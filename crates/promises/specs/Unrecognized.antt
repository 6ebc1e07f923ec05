-- "In REGISTER or FACILITY, an Invoke of an operation not served that reaches step 6 of 01 is rejected as unrecognized when fewer
-- than four peer invokes wait and none has its id."
use Rattle.std.specs.Prelude.{ℕ, ◌≡◌, List, true, false, ℤ}
use Rattle.std.proofs.Math.Option.{Option}
use Rattle.codes.specs.Operations.{serves}
use Rattle.codes.specs.Problems.{invoke_problem}
use Rattle.components.specs.Component.{invoke}
use Rattle.sides.specs.Side.{among}
use Rattle.table.specs.Table.{entry_at}
use Rattle.deciding.specs.Steps.{picked_entry}
use Rattle.telephone.specs.Receive.{receive}
use Rattle.promises.specs.Reaches.{fewer_than_four, ReachesStepSix, rejected}

-- a release with a Reject of its id with invoke problem 1
abbrev pub Unrecognized : Type 0
Unrecognized =
    (t m b : List ℕ) (id : ℤ) (linked : Option ℤ) (operation : ℕ) (p : List ℕ) → ReachesStepSix t m b (invoke id linked operation p)
    → serves operation ≡ false → fewer_than_four (entry_at t (picked_entry m)).peer ≡ true → among id (entry_at t (picked_entry m)).peer ≡ false
    → receive t m b ≡ rejected t m b id invoke_problem 1
