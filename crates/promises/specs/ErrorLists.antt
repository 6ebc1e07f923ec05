-- "An error that is in 01's table but isn't in the list of the outstanding operation is now refused. Demand 2 reads with this
-- check." "error problem 3, in step 6 directly after error problem 2"
use Rattle.std.specs.Prelude.{ℕ, ◌≡◌, List, true, false, ℤ}
use Rattle.std.proofs.Math.Option.{none, some}
use Rattle.codes.specs.Errors.{listed, errors_of, is_in}
use Rattle.codes.specs.Problems.{error_problem}
use Rattle.components.specs.Component.{error}
use Rattle.sides.specs.Side.{among, operation_of}
use Rattle.table.specs.Change.{ours, clears}
use Rattle.deciding.specs.Steps.{shown}
use Rattle.telephone.specs.Receive.{receive}
use Rattle.promises.specs.Reaches.{outstanding, taken_or_released, ReachesStepSix, ReachesInRelease, rejected, taken_with, released_with}

-- the list of the operation that is outstanding under this id
abbrev pub its_errors : List ℕ → List ℕ → ℤ → List ℕ
its_errors t m id = errors_of (operation_of id (outstanding t m))

-- an error that is shown was taken, or came with a release; its id was outstanding, and its code is in that list
abbrev pub ShownIsInList : Type 0
ShownIsInList =
    (t m b : List ℕ) (id : ℤ) (code : ℕ) (p behind : List ℕ) → (receive t m b).shown ≡ some (record { component = error id code p; behind = behind })
    → (taken_or_released (receive t m b).code ≡ true) × ((among id (outstanding t m) ≡ true) × (is_in code (its_errors t m id) ≡ true))

-- an error under an outstanding id, of a code that is in 01's table and not in that list, is rejected with error problem 3; in
-- RELEASE COMPLETE nothing is shown
abbrev pub OthersAreRefused : Type 0
OthersAreRefused =
    (t m b : List ℕ) (id : ℤ) (code : ℕ) (p : List ℕ) → among id (outstanding t m) ≡ true → listed code ≡ true → is_in code (its_errors t m id) ≡ false
    → (ReachesStepSix t m b (error id code p) → receive t m b ≡ rejected t m b id error_problem 3)
    × (ReachesInRelease t m b (error id code p) → receive t m b ≡ released_with t m b none)

-- and one of a code that is in that list is shown: "A result or error received clears the own invoke, and the transaction stays
-- open", or it comes with the release
abbrev pub ItsOwnAreShown : Type 0
ItsOwnAreShown =
    (t m b : List ℕ) (id : ℤ) (code : ℕ) (p : List ℕ) → among id (outstanding t m) ≡ true → is_in code (its_errors t m id) ≡ true
    → ((r : ReachesStepSix t m b (error id code p)) → receive t m b ≡ taken_with t m b (clears ours id) (shown (error id code p) r.behind))
    × ((r : ReachesInRelease t m b (error id code p)) → receive t m b ≡ released_with t m b (shown (error id code p) r.behind))

abbrev pub ErrorLists : Type 0
ErrorLists = ShownIsInList × (OthersAreRefused × ItsOwnAreShown)
