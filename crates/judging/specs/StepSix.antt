-- 01, step 6: a component held against the entry of its transaction.
use Rattle.std.specs.Prelude.{ℕ, List, Bool, true, cond, not, ◌&&◌, ℤ, eqb}
use Rattle.std.proofs.Math.Option.{Option, none, some}
use Rattle.octets.specs.Unless.{unless}
use Rattle.codes.specs.Operations.{serves, waits}
use Rattle.codes.specs.Errors.{listed, may_return}
use Rattle.codes.specs.Problems.{invoke_problem, result_problem, error_problem}
use Rattle.parameters.specs.Suits.{suits, InvokeReceived, ResultReceived}
use Rattle.sides.specs.Side.{Waiting, among, full, operation_of}
use Rattle.table.specs.Table.{Entry}
use Rattle.table.specs.Change.{Change, ours, peers, opens, adds, clears}

-- a problem, to be told under its tag, or the change of the entry
pub data Judged : Type 0 where
  problem : (tag number : ℕ) → Judged
  accepted : Change → Judged

-- "linked id not our outstanding one, 5; ours not operation 17, 6; linked operation not 18, 7": the problem, if there is one.
-- "A linked id is looked up among all of ours."
unfoldable pub linked_problem : List Waiting → Option ℤ → ℕ → Option ℕ
linked_problem own none operation = none
linked_problem own (some id) operation =
    unless (among id own) (some 5)
    (unless (eqb (operation_of id own) 17) (some 6)
    (unless (eqb operation 18) (some 7)
    none))

abbrev pub or_problem : Option ℕ → Judged → Judged
or_problem none next = next
or_problem (some number) next = problem invoke_problem number

-- an invoke that waits for our answer is kept behind those that wait; 38 is never outstanding
abbrev pub kept : ℤ → ℕ → Change
kept id operation = cond (waits operation) (adds peers id operation) opens

-- "Invoke: id equal to the waiting peer invoke, invoke problem 0; any other waiting, 3; operation not served, 1; linked id ..;
-- parameter, 2." "Duplicate means equal to any waiting peer id, and problem 3 is given only when four wait."
unfoldable pub judge_invoke : Entry → ℤ → Option ℤ → ℕ → List ℕ → Judged
judge_invoke e id linked operation p =
    unless (not (among id e.peer)) (problem invoke_problem 0)
    (unless (not (full e.peer)) (problem invoke_problem 3)
    (unless (serves operation) (problem invoke_problem 1)
    (or_problem (linked_problem e.own linked operation)
    (unless (suits InvokeReceived operation p) (problem invoke_problem 2)
    (accepted (kept id operation))))))

-- an operation that is told is ours
unfoldable pub is_ours : Option ℕ → ℕ → Bool
is_ours none asked = true
is_ours (some operation) asked = eqb operation asked

-- "A result or error clears the place with its id", and the transaction stays open.
abbrev pub cleared : ℤ → Change
cleared id = clears ours id

-- "Result: id, result problem 0; operation other than ours, or parameter, 2."
unfoldable pub judge_result : Entry → ℤ → Option ℕ → List ℕ → Judged
judge_result e id operation p =
    unless (among id e.own) (problem result_problem 0)
    (unless (is_ours operation (operation_of id e.own) && suits ResultReceived (operation_of id e.own) p) (problem result_problem 2)
    (accepted (cleared id)))

-- "Error: id, error problem 0; code not listed, 2." "An error that is in 01's table but isn't in the list of the outstanding
-- operation is now refused .. error problem 3, in step 6 directly after error problem 2."
unfoldable pub judge_error : Entry → ℤ → ℕ → Judged
judge_error e id code =
    unless (among id e.own) (problem error_problem 0)
    (unless (listed code) (problem error_problem 2)
    (unless (may_return (operation_of id e.own) code) (problem error_problem 3)
    (accepted (cleared id))))
