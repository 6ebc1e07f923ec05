-- A walk through step 6: what holds of each problem that may be told, and of what is accepted, holds of what is judged.
use Prim.Native.Nat.{ℕ}
use mathlib.Core.Path.{◌≡◌, refl}
use mathlib.Core.List.{List}
use mathlib.Core.Bool.{Bool, true, false, not, ◌&&◌}
use mathlib.Core.Option.{Option, none, some}
use lib.IntN.{ℤ}
use lib.Dec.{eqb}
use borrow.Author.Tests.{not-true}
use Rattle.octets.specs.Unless.{unless}
use Rattle.codes.specs.Operations.{serves}
use Rattle.codes.specs.Errors.{listed, may_return}
use Rattle.codes.specs.Problems.{invoke_problem, result_problem, error_problem, is_problem}
use Rattle.parameters.specs.Suits.{suits, InvokeReceived, ResultReceived}
use Rattle.sides.specs.Side.{Waiting, among, full, operation_of}
use Rattle.table.specs.Table.{Entry}
use Rattle.judging.specs.StepSix.{Judged, problem, accepted, linked_problem, or_problem, kept, cleared, is_ours, judge_invoke, judge_result, judge_error}

module _ (P : Judged → Type 0) (onProblem : (tag number : ℕ) → is_problem tag number ≡ true → P (problem tag number)) where
  -- a test is passed, or its problem is told
  past : (b : Bool) (tag number : ℕ) (next : Judged) → is_problem tag number ≡ true → (b ≡ true → P next) → P (unless b (problem tag number) next)
  past true tag number next h k = k refl
  past false tag number next h k = onProblem tag number h

  past-linked : (own : List Waiting) (linked : Option ℤ) (o : ℕ) (next : Judged) → P next → P (or_problem (linked_problem own linked o) next)
  unfolding linked_problem
  past-linked own none o next h = h
  past-linked own (some id) o next h = go (among id own) (eqb (operation_of id own) 17) (eqb o 18)
    where
      go : (a b c : Bool) → P (or_problem (unless a (some 5) (unless b (some 6) (unless c (some 7) none))) next)
      go true true true = h
      go true true false = onProblem invoke_problem 7 refl
      go true false c = onProblem invoke_problem 6 refl
      go false b c = onProblem invoke_problem 5 refl

  module _ (e : Entry) (id : ℤ) where
    pub walk-invoke : (linked : Option ℤ) (o : ℕ) (p : List ℕ) → (among id e.peer ≡ false → full e.peer ≡ false → P (accepted (kept id o))) → P (judge_invoke e id linked o p)
    unfolding judge_invoke
    walk-invoke linked o p onAccepted =
        past (not (among id e.peer)) invoke_problem 0 _ refl λ a.
        past (not (full e.peer)) invoke_problem 3 _ refl λ f.
        past (serves o) invoke_problem 1 _ refl λ s.
        past-linked e.own linked o _ (past (suits InvokeReceived o p) invoke_problem 2 _ refl λ u. onAccepted (not-true (among id e.peer) a) (not-true (full e.peer) f))

    pub walk-result : (o : Option ℕ) (p : List ℕ)
        → (among id e.own ≡ true → is_ours o (operation_of id e.own) && suits ResultReceived (operation_of id e.own) p ≡ true → P (accepted (cleared id)))
        → P (judge_result e id o p)
    unfolding judge_result
    walk-result o p onAccepted =
        past (among id e.own) result_problem 0 _ refl λ a.
        past (is_ours o (operation_of id e.own) && suits ResultReceived (operation_of id e.own) p) result_problem 2 _ refl λ u. onAccepted a u

    pub walk-error : (code : ℕ) → (among id e.own ≡ true → may_return (operation_of id e.own) code ≡ true → P (accepted (cleared id))) → P (judge_error e id code)
    unfolding judge_error
    walk-error code onAccepted =
        past (among id e.own) error_problem 0 _ refl λ a.
        past (listed code) error_problem 2 _ refl λ l.
        past (may_return (operation_of id e.own) code) error_problem 3 _ refl λ r. onAccepted a r
