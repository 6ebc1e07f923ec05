-- An error is shown where its operation may return it, and only there.
use Prim.Native.Nat.{ℕ}
use mathlib.Core.Path.{◌≡◌, refl}
use mathlib.Core.List.{List}
use mathlib.Core.Bool.{true, false}
use mathlib.Core.Option.{some}
use lib.IntN.{ℤ}
use Rattle.octets.specs.Splice.{splice}
use Rattle.codes.specs.Errors.{listed, may_return, errors_of, is_in}
use Rattle.codes.specs.Problems.{error_problem}
use Rattle.codes.proofs.ErrorLaws.{listed-too}
use Rattle.components.specs.Component.{error}
use Rattle.sides.specs.Side.{among, operation_of}
use Rattle.table.specs.Table.{Entry, entry_at}
use Rattle.table.specs.Change.{ours, clears}
use Rattle.judging.specs.StepSix.{judge_error}
use Rattle.deciding.specs.Decision.{with_reject, taken}
use Rattle.deciding.specs.Steps.{picked_entry, shown, on_judged, step_six}
use Rattle.telephone.specs.Receive.{act}
use Rattle.telephone.proofs.Shown.{nothing-shown}
use Rattle.promises.specs.ErrorLists.{ShownIsInList, OthersAreRefused, ItsOwnAreShown, ErrorLists}
use Rattle.judging.proofs.Walk.{walk-error}
use Rattle.promises.proofs.Reached.{fares}
use Rattle.promises.proofs.ShownWalk.{IsShown, Good, shown-fits}

module _ (e : Entry) (id : ℤ) (code : ℕ) (p : List ℕ) where
  -- its id is outstanding, and its code in the list of that operation
  abbrev Fits : Type 0
  Fits = (among id e.own ≡ true) × (is_in code (errors_of (operation_of id e.own)) ≡ true)

  six-good : (behind r : List ℕ) → IsShown (error id code p) behind (step_six e (error id code p) r) → Good Fits (step_six e (error id code p) r)
  unfolding step_six may_return
  six-good behind r =
      walk-error (λ j. IsShown (error id code p) behind (on_judged j id (error id code p) r) → Good Fits (on_judged j id (error id code p) r)) (λ tag n h. nothing-shown) e id code (λ a y k. (refl, (a, y)))

shown-is-in-list : ShownIsInList
shown-is-in-list t m b id code p behind k =
    let e = entry_at t (picked_entry m) in
    shown-fits (error id code p) behind (Fits e id code p) t m b (six-good e id code p behind) k

-- what step 6 makes of an error under an outstanding id
module _ (e : Entry) (id : ℤ) (code : ℕ) (p r : List ℕ) (a : among id e.own ≡ true) where
  not-its-own : listed code ≡ true → is_in code (errors_of (operation_of id e.own)) ≡ false → step_six e (error id code p) r ≡ with_reject (some id) error_problem 3
  unfolding step_six judge_error may_return
  not-its-own l n = rw (a, l, n)

  its_own : is_in code (errors_of (operation_of id e.own)) ≡ true → step_six e (error id code p) r ≡ taken (clears ours id) (shown (error id code p) r)
  unfolding step_six judge_error may_return
  its_own y = rw (a, listed-too (operation_of id e.own) code y, y)

pub others-are-refused : OthersAreRefused
unfolding act splice
others-are-refused t m b id code p a l n = fares t m b (error id code p) _ (λ r. not-its-own (entry_at t (picked_entry m)) id code p r a l n)

pub its-own-are-shown : ItsOwnAreShown
unfolding act splice
its-own-are-shown t m b id code p a y = fares t m b (error id code p) _ (λ r. its_own (entry_at t (picked_entry m)) id code p r a y)

pub error-lists : ErrorLists
error-lists = (shown-is-in-list, (others-are-refused, its-own-are-shown))
