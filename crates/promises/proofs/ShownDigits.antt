-- Every Password that is shown as the result of 17 is four digits.
use Prim.Native.Nat.{ℕ}
use mathlib.Core.Path.{◌≡◌, refl, sym, subst, ◌∙◌}
use mathlib.Core.List.{List}
use mathlib.Core.Bool.{true, ◌&&◌, and-false}
use mathlib.Core.Option.{Option, none, some}
use native.Mathlib.Omega.{arith}
use lib.IntN.{ℤ}
use lib.ListN.{length}
use lib.Dec.{eqb}
use borrow.Author.Tests.{eqb-true}
use Rattle.octets.specs.Splice.{splice}
use Rattle.octets.proofs.TestLaws.{both}
use Rattle.codes.specs.Problems.{result_problem}
use Rattle.parameters.specs.Parameter.{password}
use Rattle.parameters.specs.Suits.{suits, suits_result_received, ResultReceived}
use Rattle.components.specs.Component.{Component, invoke, result, error, reject, result_tag}
use Rattle.components.specs.Shows.{Shows}
use Rattle.sides.specs.Side.{among, operation_of}
use Rattle.table.specs.Table.{Entry, entry_at}
use Rattle.table.specs.Change.{ours, clears}
use Rattle.judging.specs.StepSix.{is_ours, judge_result}
use Rattle.deciding.specs.Decision.{with_reject, taken}
use Rattle.deciding.specs.Steps.{picked_entry, shown, on_judged, step_six}
use Rattle.showing.specs.Views.{standing, view_of, component_view}
use Rattle.octets.specs.declared.Span.{Span}
use Rattle.telephone.specs.Receive.{act, receive}
use Rattle.telephone.specs.FromC.{received_of}
use Rattle.telephone.proofs.Shown.{nothing-shown}
use Rattle.telephone.proofs.Stands.{stands}
use Rattle.promises.specs.Reaches.{outstanding, taken_or_released}
use Rattle.promises.specs.Passwords.{FourDigits, ShownAreDigits, DigitsInC, OthersAreNotShown, DigitsAreShown}
use Rattle.promises.proofs.FourDigits.{are-four, is-password, no-password}
use Rattle.judging.proofs.Walk.{walk-result}
use Rattle.promises.proofs.Reached.{fares}
use Rattle.promises.proofs.ShownWalk.{IsShown, Good, shown-fits}

-- where our 17 waits, the parameter that suits is a Password
received_is : (o : ℕ) (p : List ℕ) → o ≡ 17 → suits ResultReceived o p ≡ password p
unfolding suits suits_result_received
received_is o p e = rw e

-- a result that is shown is one of our operation that waits under its id, and its parameter suits
module _ (e : Entry) (id : ℤ) (o : Option ℕ) (p : List ℕ) where
  abbrev Fits : Type 0
  Fits = (among id e.own ≡ true) × (is_ours o (operation_of id e.own) && suits ResultReceived (operation_of id e.own) p ≡ true)

  six-good : (behind r : List ℕ) → IsShown (result id o p) behind (step_six e (result id o p) r) → Good Fits (step_six e (result id o p) r)
  unfolding step_six
  six-good behind r =
      walk-result (λ j. IsShown (result id o p) behind (on_judged j id (result id o p) r) → Good Fits (on_judged j id (result id o p) r)) (λ tag n h. nothing-shown) e id o p (λ a u k. (refl, (a, u)))

  -- where 17 waits, that is four digits
  of-17 : operation_of id e.own ≡ 17 → Fits → FourDigits p
  of-17 w f = are-four p (sym (received_is _ p w) ∙ (both (is_ours o (operation_of id e.own)) (suits ResultReceived (operation_of id e.own) p) f.1).1)

shown-suits : (t m b : List ℕ) (id : ℤ) (o : Option ℕ) (p behind : List ℕ) → (receive t m b).shown ≡ some (record { component = result id o p; behind = behind })
    → (taken_or_released (receive t m b).code ≡ true) × Fits (entry_at t (picked_entry m)) id o p
shown-suits t m b id o p behind k =
    let e = entry_at t (picked_entry m) in
    shown-fits (result id o p) behind (Fits e id o p) t m b (six-good e id o p behind) k

pub shown-are-digits : ShownAreDigits
shown-are-digits t m b id o p behind k w = let z = shown-suits t m b id o p behind k in (z.0, (z.1.0, of-17 (entry_at t (picked_entry m)) id o p w z.1))

-- by its kind, what C gets is a result; the operation that it gets is the one that waits
module _ (t m b : List ℕ) where
  abbrev Stand : Type 0
  Stand = FourDigits (standing m (received_of (length m) (receive t m b)).shown.parameter)

  waits-for : (id : ℤ) (n : ℕ) (p : List ℕ) → Fits (entry_at t (picked_entry m)) id (some n) p → n ≡ operation_of id (outstanding t m)
  unfolding is_ours
  waits-for id n p f = let o = operation_of id (outstanding t m) in eqb-true n o (both (eqb n o) (suits ResultReceived o p) f.1).0

  of-result : (c : Component) (r : List ℕ) (s : Span) → (receive t m b).shown ≡ some (record { component = c; behind = r }) → (view_of c s).kind ≡ result_tag → (view_of c s).operation ≡ 17 → Stand
  of-result (invoke id l o p) r s e k w = absurd (omega arith)
  of-result (result id none p) r s e k w = absurd (omega arith)
  of-result (result id (some n) p) r s e k w =
      let z = (shown-suits t m b id (some n) p r e).1 in
      subst FourDigits (sym ((stands t m b).parameter ∙ rw e)) (of-17 (entry_at t (picked_entry m)) id (some n) p (sym (waits-for id n p z) ∙ w) z)
  of-result (error id code p) r s e k w = absurd (omega arith)
  of-result (reject id tag n) r s e k w = absurd (omega arith)

  of-shown : (s : Shows) → (receive t m b).shown ≡ s → (component_view (length m) s).kind ≡ result_tag → (component_view (length m) s).operation ≡ 17 → Stand
  unfolding component_view
  of-shown none e k w = absurd (omega arith)
  of-shown (some v) e k w = of-result v.component v.behind _ e k w

pub digits-in-c : DigitsInC
digits-in-c t m b k w = of-shown t m b (receive t m b).shown refl k w

-- what step 6 makes of a result of our 17
module _ (e : Entry) (id : ℤ) (p r : List ℕ) (a : among id e.own ≡ true) (w : operation_of id e.own ≡ 17) where
  not-digits : (o : Option ℕ) → (FourDigits p → ⊥) → step_six e (result id o p) r ≡ with_reject (some id) result_problem 2
  unfolding step_six judge_result
  not-digits o n = rw (a, received_is _ p w, no-password p n, and-false)

  are-digits : FourDigits p → step_six e (result id (some 17) p) r ≡ taken (clears ours id) (shown (result id (some 17) p) r)
  unfolding step_six judge_result is_ours
  are-digits f = rw (a, received_is _ p w, is-password p f, w)

pub others-are-not-shown : OthersAreNotShown
unfolding act splice
others-are-not-shown t m b id o p w n = fares t m b (result id o p) _ (λ r. not-digits (entry_at t (picked_entry m)) id p r w.0 w.1 o n)

pub digits-are-shown : DigitsAreShown
unfolding act splice
digits-are-shown t m b id p w f = fares t m b (result id (some 17) p) _ (λ r. are-digits (entry_at t (picked_entry m)) id p r w.0 w.1 f)
