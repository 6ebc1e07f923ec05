-- A walk for a component that is shown: it was taken or came with a release, and what step 6 asked of it holds.
use Prim.Native.Nat.{ℕ}
use mathlib.Core.Path.{◌≡◌, refl}
use mathlib.Core.List.{List}
use mathlib.Core.Bool.{true}
use mathlib.Core.Option.{Option, none, some}
use lib.ListN.{length, get_or, drop}
use Rattle.octets.specs.Reader.{Answer, fault, sound, Taken}
use Rattle.components.specs.Component.{Component}
use Rattle.components.specs.Facility.{Finding, facility}
use Rattle.messages.specs.Layout.{flag, facility_type, register_type}
use Rattle.messages.specs.Scan.{required, first_taken}
use Rattle.table.specs.Table.{Entry, entry_at}
use Rattle.deciding.specs.Decision.{Decision, shown_by}
use Rattle.deciding.specs.Steps.{first_octet, picked_entry, step_four, step_six, five_and_six, four_to_six, in_release, on_release}
use Rattle.deciding.proofs.StepLaws.{by-type, tested}
use Rattle.telephone.specs.Receive.{verdict_of, act, receive}
use Rattle.telephone.proofs.Shown.{nothing-shown, five-shows, except-shows}
use Rattle.promises.specs.Reaches.{taken_or_released}

abbrev pub IsShown : Component → List ℕ → Decision → Type 0
IsShown c behind d = shown_by d ≡ some (record { component = c; behind = behind })

-- a verdict that shows, of a component that fits
abbrev pub Good : Type 0 → Decision → Type 0
Good Fits d = (taken_or_released (verdict_of d) ≡ true) × Fits

module _ (c : Component) (behind : List ℕ) (Fits : Type 0) where
  module _ (e : Entry) (six : (r : List ℕ) → IsShown c behind (step_six e c r) → Good Fits (step_six e c r)) where
    five-good : (f : Finding) (r : List ℕ) → IsShown c behind (five_and_six e f r) → Good Fits (five_and_six e f r)
    unfolding five_and_six
    five-good f r k = let w = five-shows e f r c behind k in rw w.0 (six r w.1)

    four-good : (type : ℕ) (s : List ℕ) → IsShown c behind (four_to_six e type s) → Good Fits (four_to_six e type s)
    unfolding four_to_six
    four-good type s k = go (required type s) k
      where
        go : (o : Answer (Taken (List ℕ))) → IsShown c behind (step_four o (λ v r. five_and_six e (facility v) r)) → Good Fits (step_four o (λ v r. five_and_six e (facility v) r))
        go (fault n) h = nothing-shown h
        go (sound g) h = five-good (facility g.value) g.rest h

    release-good : (s : List ℕ) → IsShown c behind (on_release e s) → Good Fits (on_release e s)
    unfolding on_release
    release-good s k = (refl, go (first_taken 0x1C s) k)
      where
        go : (o : Option (Taken (List ℕ))) → in_release e o ≡ some (record { component = c; behind = behind }) → Fits
        go none h = nothing-shown h
        go (some g) h = (five-good (facility g.value) g.rest (except-shows _ _ h).0).1

  pub shown-fits : (t m b : List ℕ) → ((r : List ℕ) → IsShown c behind (step_six (entry_at t (picked_entry m)) c r) → Good Fits (step_six (entry_at t (picked_entry m)) c r))
      → (receive t m b).shown ≡ some (record { component = c; behind = behind }) → (taken_or_released (receive t m b).code ≡ true) × Fits
  unfolding receive act
  shown-fits t m b six k =
      let e = entry_at t (picked_entry m) in
      tested (λ d. IsShown c behind d → Good Fits d) t m (length b) nothing-shown nothing-shown nothing-shown nothing-shown nothing-shown
      (λ g. by-type (λ d. IsShown c behind d → Good Fits d) e (flag (first_octet m)) (get_or m 1 0) (drop 2 m) nothing-shown nothing-shown nothing-shown nothing-shown
      (λ _ _. release-good e six (drop 2 m))
      (λ _ _. four-good e six facility_type (drop 2 m))
      (λ _ _. four-good e six register_type (drop 2 m)))
      k
