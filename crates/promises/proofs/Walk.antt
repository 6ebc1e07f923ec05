-- A walk through the steps: what holds of every way that a message can go holds of its decision.
use Prim.Native.Nat.{ℕ}
use mathlib.Core.Path.{◌≡◌, refl}
use mathlib.Core.List.{List}
use mathlib.Core.Bool.{true}
use mathlib.Core.Option.{Option}
use lib.ListN.{get_or, drop}
use borrow.Author.Tests.{eqb-false}
use Rattle.octets.specs.Reader.{Answer, fault, sound, Taken}
use Rattle.octets.proofs.FaultLaws.{Faults}
use Rattle.components.specs.Facility.{facility}
use Rattle.components.specs.Shows.{Shows}
use Rattle.messages.specs.Layout.{value, flag, facility_type, register_type}
use Rattle.messages.specs.Scan.{required}
use Rattle.messages.proofs.ScanLaws.{required-faults}
use Rattle.table.specs.Table.{Entry, entry_at, valid}
use Rattle.deciding.specs.Decision.{Decision, silent, with_cause, released}
use Rattle.deciding.specs.Steps.{first_octet, picked_entry, step_four, five_and_six, four_to_six, on_release, decide}
use Rattle.deciding.proofs.StepLaws.{by-type, tested}
use Rattle.promises.specs.OneVerdict.{sends_nothing, is_cause}

module _ (P : Decision → Type 0) (onSilent : (code : ℕ) → sends_nothing code ≡ true → P (silent code)) (onCause : (number : ℕ) → is_cause number ≡ true → P (with_cause number))
    (onReleased : (shown : Shows) (cause : Option (Taken (List ℕ))) → P (released shown cause)) where
  -- what step 5 is given was found by step 4
  four : (e : Entry) (s : List ℕ) (type : ℕ) → ((g : Taken (List ℕ)) → required type s ≡ sound g → P (five_and_six e (facility g.value) g.rest)) → P (four_to_six e type s)
  unfolding four_to_six
  four e s type onFive = go (required type s) refl (required-faults (λ n. is_cause n ≡ true) type s refl)
    where
      go : (o : Answer (Taken (List ℕ))) → required type s ≡ o → Faults (λ n. is_cause n ≡ true) o → P (step_four o (λ v behind. five_and_six e (facility v) behind))
      go (fault n) q h = onCause n h
      go (sound g) q h = onFive g q

  pub walk : (t m : List ℕ) (room : ℕ)
      → (valid t ≡ true → (value (first_octet m) ≡ 7 → ⊥) → (type : ℕ) (g : Taken (List ℕ)) → required type (drop 2 m) ≡ sound g → P (five_and_six (entry_at t (picked_entry m)) (facility g.value) g.rest))
      → P (decide t m room)
  unfolding on_release
  walk t m room onFive =
      tested P t m room (onSilent 28 refl) (onSilent 27 refl) (onSilent 6 refl) (onSilent 1 refl) (onSilent 7 refl)
      (λ g. let w = eqb-false (value (first_octet m)) 7 g.transaction in
      by-type P (entry_at t (picked_entry m)) (flag (first_octet m)) (get_or m 1 0) (drop 2 m) (onSilent 1 refl) (onCause 81 refl) (onCause 97 refl) (onCause 98 refl)
      (λ _ _. onReleased _ _)
      (λ _ _. four (entry_at t (picked_entry m)) (drop 2 m) facility_type (onFive g.table w facility_type))
      (λ _ _. four (entry_at t (picked_entry m)) (drop 2 m) register_type (onFive g.table w register_type)))
