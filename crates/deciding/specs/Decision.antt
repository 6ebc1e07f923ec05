-- 01, the table of verdicts: what a received message is found to be. Nothing is sent or changed yet.
use Rattle.std.specs.Prelude.{ℕ, List, ℤ}
use Rattle.std.proofs.Math.Option.{Option, none}
use Rattle.octets.specs.Reader.{Taken}
use Rattle.components.specs.Shows.{Shows}
use Rattle.table.specs.Change.{Change}

pub data Decision : Type 0 where
  -- "1 ignored", "6, 7 too long; other protocol", and the refusals 28 and 27
  silent : (code : ℕ) → Decision
  -- "2 released with a cause"
  with_cause : (number : ℕ) → Decision
  -- "3 released with Reject"
  with_reject : (id : Option ℤ) (tag number : ℕ) → Decision
  -- "4 Reject received, sound or faulty"
  on_reject : (shown : Shows) → Decision
  -- "5 released by the network", with the contents of the 08 and what stands behind them
  released : (shown : Shows) (cause : Option (Taken (List ℕ))) → Decision
  -- "0 taken", with the change of its entry
  taken : (change : Change) (shown : Shows) → Decision

abbrev pub shown_by : Decision → Shows
shown_by (silent code) = none
shown_by (with_cause number) = none
shown_by (with_reject id tag number) = none
shown_by (on_reject shown) = shown
shown_by (released shown cause) = shown
shown_by (taken change shown) = shown
