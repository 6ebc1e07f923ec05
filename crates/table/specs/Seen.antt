-- What the code's answers mean, and what is promised of them.
use Rattle.std.specs.Prelude.{ℕ, ◌≡◌, List, Bool, true, false, Option, None, Some}
use Rattle.std.proofs.Math.Option.{Option as Maybe, none, some}
use Rattle.sides.specs.Seen.{side_seen}
use Rattle.table.specs.Table.{Entry, named, lowest_closed}
use Rattle.table.specs.Change.{Side, ours, peers, opens, closes, adds, clears}
use Rattle.table.specs.Change as spec
use Rattle.table.specs.declared.Slot.{Slot}
use Rattle.table.specs.declared.Change.{Change}

abbrev pub slot_seen : Slot → Entry
slot_seen s = record { is_open = s.open; own = side_seen s.own; peer = side_seen s.peer }

abbrev pub named_seen : Option ℕ → Maybe ℕ
named_seen None = none
named_seen (Some k) = some k

abbrev pub side_on : Bool → Side
side_on true = ours
side_on false = peers

abbrev pub change_seen : Change → spec.Change
change_seen Change.Opens = opens
change_seen Change.Closes = closes
change_seen (Change.Adds own id operation) = adds (side_on own) id operation
change_seen (Change.Clears own id) = clears (side_on own) id

abbrev pub FindsClosed : List ℕ → Option ℕ → Type 0
FindsClosed table entry = named_seen entry ≡ lowest_closed table

abbrev pub NamesEntry : ℕ → ℕ → Option ℕ → Type 0
NamesEntry flag value entry = named_seen entry ≡ named flag value
