-- The code's entry by its numbers, whatever its image is.
use Rattle.std.specs.Prelude.{ℕ, ◌+◌, ◌*◌, ◌<◌, ◌≡◌, List, [], ◌∷◌, ◌++◌, Bool, true, false, not, eqb}
use Rattle.octets.specs.Octets.{Octets}
use Rattle.codes.specs.Ids.{id_of, octet_of}
use Rattle.sides.specs.Seen.{octets_seen, with_last, without_id}
use Rattle.table.specs.Table.{Image, image_at, state_of, entry_at}
use Rattle.table.specs.Seen.{slot_seen}
use Rattle.table.specs.declared.Slot.{Slot}
use Rattle.table.specs.declared.Change.{Change}

-- octets joined in one number, the first lowest
abbrev pub join_of : List ℕ → ℕ
join_of [] = 0
join_of (a ∷ s) = a + 256 * join_of s

abbrev pub slot_of : Image → Slot
slot_of i = record { «open» = not (eqb i.state 0); own = join_of i.own; peer = join_of i.peer }

-- each is an octet
abbrev pub IsOctets : Image → Type 0
IsOctets i = Octets i.own × Octets i.peer

abbrev pub slot_octets : Slot → List ℕ
slot_octets e = state_of (slot_seen e) ∷ (octets_seen e.own ++ octets_seen e.peer)

abbrev pub with_side : Slot → Bool → ℕ → Slot
with_side e true side = record { «open» = true; own = side; peer = e.peer }
with_side e false side = record { «open» = true; own = e.own; peer = side }

abbrev pub side_in : Slot → Bool → ℕ
side_in e true = e.own
side_in e false = e.peer

abbrev pub slot_changed : Slot → Change → Slot
slot_changed e Change.Opens = record { «open» = true; own = e.own; peer = e.peer }
slot_changed e Change.Closes = record { «open» = false; own = 0; peer = 0 }
slot_changed e (Change.Adds own id operation) = with_side e own (with_last (side_in e own) id operation)
slot_changed e (Change.Clears own id) = with_side e own (without_id id (side_in e own))

-- the id of a change is one that an octet says
abbrev pub ChangeFits : Change → Type 0
ChangeFits Change.Opens = Unit {0}
ChangeFits Change.Closes = Unit {0}
ChangeFits (Change.Adds own id operation) = (id_of (octet_of id) ≡ id) × ((octet_of id < 256) × (operation < 256))
ChangeFits (Change.Clears own id) = Unit {0}

-- the entry, and the numbers for it
abbrev pub ReadsEntry : List ℕ → ℕ → Slot → Type 0
ReadsEntry table k slot = (slot ≡ slot_of (image_at table k)) × (slot_seen slot ≡ entry_at table k)
