-- What is asked of records that are fed, and what feeding them leaves.
use Rattle.std.specs.Prelude.{ℕ, ◌*◌, ◌≤◌, ◌≡◌, List, length}
use Rattle.octets.specs.Reader.{sound, Taken}
use Rattle.octets.specs.Splice.{splice}
use Rattle.records.specs.Records.{one_record, messages_in}
use Rattle.telephone.specs.History.{outcomes, table_after}
use Rattle.telephone.specs.Batch.{fed, slot_length, slots_of}

-- a whole record stands at the front
abbrev pub IsRecord : List ℕ → Type 0
IsRecord s = (first : Taken (List ℕ)) × (one_record s ≡ sound first)

-- all are whole records, and there is a slot for each
abbrev pub CanFeed : List ℕ → ℕ → Type 0
CanFeed records room = (messages : List (List ℕ)) × ((messages_in records ≡ sound messages) × (slot_length * length messages ≤ room))

abbrev pub FedOutput : List ℕ → List ℕ → List ℕ → List ℕ → Type 0
FedOutput table records output after = (messages : List (List ℕ)) → messages_in records ≡ sound messages → after ≡ splice output 0 (slots_of (outcomes fed table messages))

abbrev pub FedTable : List ℕ → List ℕ → List ℕ → Type 0
FedTable table records after = (messages : List (List ℕ)) → messages_in records ≡ sound messages → after ≡ table_after fed table messages
