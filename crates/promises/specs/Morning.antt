-- 02 [6], "A morning's messages in one call", over the definition that the call from C promises to meet. What a batch is said to
-- be here goes by messages and their octets alone, not by how records are read.
use Rattle.std.specs.Prelude.{ℕ, zero, suc, ◌+◌, ◌-◌, ◌*◌, ◌≤◌, ◌<◌, ◌≡◌, List, [], ◌∷◌, ◌++◌, map, Bool, true, false, ◌||◌, length, get_or, take, drop, replicate, leb, eqb}
use Rattle.octets.specs.Octets.{Octets}
use Rattle.records.specs.Records.{records_of}
use Rattle.table.specs.Table.{valid}
use Rattle.telephone.specs.Outcome.{Outcome}
use Rattle.telephone.specs.Receive.{receive}
use Rattle.telephone.specs.History.{outcomes, table_after}
use Rattle.telephone.specs.Batch.{Batch, batch}

-- messages that records hold: "a length octet from 1 to 255 and that many octets"
abbrev pub Fit : List (List ℕ) → Type 0
Fit [] = Unit {0}
Fit (m ∷ others) = ((1 ≤ length m) × (length m ≤ 255)) × Fit others

-- "each refuses the whole call and changes nothing"
abbrev pub unchanged : List ℕ → List ℕ → ℕ → Batch
unchanged table output code = record { code = code; slots = 0; output = output; table = table }

-- "Refusals: 28 as before, then 30 a zero or cut record, then 31 fewer than 14 octets a record"
pub data Answered (table records output : List ℕ) (b : Batch) : Type 0 where
  damaged : valid table ≡ false → b ≡ unchanged table output 28 → Answered table records output b
  bad : valid table ≡ true → ((row : List (List ℕ)) → Fit row → records ≡ records_of row → ⊥) → b ≡ unchanged table output 30 → Answered table records output b
  no_room : valid table ≡ true → (row : List (List ℕ)) → Fit row → records ≡ records_of row → length output < 14 * length row → b ≡ unchanged table output 31 → Answered table records output b
  is_fed : valid table ≡ true → (row : List (List ℕ)) → Fit row → records ≡ records_of row → 14 * length row ≤ length output → b.code ≡ 0 → Answered table records output b

abbrev pub EveryBatch : Type 0
EveryBatch = (table records output : List ℕ) → Octets records → Answered table records output (batch table records output)

-- "feeding the messages one by one": each with a reply buffer of its own, whatever it holds, in which every reply finds room
pub record Lent : Type 0 where
  pub message : List ℕ
  pub buffer : List ℕ

abbrev pub receives : List ℕ → Lent → Outcome
receives table l = receive table l.message l.buffer

abbrev pub messages_of : List Lent → List (List ℕ)
messages_of row = map (λ (l : Lent). l.message) row

abbrev pub Roomy : List Lent → Type 0
Roomy [] = Unit {0}
Roomy (l ∷ others) = (12 ≤ length l.buffer) × Roomy others

-- "verdict, reply length, reply filled up with zeros to 12"
abbrev pub told : Outcome → List ℕ
told o = o.code ∷ o.written ∷ (take o.written o.buffer ++ replicate (12 - o.written) 0)

abbrev pub all_told : List Outcome → List ℕ
all_told [] = []
all_told (o ∷ others) = told o ++ all_told others

-- "Verdicts, replies and final table equal those of feeding the messages one by one. Octets after the last slot stay."
pub record FedAs (table output : List ℕ) (row : List Lent) (b : Batch) : Type 0 where
  pub code : b.code ≡ 0
  pub slots : b.slots ≡ length row
  pub front : take (14 * length row) b.output ≡ all_told (outcomes receives table row)
  pub behind : drop (14 * length row) b.output ≡ drop (14 * length row) output
  pub table_is : b.table ≡ table_after receives table row

abbrev pub OneByOne : Type 0
OneByOne =
    (table output : List ℕ) (row : List Lent) → valid table ≡ true → Fit (messages_of row) → Roomy row → 14 * length row ≤ length output
    → FedAs table output row (batch table (records_of (messages_of row)) output)

-- Two batches one after the other, the second from the table and with the output behind the slots that the first left
abbrev pub secondly : Batch → List ℕ → Batch
secondly a records = batch a.table records (drop (14 * a.slots) a.output)

abbrev pub in_one : Batch → Batch → Batch
in_one a b = record { code = 0; slots = a.slots + b.slots; output = take (14 * a.slots) a.output ++ b.output; table = b.table }

-- are fed, both of them, and are the one batch of both
abbrev pub AreOne : Batch → Batch → Batch → Type 0
AreOne a b both = (a.code ≡ 0) × ((b.code ≡ 0) × (both ≡ in_one a b))

-- of any two rows of messages, where there is a slot for each
abbrev pub TwoAreOne : Type 0
TwoAreOne =
    (table output : List ℕ) (one two : List (List ℕ)) → Octets table → Octets (records_of one) → valid table ≡ true → Fit one → Fit two → 14 * (length one + length two) ≤ length output
    → AreOne (batch table (records_of one) output) (secondly (batch table (records_of one) output) (records_of two)) (batch table (records_of one ++ records_of two) output)

-- "so 27 never arises, nor 6": of the slots that are told, from the front of the output on
abbrev pub is_slot_verdict : ℕ → Bool
is_slot_verdict code = leb code 5 || eqb code 7

abbrev pub SlotVerdicts : ℕ → List ℕ → Type 0
SlotVerdicts zero output = Unit {0}
SlotVerdicts (suc n) output = (is_slot_verdict (get_or output 0 0) ≡ true) × SlotVerdicts n (drop 14 output)

abbrev pub SlotsKnown : Type 0
SlotsKnown = (table records output : List ℕ) → Octets table → Octets records → SlotVerdicts (batch table records output).slots (batch table records output).output

-- no batch damages the table
abbrev pub StaysSound : Type 0
StaysSound = (table records output : List ℕ) → Octets table → Octets records → valid table ≡ true → valid (batch table records output).table ≡ true

abbrev pub Morning : Type 0
Morning = EveryBatch × (OneByOne × (TwoAreOne × (SlotsKnown × StaysSound)))
