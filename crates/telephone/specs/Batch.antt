-- 02 [6], "A morning's messages in one call".
use Rattle.std.specs.Prelude.{ℕ, ◌*◌, List, [], ◌∷◌, ◌++◌, length, replicate, leb}
use Rattle.octets.specs.Reader.{Answer, fault, sound, and_then, check}
use Rattle.octets.specs.Splice.{splice}
use Rattle.records.specs.Records.{messages_in}
use Rattle.table.specs.Table.{valid}
use Rattle.telephone.specs.Outcome.{Outcome}
use Rattle.telephone.specs.Receive.{receive}
use Rattle.telephone.specs.History.{outcomes, table_after}

-- "Slot n is what receive gives for message n from the table so far, with a buffer of 12 octets": twelve zeros, so that the reply
-- is "filled up with zeros to 12"
unfoldable pub fed : List ℕ → List ℕ → Outcome
fed table message = receive table message (replicate 12 0)

-- "a slot of 14 octets: verdict, reply length, reply"
abbrev pub slot_length : ℕ
slot_length = 14

abbrev pub slot : Outcome → List ℕ
slot o = o.code ∷ o.written ∷ o.buffer

unfoldable pub slots_of : List Outcome → List ℕ
slots_of [] = []
slots_of (o ∷ others) = slot o ++ slots_of others

-- what a batch returns and leaves: "0 and the number of slots written; a refusal returns its number and 0"
pub record Batch : Type 0 where
  pub code : ℕ
  pub slots : ℕ
  pub output : List ℕ
  pub table : List ℕ

-- "Refusals: 28 as before, then 30 a zero or cut record, then 31 fewer than 14 octets a record"; else the messages to feed
unfoldable pub to_feed : List ℕ → List ℕ → ℕ → Answer (List (List ℕ))
to_feed table records room =
    check (valid table) 28
    (and_then (messages_in records) (λ messages.
    check (leb (slot_length * length messages) room) 31
    (sound messages)))

-- "each refuses the whole call and changes nothing"; "Octets after the last slot stay."
abbrev pub batch_of : List ℕ → List ℕ → Answer (List (List ℕ)) → Batch
batch_of table output (fault number) = record { code = number; slots = 0; output = output; table = table }
batch_of table output (sound messages) =
    record {
      code = 0;
      slots = length messages;
      output = splice output 0 (slots_of (outcomes fed table messages));
      table = table_after fed table messages;
    }

unfoldable pub batch : List ℕ → List ℕ → List ℕ → Batch
batch table records output = batch_of table output (to_feed table records (length output))
