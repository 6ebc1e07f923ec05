-- 01, "How much the promises say": "from it, equal inputs are proved to give equal outcomes". Each function of crate trace whose
-- contract is no equation; its promise is the one that the contract cites.
use Rattle.std.specs.Prelude.{ℕ, ◌≡◌, Bool, List, Option, Result, ⊤}
use Rattle.octets.specs.OneAnswer.{OneAnswer}
use Rattle.trace.specs.Records.{Record}
use Rattle.trace.specs.Blocks.{block_records, records_at, fault_of}
use Rattle.trace.specs.Calls.{add_answer}
use Rattle.trace.specs.Faults.{code_of}
use Rattle.trace.specs.Seen.{ReadsRecord, answer_of}
use Rattle.trace.specs.declared.faults.Fault.{Fault}
use Rattle.trace.specs.declared.reading.Found.{Found}

abbrev pub Determined : Type 0
Determined =
    ((s : List ℕ) → OneAnswer (λ (r : Option Found). ReadsRecord s r))
    × (((block : List ℕ) → OneAnswer (λ (r : Result ⊤ Fault). code_of r ≡ fault_of (block_records block)))
    × (((place : ℕ) (block : List ℕ) → OneAnswer (λ (r : Result ⊤ Fault). code_of r ≡ fault_of (records_at place block)))
    × ((block : List ℕ) (record_added : Record) → OneAnswer (λ (r : Result Bool Fault). answer_of r ≡ add_answer block record_added))))
