-- The writer's step, over the two calls: it adds a record to the block that it holds; where that doesn't fit, the block is full
-- and is handed over, and the record is the first of the next.
use Rattle.std.specs.Prelude.{ℕ, ◌+◌, ◌%◌, Bool, true, false, cond, not, List, [], ◌==◌, Result, Ok, Err}
use Rattle.octets.specs.Unless.{unless}
use Rattle.trace.specs.Records.{Record}
use Rattle.trace.specs.Blocks.{block_of}
use Rattle.trace.specs.Calls.{add_answer, add_leaves}
use Rattle.trace.specs.Faults.{fault_named}
use Rattle.trace.specs.declared.faults.Fault.{Fault}
use Rattle.trace.specs.declared.writing.Wrote.{Wrote}

-- "writer and salvage write the place modulo 4,294,967,296"
abbrev pub next_number : ℕ → ℕ
next_number number = (number + 1) % 4294967296

-- the record neither is refused nor fits
abbrev pub is_full : List ℕ → Record → Bool
is_full held r = cond ((add_answer held r).code == 0) (not (add_answer held r).added) false

unfoldable pub wrote : List ℕ → ℕ → Record → Result Wrote Fault
wrote held number r =
    unless ((add_answer held r).code == 0) (Err (fault_named (add_answer held r).code))
    (cond (add_answer held r).added (Ok (record { number = number; is_full = false }))
    (Ok (record { number = next_number number; is_full = true })))

unfoldable pub holds : List ℕ → ℕ → Record → List ℕ
holds held number r = cond (is_full held r) (add_leaves (block_of (next_number number) []) r) (add_leaves held r)

unfoldable pub hands_over : List ℕ → List ℕ → Record → List ℕ
hands_over full held r = cond (is_full held r) held full
