-- What is printed of a batch, slot by slot.
use Rattle.std.specs.Prelude.{ℕ, zero, suc, List, [], ◌∷◌, ◌++◌, take, drop, get_or, eqb}
use Rattle.printing.specs.Lines.{when, number_line}
use Rattle.telephone.specs.Batch.{slot_length}
use Rattle.telephone.specs.declared.batch.Batched.{Batched}
use Rattle.reports.specs.Words.{reply_word, slots_word, verdict_line, done_or_refused}
use Rattle.reports.specs.Shown.{written_line}

-- of the slot at the front, "its `verdict` line and, if its reply has octets, its `reply` line, both as for `receive`"
unfoldable pub slot_text : List ℕ → List ℕ
slot_text s = verdict_line (get_or s 0 0) ++ written_line reply_word (get_or s 1 0) (take 12 (drop 2 s))

-- "for each slot in order": n slots from the front on
unfoldable pub slot_lines : ℕ → List ℕ → List ℕ
slot_lines zero s = []
slot_lines (suc n) s = slot_text s ++ slot_lines n (drop slot_length s)

-- "The answer is `done 0`, `slots N`, and for each slot .."; "Or it is one line: `refused 28 table damaged`, `refused 30 bad
-- record`, `refused 31 output too short`."
unfoldable pub batched_text : List ℕ → Batched → List ℕ
batched_text output b =
    done_or_refused b.code
    ++ when (eqb b.code 0) (number_line slots_word b.slots ++ slot_lines b.slots output)
    ++ (10 ∷ [])
