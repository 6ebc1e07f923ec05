-- "What the two build is what the writer builds": the loop that include/smrcholet.h tells, over what the two calls promise, and the
-- writer's own steps, each give the blocks of the records.
use Rattle.std.specs.Prelude.{ℕ, suc, ◌%◌, ◌≡◌, List, [], ◌∷◌, Bool, true, false, cond, length, Result, Ok, Err}
use Rattle.trace.specs.Records.{Record, Good, good_record}
use Rattle.trace.specs.Blocks.{zeros}
use Rattle.trace.specs.Writing.{blocks_of}
use Rattle.trace.specs.Calls.{begin_leaves, add_answer, add_leaves}
use Rattle.trace.specs.Steps.{wrote, holds, hands_over}
use Rattle.trace.specs.Faults.{number_of}
use Rattle.trace.specs.declared.faults.Fault.{Fault}
use Rattle.trace.specs.declared.writing.Wrote.{Wrote}

-- "Keep one block, add each message as it comes or goes, and write the block where it is full": it is begun over whatever it held
abbrev pub build_from : ℕ → List ℕ → List Record → List (List ℕ)
build_from number block [] = block ∷ []
build_from number block (r ∷ others) =
    cond (add_answer block r).added
    (build_from number (add_leaves block r) others)
    (block ∷ build_from (suc number) (add_leaves (begin_leaves block (suc number % 4294967296)) r) others)

-- "Begin a block only where there is none yet"
abbrev pub built : List ℕ → List Record → List (List ℕ)
built lent [] = []
built lent (r ∷ others) = build_from 0 (add_leaves (begin_leaves lent 0) r) others

abbrev pub CallsBuild : Type 0
CallsBuild = (lent : List ℕ) (records : List Record) → length lent ≡ 512 → Good records → built lent records ≡ blocks_of records

-- the blocks that a writer gives, and whether it ended at a bad record
pub record Writing : Type 0 where
  pub blocks : List (List ℕ)
  pub refused : ℕ

abbrev pub ahead : Bool → List ℕ → Writing → Writing
ahead full block behind = record { blocks = cond full (block ∷ behind.blocks) behind.blocks; refused = behind.refused }

-- "35 ends the writing": the block that is held is written then, if it has a record
abbrev pub ended : Bool → List ℕ → ℕ → Writing
ended opened held code = record { blocks = cond opened (held ∷ []) []; refused = code }

abbrev pub written_or : Result Wrote Fault → (ℕ → Writing) → (Wrote → Writing) → Writing
written_or (Err f) stop behind = stop (number_of f)
written_or (Ok w) stop behind = behind w

abbrev pub write_from : Bool → List ℕ → List ℕ → ℕ → List Record → Writing
write_from opened held full number [] = ended opened held 0
write_from opened held full number (r ∷ others) =
    written_or (wrote held number r) (λ code. ended opened held code)
    (λ w. ahead w.is_full (hands_over full held r)
    (write_from true (holds held number r) (hands_over full held r) w.number others))

-- the records before the first bad one
abbrev pub until_bad : List Record → List Record
until_bad [] = []
until_bad (r ∷ others) = cond (good_record r) (r ∷ until_bad others) []

abbrev pub bad_code : List Record → ℕ
bad_code [] = 0
bad_code (r ∷ others) = cond (good_record r) (bad_code others) 35

-- from 512 zeros, which are the empty block 0
abbrev pub WriterBuilds : Type 0
WriterBuilds = (full : List ℕ) (records : List Record) → write_from false (zeros 512) full 0 records ≡ record { blocks = blocks_of (until_bad records); refused = bad_code records }
