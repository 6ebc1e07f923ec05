-- Salvage: "A whole file comes out identical with an empty list"; "what comes out is read without refusal, holds the records of the
-- sound blocks in order, and salvage of it changes nothing"; each block is kept or listed, a renumbered one both.
use Rattle.std.specs.Prelude.{ℕ, suc, ◌≡◌, List, [], ◌∷◌, ◌++◌, cond, length, eqb}
use Rattle.std.proofs.Math.Option.{none}
use Rattle.octets.specs.Reader.{Answer, fault, sound}
use Rattle.trace.specs.Records.{Record}
use Rattle.trace.specs.Blocks.{number_in, block_records, records_or}
use Rattle.trace.specs.Files.{blocks_in, read_file}
use Rattle.trace.specs.Salvage.{dropped, renumbered36, short, Salvaged, renumbered, salvaged, mended_file}
use Rattle.trace_promises.specs.Blocks.{Numbered}

abbrev pub WholeStays : Type 0
WholeStays = (file : List ℕ) → (read_file file).refused ≡ none → (mended_file file ≡ file) × ((salvaged file).list ≡ [])

-- the records of the blocks without a fault from 32 to 35, in order
abbrev pub sound_records : List (List ℕ) → List Record
sound_records [] = []
sound_records (b ∷ others) = records_or (block_records b) ++ sound_records others

abbrev pub ReadsMended : Type 0
ReadsMended = (file : List ℕ) → Numbered file → read_file (mended_file file) ≡ record { records = sound_records (blocks_in file); refused = none }

abbrev pub Settles : Type 0
Settles = (file : List ℕ) → Numbered file → (mended_file (mended_file file) ≡ mended_file file) × ((salvaged (mended_file file)).list ≡ [])

-- how many blocks without such a fault there are
abbrev pub count_sound : Answer (List Record) → ℕ → ℕ
count_sound (fault n) k = k
count_sound (sound records) k = suc k

abbrev pub sound_count : List (List ℕ) → ℕ
sound_count [] = 0
sound_count (b ∷ others) = count_sound (block_records b) (sound_count others)

-- what is written and listed of one block, with so many sound blocks and so many blocks before it
abbrev pub due_by : ℕ → ℕ → List ℕ → Answer (List Record) → Salvaged
due_by kept place b (fault n) = record { blocks = []; list = cond (eqb n 32) (short place) (dropped (number_in b) n) ∷ [] }
due_by kept place b (sound records) =
    cond (eqb (number_in b) kept) (record { blocks = b ∷ []; list = [] }) (record { blocks = renumbered kept b ∷ []; list = renumbered36 (number_in b) ∷ [] })

abbrev pub due : ℕ → ℕ → List ℕ → Salvaged
due kept place b = due_by kept place b (block_records b)

-- what comes before and behind it in what salvage gives
pub record Accounted (all : Salvaged) (before : List (List ℕ)) (b : List ℕ) (after : List (List ℕ)) : Type 0 where
  pub first : Salvaged
  pub last : Salvaged
  pub blocks : all.blocks ≡ first.blocks ++ ((due (sound_count before) (length before) b).blocks ++ last.blocks)
  pub list : all.list ≡ first.list ++ ((due (sound_count before) (length before) b).list ++ last.list)
  pub place : length first.blocks ≡ sound_count before
  pub others : length last.blocks ≡ sound_count after

abbrev pub EachBlock : Type 0
EachBlock = (file : List ℕ) (before : List (List ℕ)) (b : List ℕ) (after : List (List ℕ)) → blocks_in file ≡ before ++ (b ∷ after)
    → Accounted (salvaged file) before b after
