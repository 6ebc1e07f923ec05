-- A trace file: its blocks, its records, and the first block that is refused.
use Rattle.std.specs.Prelude.{ℕ, zero, suc, cond, List, [], ◌∷◌, ◌++◌, length, take, drop}
use Rattle.std.proofs.Math.Option.{Option, none, some}
use Rattle.octets.specs.Reader.{Answer, fault, sound, is_empty}
use Rattle.trace.specs.Records.{Record}
use Rattle.trace.specs.Blocks.{records_at}

-- 512 octets each; of the last there may be fewer
unfoldable pub blocks_by : ℕ → List ℕ → List (List ℕ)
blocks_by zero s = []
blocks_by (suc most) s = cond (is_empty s) [] (take 512 s ∷ blocks_by most (drop 512 s))

unfoldable pub blocks_in : List ℕ → List (List ℕ)
blocks_in file = blocks_by (length file) file

abbrev pub joined : List (List ℕ) → List ℕ
joined [] = []
joined (b ∷ others) = b ++ joined others

-- "the place and the number" of the refusal
pub record Refusal : Type 0 where
  pub place : ℕ
  pub number : ℕ

-- "the records of the blocks before it, then the place and the number"
pub record Reading : Type 0 where
  pub records : List Record
  pub refused : Option Refusal

abbrev pub read_on : ℕ → Answer (List Record) → Reading → Reading
read_on place (fault n) behind = record { records = []; refused = some (record { place = place; number = n }) }
read_on place (sound records) behind = record { records = records ++ behind.records; refused = behind.refused }

-- "Blocks from the first on, and in each block 32 to 36"; "No block behind it is read."
unfoldable pub read_from : ℕ → List (List ℕ) → Reading
read_from place [] = record { records = []; refused = none }
read_from place (b ∷ others) = read_on place (records_at place b) (read_from (suc place) others)

unfoldable pub read_file : List ℕ → Reading
read_file file = read_from 0 (blocks_in file)
