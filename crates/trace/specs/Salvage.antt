-- 02 [7]: "Salvage copies every block without a fault from 32 to 35, unaltered but for number and sum, and lists each block it
-- dropped or renumbered with the old number and the first fault found."
use Rattle.std.specs.Prelude.{ℕ, suc, ◌+◌, cond, List, [], ◌∷◌, ◌++◌, length, ◌==◌}
use Rattle.octets.specs.Part.{between}
use Rattle.octets.specs.Reader.{Answer, fault, sound}
use Rattle.trace.specs.Numbers.{four}
use Rattle.trace.specs.Records.{Record}
use Rattle.trace.specs.Blocks.{short_block, number_in, sealed, block_records}
use Rattle.trace.specs.Files.{blocks_in, joined}
use Rattle.trace.specs.declared.Fate.{Fate}
use Rattle.trace.specs.declared.Fate.TheVariants.{Kept, Renumbered, Dropped, Short}

-- "36 number not the block's place, .. for salvage its place in the output": by how many blocks were kept before it
abbrev pub fate_by : ℕ → ℕ → Answer (List Record) → Fate
fate_by kept number (fault n) = cond (n == short_block) Short (Dropped number n)
fate_by kept number (sound records) = cond (number == kept) Kept (Renumbered number)

unfoldable pub fate_of : ℕ → List ℕ → Fate
fate_of kept b = fate_by kept (number_in b) (block_records b)

-- "unaltered but for number and sum"
unfoldable pub renumbered : ℕ → List ℕ → List ℕ
renumbered number b = sealed (four number ++ between 4 510 b)

-- the block as it is written: none where it is dropped
abbrev pub written_by : ℕ → List ℕ → Fate → List (List ℕ)
written_by kept b Kept = b ∷ []
written_by kept b (Renumbered number) = renumbered kept b ∷ []
written_by kept b (Dropped number n) = []
written_by kept b Short = []

-- "`number N dropped R` (33 to 35), `number N renumbered 36`, `place N dropped 32`"
pub data Listed : Type 0 where
  dropped : (number fault : ℕ) → Listed
  renumbered36 : (number : ℕ) → Listed
  short : (place : ℕ) → Listed

-- "A short last block is listed by its place", "the number of blocks before it"
abbrev pub listed_by : ℕ → Fate → List Listed
listed_by place Kept = []
listed_by place (Renumbered number) = renumbered36 number ∷ []
listed_by place (Dropped number n) = dropped number n ∷ []
listed_by place Short = short place ∷ []

pub record Salvaged : Type 0 where
  pub blocks : List (List ℕ)
  pub list : List Listed

abbrev pub ahead : List (List ℕ) → List Listed → Salvaged → Salvaged
ahead blocks list behind = record { blocks = blocks ++ behind.blocks; list = list ++ behind.list }

-- "The order of the file is kept."
unfoldable pub salvage_from : ℕ → ℕ → List (List ℕ) → Salvaged
salvage_from kept place [] = record { blocks = []; list = [] }
salvage_from kept place (b ∷ others) =
    ahead (written_by kept b (fate_of kept b)) (listed_by place (fate_of kept b))
    (salvage_from (kept + length (written_by kept b (fate_of kept b))) (suc place) others)

unfoldable pub salvaged : List ℕ → Salvaged
salvaged file = salvage_from 0 0 (blocks_in file)

unfoldable pub mended_file : List ℕ → List ℕ
mended_file file = joined (salvaged file).blocks
