-- 02 [7]: "none crosses a block and the rest is zero. The writer opens a block only when a record doesn't fit".
use Rattle.std.specs.Prelude.{ℕ, suc, ◌+◌, Bool, cond, List, [], ◌∷◌, ◌++◌, length, nat_le}
use Rattle.trace.specs.Records.{Record, record_octets, records_of}
use Rattle.trace.specs.Blocks.{block_of}
use Rattle.trace.specs.Files.{joined}

-- "A record takes its length and two octets."
abbrev pub fits : List Record → Record → Bool
fits held r = nat_le (length (records_of held) + length (record_octets r)) 504

-- the records of each block, from the one that is open on
abbrev pub pack_from : List Record → List Record → List (List Record)
pack_from held [] = held ∷ []
pack_from held (r ∷ others) = cond (fits held r) (pack_from (held ++ (r ∷ [])) others) (held ∷ pack_from (r ∷ []) others)

-- "no block, a file of no octets, since no record failed to fit"
abbrev pub packed : List Record → List (List Record)
packed [] = []
packed (r ∷ others) = pack_from (r ∷ []) others

-- blocks numbered from a number on
abbrev pub blocks_from : ℕ → List (List Record) → List (List ℕ)
blocks_from number [] = []
blocks_from number (row ∷ others) = block_of number row ∷ blocks_from (suc number) others

unfoldable pub blocks_of : List Record → List (List ℕ)
blocks_of records = blocks_from 0 (packed records)

unfoldable pub file_of : List Record → List ℕ
file_of records = joined (blocks_of records)
