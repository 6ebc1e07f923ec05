-- What the writer writes the reader reads, record for record; and it opens a block only when a record doesn't fit.
use Rattle.std.specs.Prelude.{◌≤◌, ◌≡◌, List, [], ◌∷◌, ◌++◌, false, length}
use Rattle.std.proofs.Math.Option.{none}
use Rattle.trace.specs.Records.{Record, Good, records_of}
use Rattle.trace.specs.Files.{read_file}
use Rattle.trace.specs.Writing.{fits, packed, file_of}

-- 02, C38: "The laws of C23 and C37 are for fewer blocks": four octets hold the number of each
abbrev pub ReadsBack : Type 0
ReadsBack = (records : List Record) → Good records → length (packed records) ≤ 4294967296
    → read_file (file_of records) ≡ record { records = records; refused = none }

-- so any row of at most 4,294,967,296 records reads back: there are no more blocks than records
abbrev pub FewBlocks : Type 0
FewBlocks = (records : List Record) → length (packed records) ≤ length records

-- a row has a record at least, and room in a block
abbrev pub Row : List Record → Type 0
Row [] = ⊥
Row (r ∷ others) = length (records_of (r ∷ others)) ≤ 504

-- the first record of the next row does not fit behind this one
abbrev pub Late : List Record → List Record → Type 0
Late row [] = ⊥
Late row (r ∷ others) = fits row r ≡ false

abbrev pub Tight : List (List Record) → Type 0
Tight [] = Unit {0}
Tight (row ∷ []) = Row row
Tight (row ∷ (next ∷ others)) = Row row × (Late row next × Tight (next ∷ others))

abbrev pub in_order : List (List Record) → List Record
in_order [] = []
in_order (row ∷ others) = row ++ in_order others

abbrev pub OpensLate : Type 0
OpensLate = (records : List Record) → Good records → (in_order (packed records) ≡ records) × Tight (packed records)
