-- Cases of the readings, by their octets and numbers.
use Rattle.std.specs.Prelude.{ℕ, ◌+◌, ◌≡◌, List, [], ◌∷◌, ◌++◌, length, take, replicate}
use Rattle.std.proofs.Math.Option.{none, some}
use Rattle.trace.specs.Numbers.{two}
use Rattle.trace.specs.Records.{Record, records_of}
use Rattle.trace.specs.Blocks.{zeros, sum_in, block_of}
use Rattle.trace.specs.Files.{Reading, read_file}
use Rattle.trace.specs.Writing.{packed}
use Rattle.trace.specs.Salvage.{dropped, renumbered36, short, salvaged}

-- "W1 as the one received record of a file is one block: 00 00 00 00, 00 16, 00 14, the twenty octets of W1, 482 zeros, 02 22."
abbrev pub w1 : List ℕ
w1 =
    0x0B ∷ 0x3B ∷ 0x1C ∷ 0x10 ∷ 0xA1 ∷ 0x0E ∷ 0x02 ∷ 0x01 ∷ 0x05 ∷ 0x02 ∷ 0x01 ∷ 0x3C ∷ 0x30 ∷ 0x06 ∷ 0x04 ∷ 0x01 ∷ 0x0F ∷ 0x04
    ∷ 0x01 ∷ 0x41 ∷ []

abbrev pub of : ℕ → List ℕ → Record
of direction message = record { direction = direction; message = message }

abbrev pub W1Block : Type 0
W1Block = block_of 0 (of 0 w1 ∷ []) ≡ (0x00 ∷ 0x00 ∷ 0x00 ∷ 0x00 ∷ 0x00 ∷ 0x16 ∷ 0x00 ∷ 0x14 ∷ []) ++ w1 ++ zeros 482 ++ (0x02 ∷ 0x22 ∷ [])

-- C30: "the block of two sent records of 255 and 245 octets FF has the sum F4 FB"
abbrev pub C30 : Type 0
C30 = sum_in (block_of 0 (of 1 (replicate 255 0xFF) ∷ of 1 (replicate 245 0xFF) ∷ [])) ≡ 0xF4FB

-- C28: used= of each block, for records of so many octets 41
abbrev pub used_of : List (List Record) → List ℕ
used_of [] = []
used_of (row ∷ others) = length (records_of row) ∷ used_of others

abbrev pub long : ℕ → Record
long n = of 0 (replicate n 0x41)

abbrev pub C28 : Type 0
C28 =
    (used_of (packed (long 255 ∷ long 245 ∷ [])) ≡ 504 ∷ [])
    × ((used_of (packed (long 255 ∷ long 246 ∷ [])) ≡ 257 ∷ 248 ∷ [])
    × (used_of (packed (long 255 ∷ long 255 ∷ long 1 ∷ [])) ≡ 257 ∷ 260 ∷ []))

-- NUMBER: and NUMBER::sum, an empty block and one whose sum is one too high
abbrev pub empty : ℕ → List ℕ
empty n = block_of n []

abbrev pub bad_sum : ℕ → List ℕ
bad_sum n = take 510 (empty n) ++ two (sum_in (empty n) + 1)

-- C29: "read 7::used=505:sum", and blocks from the first on
abbrev pub refusal : ℕ → ℕ → Reading
refusal place number = record { records = []; refused = some (record { place = place; number = number }) }

abbrev pub C29 : Type 0
C29 =
    (read_file (empty 0 ++ bad_sum 1 ++ zeros 5) ≡ refusal 1 33)
    × ((read_file (bad_sum 7) ≡ refusal 0 33)
    × ((read_file (empty 7) ≡ refusal 0 36)
    × ((read_file (zeros 511) ≡ refusal 0 32)
    × (read_file (zeros 512) ≡ record { records = []; refused = none }))))

-- C33 to C36
abbrev pub C33 : Type 0
C33 =
    (salvaged (empty 0 ++ bad_sum 1 ++ empty 2) ≡ record { blocks = empty 0 ∷ empty 1 ∷ []; list = dropped 1 33 ∷ renumbered36 2 ∷ [] })
    × ((salvaged (empty 0 ++ bad_sum 9 ++ empty 1) ≡ record { blocks = empty 0 ∷ empty 1 ∷ []; list = dropped 9 33 ∷ [] })
    × ((salvaged (empty 1 ++ empty 0) ≡ record { blocks = empty 0 ∷ empty 1 ∷ []; list = renumbered36 1 ∷ renumbered36 0 ∷ [] })
    × ((salvaged (bad_sum 0 ++ zeros 100) ≡ record { blocks = []; list = dropped 0 33 ∷ short 1 ∷ [] })
    × (salvaged [] ≡ record { blocks = []; list = [] }))))

abbrev pub Cases : Type 0
Cases = W1Block × (C28 × (C29 × (C30 × C33)))
