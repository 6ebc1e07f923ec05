-- 02 [7]: "blocks of 512 octets: block number (four octets, from 0), octets used (two, 0 to 504), 504 octets for records, then
-- the sum of the first 510 octets modulo 65,536 (two), all high first"; "the rest is zero".
use Rattle.std.specs.Prelude.{ℕ, ◌+◌, ◌-◌, ◌*◌, Bool, true, ◌&&◌, List, [], ◌∷◌, ◌++◌, length, take, replicate, ◌==◌, nat_le}
use Rattle.octets.specs.Part.{between}
use Rattle.octets.specs.Reader.{Answer, fault, sound, and_then, check}
use Rattle.trace.specs.Numbers.{two, four, pair_at, sum_of}
use Rattle.trace.specs.Records.{Record, bad_record, records_of, records_in}

-- what a block says

unfoldable pub number_in : List ℕ → ℕ
number_in b = pair_at b 0 * 65536 + pair_at b 2

unfoldable pub used_in : List ℕ → ℕ
used_in b = pair_at b 4

unfoldable pub sum_in : List ℕ → ℕ
sum_in b = pair_at b 510

-- the octets that are used, and the rest
unfoldable pub record_part : List ℕ → List ℕ
record_part b = between 6 (6 + used_in b) b

unfoldable pub rest_part : List ℕ → List ℕ
rest_part b = between (6 + used_in b) 510 b

abbrev pub all_zero : List ℕ → Bool
all_zero [] = true
all_zero (a ∷ s) = a == 0 && all_zero s

-- what is written

abbrev pub zeros : ℕ → List ℕ
zeros n = replicate n 0

-- the first 510 octets and their sum
unfoldable pub sealed : List ℕ → List ℕ
sealed s = s ++ two (sum_of s)

-- octets used, records, rest
unfoldable pub body : List ℕ → List ℕ
body s = two (length s) ++ s ++ zeros (504 - length s)

unfoldable pub block_of : ℕ → List Record → List ℕ
block_of number records = sealed (four number ++ body (records_of records))

-- "Refusals, in this order for each block: 32 short block, 33 sum, 34 use count, 35 record or rest, 36 number not the block's place"

abbrev pub short_block : ℕ
short_block = 32

abbrev pub wrong_sum : ℕ
wrong_sum = 33

abbrev pub wrong_use : ℕ
wrong_use = 34

abbrev pub wrong_number : ℕ
wrong_number = 36

-- the records of a block without a fault from 32 to 35; its number is free
unfoldable pub block_records : List ℕ → Answer (List Record)
block_records b =
    check (length b == 512) short_block
    (check (sum_of (take 510 b) == sum_in b) wrong_sum
    (check (nat_le (used_in b) 504) wrong_use
    (check (all_zero (rest_part b)) bad_record
    (records_in (record_part b)))))

-- those of a block at its place; four octets never say a place of 4,294,967,296 or over
unfoldable pub records_at : ℕ → List ℕ → Answer (List Record)
records_at place b = and_then (block_records b) (λ records. check (number_in b == place) wrong_number (sound records))

-- the records, where there are any
abbrev pub records_or : Answer (List Record) → List Record
records_or (fault n) = []
records_or (sound records) = records

-- the number of the first fault; 0 stands for none
abbrev pub fault_of : {A : Type 0} → Answer A → ℕ
fault_of (fault n) = n
fault_of (sound a) = 0
