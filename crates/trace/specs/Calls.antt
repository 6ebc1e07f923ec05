-- The two calls from C: "An empty block of this number." and "A record behind those of a block."
use Rattle.std.specs.Prelude.{ℕ, ◌+◌, Bool, true, false, cond, List, [], ◌++◌, length, take, ◌==◌, nat_le}
use Rattle.octets.specs.Unless.{unless}
use Rattle.trace.specs.Records.{Record, bad_record, good_record, record_octets}
use Rattle.trace.specs.Blocks.{short_block, record_part, used_in, sealed, body, block_of, block_records, fault_of}
use Rattle.trace.specs.declared.Traced.{Traced}

-- "a refused call .. returns 0 in every field but the code"
abbrev pub refused_by : ℕ → Traced
refused_by n = record { code = n; added = false }

abbrev pub done : Bool → Traced
done added = record { code = 0; added = added }

-- "Any length but 512 is 32, in both. smr_trace_begin answers with added true."
unfoldable pub begin_answer : List ℕ → Traced
begin_answer block = unless (length block == 512) (refused_by short_block) (done true)

unfoldable pub begin_leaves : List ℕ → ℕ → List ℕ
begin_leaves block number = unless (length block == 512) block (block_of number [])

-- whether a record fits behind those of a block
abbrev pub room_in : List ℕ → Record → Bool
room_in block r = nat_le (used_in block + length (record_octets r)) 504

-- "smr_trace_add finds the block's own fault first (32 to 35; its number is free), then a bad record (35), then whether it fits"
unfoldable pub add_answer : List ℕ → Record → Traced
add_answer block r =
    unless (fault_of (block_records block) == 0) (refused_by (fault_of (block_records block)))
    (unless (good_record r) (refused_by bad_record)
    (done (room_in block r)))

-- the first four octets stay; the use count, the rest and the sum go with the records
unfoldable pub with_record : List ℕ → Record → List ℕ
with_record block r = sealed (take 4 block ++ body (record_part block ++ record_octets r))

-- "refused, or where it doesn't fit, it leaves the block as lent"
unfoldable pub add_leaves : List ℕ → Record → List ℕ
add_leaves block r = cond (add_answer block r).added (with_record block r) block
