-- 02 [7]: "A record is a direction (0 received, 1 sent), a length 1 to 255 and the message".
use Rattle.std.specs.Prelude.{◌≡◌, ℕ, zero, suc, Bool, true, cond, ◌&&◌, List, [], ◌∷◌, ◌++◌, length, nat_le}
use Rattle.octets.specs.Reader.{Answer, fault, sound, Taken, Reader, took, and_then, seq, need, octet, is_empty}
use Rattle.records.specs.Records.{one_record}

pub record Record : Type 0 where
  pub direction : ℕ
  pub message : List ℕ

-- "35 record or rest"
abbrev pub bad_record : ℕ
bad_record = 35

-- "02 means a direction neither 0 nor 1, no octets, over 255 octets."
abbrev pub good_record : Record → Bool
good_record r = nat_le r.direction 1 && nat_le 1 (length r.message) && nat_le (length r.message) 255

-- each of them may be written
abbrev pub Good : List Record → Type 0
Good [] = Unit {0}
Good (r ∷ others) = (good_record r ≡ true) × Good others

abbrev pub record_octets : Record → List ℕ
record_octets r = r.direction ∷ length r.message ∷ r.message

-- "none crosses a block": they stand back to back
abbrev pub records_of : List Record → List ℕ
records_of [] = []
records_of (r ∷ others) = record_octets r ++ records_of others

-- a direction, then a length and a message as the records of [6] have them
abbrev pub directed : ℕ → Answer (Taken (List ℕ)) → Answer (Taken Record)
directed d (fault n) = fault bad_record
directed d (sound g) = took (record { direction = d; message = g.value }) g.rest

unfoldable pub trace_record : Reader Record
trace_record = seq (octet bad_record) (λ d. need (nat_le d 1) bad_record (λ s. directed d (one_record s)))

-- "The records end exactly where the use count says."; at most `most` of them
unfoldable pub records_by : ℕ → List ℕ → Answer (List Record)
records_by zero s = cond (is_empty s) (sound []) (fault bad_record)
records_by (suc most) s =
    cond (is_empty s) (sound [])
    (and_then (trace_record s) (λ first.
    and_then (records_by most first.rest) (λ others.
    sound (first.value ∷ others))))

-- a record has at least an octet, so there are no more of them than octets
unfoldable pub records_in : List ℕ → Answer (List Record)
records_in s = records_by (length s) s
