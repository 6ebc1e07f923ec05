-- 02 [6]: "a slice of records, each a length octet from 1 to 255 and that many octets".
use Rattle.std.specs.Prelude.{ℕ, zero, suc, List, [], ◌∷◌, ◌++◌, cond, not, length, eqb}
use Rattle.octets.specs.Reader.{Answer, fault, sound, Reader, and_then, seq, need, octet, front, is_empty}

-- "30 a zero or cut record"
abbrev pub bad_record : ℕ
bad_record = 30

-- "Zero: the length octet is 0. Cut: fewer octets are left than it says, none included."
unfoldable pub one_record : Reader (List ℕ)
one_record = seq (octet bad_record) (λ n. need (not (eqb n 0)) bad_record (front bad_record n))

-- the messages of records that stand back to back, at most `most`; "An empty slice is no record and no fault"
unfoldable pub messages_by : ℕ → List ℕ → Answer (List (List ℕ))
messages_by zero s = cond (is_empty s) (sound []) (fault bad_record)
messages_by (suc most) s =
    cond (is_empty s) (sound [])
    (and_then (one_record s) (λ first.
    and_then (messages_by most first.rest) (λ others.
    sound (first.value ∷ others))))

-- a record has at least an octet, so there are no more of them than octets
unfoldable pub messages_in : List ℕ → Answer (List (List ℕ))
messages_in s = messages_by (length s) s

-- how many there are
unfoldable pub counted : List ℕ → Answer ℕ
counted s = and_then (messages_in s) (λ messages. sound (length messages))

-- messages written as records
abbrev pub records_of : List (List ℕ) → List ℕ
records_of [] = []
records_of (m ∷ others) = length m ∷ (m ++ records_of others)
