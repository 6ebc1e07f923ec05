-- What the code's answers say of the records.
use Rattle.std.specs.Prelude.{ℕ, ◌≤◌, ◌<◌, ◌≡◌, List, Option, None, Some, length}
use Rattle.octets.specs.Reader.{Answer, fault, sound}
use Rattle.octets.specs.Seen.{part_read}
use Rattle.octets.specs.declared.Span.{Span}
use Rattle.records.specs.Records.{bad_record, one_record}

-- a message has an octet at least, and stands behind the length octet
abbrev pub RecordWithin : List ℕ → Option Span → Type 0
RecordWithin s None = Unit {0}
RecordWithin s (Some p) = (p.start ≡ 1) × ((p.start < p.end) × (p.end ≤ length s))

abbrev pub ReadsRecord : List ℕ → Option Span → Type 0
ReadsRecord s r = (part_read bad_record s r ≡ one_record s) × RecordWithin s r

abbrev pub count_seen : Option ℕ → Answer ℕ
count_seen None = fault bad_record
count_seen (Some n) = sound n
