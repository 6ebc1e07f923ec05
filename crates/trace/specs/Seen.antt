-- What the code's answers say of the octets that were looked at.
use Rattle.std.specs.Prelude.{◌≡◌, ℕ, ◌<◌, ◌≤◌, Bool, true, false, List, length, drop, Option, None, Some, Result, Ok, Err}
use Rattle.octets.specs.Part.{between}
use Rattle.octets.specs.Reader.{Answer, fault, sound, Taken, took}
use Rattle.trace.specs.Records.{Record, bad_record, trace_record}
use Rattle.trace.specs.Calls.{refused_by, done}
use Rattle.trace.specs.Faults.{number_of}
use Rattle.trace.specs.Salvage.{renumbered}
use Rattle.trace.specs.declared.Traced.{Traced}
use Rattle.trace.specs.declared.faults.Fault.{Fault}
use Rattle.trace.specs.declared.reading.Found.{Found}
use Rattle.trace.specs.declared.Fate.{Fate}
use Rattle.trace.specs.declared.Fate.TheVariants.{Kept, Renumbered, Dropped, Short}

-- the message stands behind direction and length
abbrev pub record_seen : List ℕ → Option Found → Answer (Taken Record)
record_seen s None = fault bad_record
record_seen s (Some r) = took (record { direction = r.direction; message = between 2 r.end s }) (drop r.end s)

abbrev pub RecordWithin : List ℕ → Option Found → Type 0
RecordWithin s None = Unit {0}
RecordWithin s (Some r) = (r.direction ≤ 1) × ((2 < r.end) × (r.end ≤ length s))

abbrev pub ReadsRecord : List ℕ → Option Found → Type 0
ReadsRecord s r = (record_seen s r ≡ trace_record s) × RecordWithin s r

abbrev pub is_sound : {A : Type 0} → Answer A → Bool
is_sound (fault n) = false
is_sound (sound a) = true

-- what C is told
abbrev pub answer_of : Result Bool Fault → Traced
answer_of (Ok added) = done added
answer_of (Err f) = refused_by (number_of f)

-- what a block that is mended in its place is then
abbrev pub mended : ℕ → List ℕ → Fate → List ℕ
mended kept b Kept = b
mended kept b (Renumbered number) = renumbered kept b
mended kept b (Dropped number n) = b
mended kept b Short = b

abbrev pub is_kept : Fate → Bool
is_kept Kept = true
is_kept (Renumbered number) = true
is_kept (Dropped number n) = false
is_kept Short = false
