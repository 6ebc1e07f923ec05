use Rattle.trace.specs.Seen.{is_sound}
use Rattle.trace.specs.Records.{records_in}
use Rattle.std.proofs.Common.{◌≡◌, length}
use Rattle.trace.proofs.reading.are_records.Given as goal

abbrev pub invariant-loop-rest : goal.invariant-loop-rest
invariant-loop-rest l = is_sound (records_in l.rest) ≡ is_sound (records_in l.s)

abbrev pub decreases-loop-rest : goal.decreases-loop-rest
decreases-loop-rest l = length l.rest
