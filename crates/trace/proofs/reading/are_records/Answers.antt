use Rattle.octets.proofs.PartLaws.{rest_part_lem, left_over, none_left}
use Rattle.std.proofs.Common.{[], sym, ap, ◌∙◌, arith}
use Rattle.trace.specs.Records.{records_in}
use Rattle.trace.specs.Seen.{is_sound}
use Rattle.trace.proofs.RecordLaws.{sound-step, sound-bad, sound-last}
use Rattle.trace.proofs.reading.are_records.Goals as goal

pub returns-in_default : goal.returns-in_default
returns-in_default c =
    let e = rw c.in_default.is at c.read_traced.ensures.0 in
    sound-bad c.loop-rest.rest.now _ (left_over _ c.loop-rest-test.ensures) (sym e) ∙ c.loop-rest.invariant

pub loop-rest-preserved : goal.loop-rest-preserved
loop-rest-preserved c =
    let e = rw c.in-Some.is at c.read_traced.ensures.0 in
    ap (λ r. is_sound (records_in r)) (rest_part_lem c.in-Some.found.end c.loop-rest.rest.now) ∙ sound-step c.loop-rest.rest.now _ (sym e) ∙ c.loop-rest.invariant

pub returns : goal.returns
returns c = sound-last [] (omega arith) ∙ ap (λ r. is_sound (records_in r)) (sym (none_left _ c.loop-rest-test.ensures)) ∙ c.loop-rest.invariant
