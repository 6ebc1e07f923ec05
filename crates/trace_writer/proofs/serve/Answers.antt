use Rattle.octets.proofs.PartLaws.{rest_part_lem, left_over}
use Rattle.words.proofs.Onward.{onward}
use lib.ListN.{length-drop}
use native.Mathlib.Omega.{arith}
use Rattle.trace_writer.proofs.serve.Goals as goal

pub loop-rest-smaller-else-not-is_going : goal.loop-rest-smaller-else-not-is_going
loop-rest-smaller-else-not-is_going g c =
    let rest = c.loop-rest.rest.now in
    let further = onward rest 0 c.loop-rest.state.have c.gather-more.result c.gather-more.ensures.gathered (left_over _ c.loop-rest-test.ensures) in
    rw (rest_part_lem c.gather-more.result.next rest) (simp length-drop (omega (arith, further)))

pub loop-rest-smaller : goal.loop-rest-smaller
loop-rest-smaller g c =
    let rest = c.loop-rest.rest.now in
    let further = onward rest 0 c.loop-rest.state.have c.gather-more.result c.gather-more.ensures.gathered (left_over _ c.loop-rest-test.ensures) in
    rw (rest_part_lem c.gather-more.result.next rest) (simp length-drop (omega (arith, further)))
