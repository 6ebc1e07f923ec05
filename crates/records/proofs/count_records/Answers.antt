use native.Mathlib.Omega.{arith}
use mathlib.Core.Path.{sym, ◌∙◌}
use mathlib.Core.List.{[]}
use lib.ListN.{length-drop}
use Rattle.octets.proofs.PartLaws.{rest_part_lem, left_over, none_left}
use Rattle.records.specs.Records.{bad_record}
use Rattle.records.proofs.RecordLaws.{messages-bad, counting-first, counting-step, counting-last}
use Rattle.records.proofs.count_records.Goals as goal

pub loop-rest-init : goal.loop-rest-init
loop-rest-init c = (omega arith, counting-first _)

pub returns-in_err-record : goal.returns-in_err-record
returns-in_err-record c =
    let e = rw c.in_err-record.was at c.read_record.ensures.0 in
    rw c.from_residual.ensures (rw (messages-bad c.loop-rest.rest.now bad_record (left_over _ c.loop-rest-test.ensures) (sym e)) at c.loop-rest.invariant.1)

pub loop-rest-preserved : goal.loop-rest-preserved
loop-rest-preserved c =
    let r = c.loop-rest.rest.now in
    let e = rw c.in_ok-record.was at c.read_record.ensures.0 in
    let w = rw c.in_ok-record.was at c.read_record.ensures.1 in
    rw (rest_part_lem c.in_ok-record.record.end r, length-drop c.in_ok-record.record.end r)
    (omega (arith, w.1.0, w.1.1), sym (counting-step c.loop-rest.n r _ (sym e)) ∙ c.loop-rest.invariant.1)

pub returns : goal.returns
returns c = sym (counting-last c.loop-rest.n [] (omega arith)) ∙ (rw (none_left _ c.loop-rest-test.ensures) at c.loop-rest.invariant.1)
