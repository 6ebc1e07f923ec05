use Rattle.trace.proofs.CallPaths.{add-short}
use Rattle.std.proofs.Common.{◌∙◌}
use Rattle.trace.proofs.smr_trace_add.Goals as goal

pub returns-in-Some : goal.returns-in-Some
returns-in-Some c =
    let s = c.in-Some.ensures.cases.same in
    let w = c.add_record.ensures in
    record { answer = rw (← s) (c.answer.ensures ∙ w.answer); block = rw (← s) w.block }

pub returns-in-None : goal.returns-in-None
returns-in-None c =
    let w = add-short c.args.block.now (record { direction = c.args.direction; message = c.args.message.now }) c.in-None.ensures.cases in
    record { answer = c.answer-in-None.ensures ∙ w.0; block = w.1 }
