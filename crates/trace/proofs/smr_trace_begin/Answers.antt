use Rattle.trace.proofs.CallPaths.{begin-refused, begin-done}
use Rattle.std.proofs.Common.{◌∙◌}
use Rattle.trace.proofs.smr_trace_begin.Goals as goal

pub returns-in_default : goal.returns-in_default
returns-in_default c =
    let w = begin-refused c.args.block.now c.args.number c.in_default.ensures.cases in
    record { answer = c.answer.ensures ∙ w.0; block = w.1 }

pub returns : goal.returns
returns c =
    let w = begin-done c.args.block.now c.args.number c.in-Some.ensures.cases.long in
    record { answer = c.answer-2.ensures ∙ w.0; block = c.begin_block.ensures ∙ w.1 }
