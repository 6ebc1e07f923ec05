use Rattle.trace.proofs.CallPaths.{fate-other-length, fate-fault, fate-kept, fate-moved}
use Rattle.std.proofs.Common.{length, sym, ap, ◌∙◌}
use Rattle.trace.proofs.salvage.mend_block.Goals as goal

pub returns-in_default : goal.returns-in_default
returns-in_default c = let w = fate-other-length c.args.kept c.args.block.now c.in_default.ensures.cases in record { fate = w.0; block = w.1 }

pub returns-in-Err : goal.returns-in-Err
returns-in-Err c =
    let s = c.in-Some.ensures.cases in
    let w = fate-fault c.args.kept c.in-Some.block.now c.in-Err.fault (ap length s.same ∙ s.long) c.in-Err.ensures in
    record { fate = rw (c.number_in-number.ensures, c.number.ensures, ← s.same) w.0; block = rw (← s.same) w.1 }

pub returns-then-number-kept : goal.returns-then-number-kept
returns-then-number-kept c =
    let s = c.in-Some.ensures.cases in
    let w = fate-kept c.args.kept c.in-Some.block.now (sym c.in_default-block_fault.ensures) (sym c.number_in-number.ensures ∙ c.if-number-kept.true) in
    record { fate = rw (← s.same) w.0; block = rw (← s.same) w.1 }

pub returns : goal.returns
returns c =
    let s = c.in-Some.ensures.cases in
    let w = fate-moved c.args.kept c.in-Some.block.now (sym c.in_default-block_fault.ensures) (λ z. c.if-number-kept.false (c.number_in-number.ensures ∙ z)) in
    record { fate = rw (c.number_in-number.ensures, ← s.same) w.0; block = rw (← s.same) (c.put_number.ensures ∙ w.1) }
