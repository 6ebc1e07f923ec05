use Rattle.trace.proofs.CallPaths.{at-short, at-fault, at_other, at_place}
use Rattle.trace.proofs.FaultLaws.{not_0}
use Rattle.std.proofs.Common.{sym, ◌∙◌}
use Rattle.std.proofs.lemmas.Result.{err_from_is_err_and}
use Rattle.trace.proofs.places.fault_at.Goals as goal

pub returns-in_default : goal.returns-in_default
returns-in_default c = at-short c.args.place c.args.block.now c.in_default.ensures.cases

pub returns-in_err-block_fault : goal.returns-in_err-block_fault
returns-in_err-block_fault c =
    let p = err_from_is_err_and c.from_residual.result c.from_residual.ensures.1 in
    let e = c.in_err-block_fault.ensures in
    rw (p.1, p.2, ← c.in-Some.ensures.cases.same) (e ∙ at-fault c.args.place _ (λ z. not_0 _ (e ∙ z)))

pub returns-then-number_in-place : goal.returns-then-number_in-place
returns-then-number_in-place c =
    rw (← c.in-Some.ensures.cases.same)
    (at_other c.args.place _ (sym c.in_ok-block_fault.ensures) (λ z. c.if-number_in-place.true (c.number_in.ensures ∙ z)))

pub returns : goal.returns
returns c =
    rw (← c.in-Some.ensures.cases.same)
    (at_place c.args.place _ (sym c.in_ok-block_fault.ensures) (sym c.number_in.ensures ∙ c.if-number_in-place.false))
