use Rattle.trace.proofs.NumberLaws.{sum-on, sum_over}
use Rattle.trace.specs.Numbers.{total, sum_of}
use Rattle.std.proofs.Common.{◌<◌, length, ◌∙◌, zero-add, arith}
use Rattle.trace.proofs.blocks.sum_of.Goals as goal

pub loop-octet-init : goal.loop-octet-init
unfolding sum_of
loop-octet-init c = (rw (zero-add (total c.args.s.now)), omega arith)

pub loop-octet-preserved : goal.loop-octet-preserved
loop-octet-preserved c =
    let h : c.loop-octet.octet-index < length c.args.s.now = omega arith in
    (rw c.wrapped-sum.ensures (sum-on c.args.s.now c.loop-octet.octet-index c.loop-octet.sum h) ∙ c.loop-octet.invariant.0, rw c.wrapped-sum.ensures (omega arith))

pub returns : goal.returns
returns c = sum_over c.args.s.now c.loop-octet.octet-index c.loop-octet.sum (omega arith) c.loop-octet.invariant.1 ∙ c.loop-octet.invariant.0
