use Rattle.std.proofs.Common.{sym, ap, ◌∙◌, arith, length}
use Rattle.sides.proofs.Numbers.{side-none, side-most}
use Rattle.sides.proofs.Steps.{one_more}
use Rattle.sides.proofs.used.Goals as goal

pub overflow_add-n : goal.overflow_add-n
overflow_add-n c =
    let k = one_more c.loop-rest.rest c.loop-rest.invariant.fits (rw c.operation_in.ensures at c.loop-rest-test.true) in
    record { fits = omega (arith, k, side-most 4 c.args.side) }

pub loop-rest-preserved : goal.loop-rest-preserved
loop-rest-preserved c =
    let k = one_more c.loop-rest.rest c.loop-rest.invariant.fits (rw c.operation_in.ensures at c.loop-rest-test.true) in
    record { fits = omega arith; count = omega (arith, k) }

pub returns : goal.returns
returns c =
    let z = ap length (side-none c.loop-rest.rest (sym c.operation_in.ensures ∙ c.loop-rest-test.false)) in
    record { value = omega (arith, z); upper_bound = omega (arith, z, side-most 4 c.args.side) }
