use Rattle.std.proofs.Common.{arith, length-drop}
use Rattle.trace.proofs.Paths.{no-octet, no-direction, no-message, whole-record}
use Rattle.octets.proofs.PartLaws.{rest_part_lem}
use Rattle.trace.proofs.reading.read_traced.Goals as goal

pub returns-in_err-direction : goal.returns-in_err-direction
returns-in_err-direction c = rw c.from_residual.ensures (no-octet c.args.s.now c.in_err-direction.ensures.item.3, tt)

pub returns-then-direction-gt1 : goal.returns-then-direction-gt1
returns-then-direction-gt1 c =
    let first = c.in_ok-direction.ensures.item in
    (no-direction c.args.s.now _ (first.4 (omega arith) 0) first.3.0 c.if-direction-gt1.true, tt)

pub returns-in_err-message : goal.returns-in_err-message
returns-in_err-message c =
    let first = c.in_ok-direction.ensures.item in
    rw c.from_residual-in_err-message.ensures
    (no-message c.args.s.now _ (first.4 (omega arith) 0) first.3.0 c.if-direction-gt1.false _ (rw (rest_part_lem 1 c.args.s.now) at c.in_err-message.ensures.0), tt)

pub returns : goal.returns
returns c =
    let first = c.in_ok-direction.ensures.item in
    let w = simp length-drop at (rw (rest_part_lem 1 c.args.s.now) at c.in_ok-message.ensures.1) in
    let e = rw (rest_part_lem 1 c.args.s.now) at c.in_ok-message.ensures.0 in
    (whole-record c.args.s.now _ (first.4 (omega arith) 0) first.3.0 c.if-direction-gt1.false _ _ w.0 e, (c.if-direction-gt1.false, (omega arith, omega arith)))
