use Rattle.std.proofs.Common.{◌≡◌, ap, sym, ◌∙◌}
use Rattle.codes.proofs.IdLaws.{held-is}
use Rattle.sides.specs.Side.{operation_of}
use Rattle.sides.specs.Seen.{side_seen, number_or0}
use Rattle.sides.proofs.Steps.{there_of, none_of, operation-at, operation-none, used-told}
use Rattle.sides.proofs.operation_of.Goals as goal

pub returns-in_err-found-clause-value : goal.returns-in_err-found-clause-value
returns-in_err-found-clause-value c =
    let a = c.args in
    let n = none_of a.id a.side (rw (held-is c.ranges.id) at c.in_err-found.ensures) in
    ap number_or0 c.from_residual.ensures ∙ sym (operation-none a.id (side_seen a.side) n)

pub returns-clause-value : goal.returns-clause-value
returns-clause-value c =
    let a = c.args in
    let f = there_of a.id a.side c.in_ok-found.found (rw (held-is c.ranges.id) at c.in_ok-found.ensures) in
    c.operation_in.ensures ∙ rw f.1 (operation-at a.id a.side c.ranges.side.fits)

pub returns-clause-asked : goal.returns-clause-asked
returns-clause-asked c =
    let a = c.args in
    let f = there_of a.id a.side c.in_ok-found.found (rw (held-is c.ranges.id) at c.in_ok-found.ensures) in
    let v : c.operation_in.result ≡ operation_of a.id (side_seen a.side) = c.operation_in.ensures ∙ rw f.1 (operation-at a.id a.side c.ranges.side.fits) in
    rw (f.0, v)

pub returns-clause-result_value : goal.returns-clause-result_value
returns-clause-result_value c =
    let a = c.args in
    let f = there_of a.id a.side c.in_ok-found.found (rw (held-is c.ranges.id) at c.in_ok-found.ensures) in
    let v : c.operation_in.result ≡ operation_of a.id (side_seen a.side) = c.operation_in.ensures ∙ rw f.1 (operation-at a.id a.side c.ranges.side.fits) in
    rw v (used-told a.id a.side)
