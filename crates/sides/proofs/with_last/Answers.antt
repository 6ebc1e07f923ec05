use Rattle.std.proofs.Common.{◌∙◌}
use Rattle.codes.proofs.IdLaws.{handed, id-octet}
use Rattle.sides.proofs.Steps.{last_none, last_goes, last-is}
use Rattle.sides.proofs.with_last.Goals as goal

pub returns-then-n-eq4 : goal.returns-then-n-eq4
returns-then-n-eq4 c =
    let a = c.args in
    let n = c.used-n in
    last_none a.side n.result n.ensures.value n.ensures.upper_bound a.id a.operation c.then-n-eq4.either

pub joined-requires : goal.joined-requires
joined-requires c =
    let a = c.args in
    let n = c.used-n in
    rw (handed c.ranges.id c.octet_of.ensures) (last_goes a.side n.result n.ensures.value n.ensures.upper_bound a.id a.operation c.ranges.operation.fits (id-octet c.ranges.id) c.if-n-eq4.false)

pub returns : goal.returns
returns c =
    let a = c.args in
    let n = c.used-n in
    rw (handed c.ranges.id c.octet_of.ensures) at c.joined.ensures ∙ last-is a.side n.result n.ensures.value n.ensures.upper_bound a.id a.operation c.if-n-eq4.false c.if-operation-eq0.false
