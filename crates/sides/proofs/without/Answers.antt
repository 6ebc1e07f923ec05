use Rattle.codes.proofs.IdLaws.{held-is}
use Rattle.sides.proofs.Steps.{there_of, moved-goes}
use Rattle.sides.proofs.without.Goals as goal

pub joined-requires : goal.joined-requires
joined-requires c =
    let a = c.args in
    let f = there_of a.id a.side c.in-Some.found (rw (held-is c.ranges.id) at c.in-Some.ensures) in
    rw f.1 (moved-goes a.side a.id c.ranges.side.fits f.0)
