use Rattle.std.proofs.Common.{◌+◌, ◌-◌, drop}
use Rattle.octets.proofs.OctetsLaws.{octets-of, octets-take, octets-drop}
use Rattle.table.proofs.read_side.Goals as goal

pub returns-clause-octets : goal.returns-clause-octets
returns-clause-octets c =
    let t = c.args.image.now in
    octets-take (c.args.at + 8 - c.args.at) (drop c.args.at t) (octets-drop c.args.at t (octets-of t c.fits-image))
