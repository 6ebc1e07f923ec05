use native.Mathlib.Omega.{arith}
use Rattle.octets.proofs.PartLaws.{rest_part_lem}
use Rattle.components.specs.Facility.{inside, component}
use Rattle.components.proofs.Paths.{shown_end}
use Rattle.components.proofs.facility.read_inside.Goals as goal

pub returns : goal.returns
unfolding inside component
returns c = grind (arith, rest_part_lem, shown_end)
