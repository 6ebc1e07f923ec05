use Rattle.trace.specs.Blocks.{number_in}
use Rattle.std.proofs.Common.{arith}
use Rattle.trace.proofs.blocks.number_in.Goals as goal

pub returns : goal.returns
unfolding number_in
returns c = omega (arith, c.from_be_bytes.ensures)
