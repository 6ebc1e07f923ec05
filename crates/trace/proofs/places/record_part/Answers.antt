use Rattle.trace.specs.Blocks.{record_part, used_in}
use Rattle.octets.specs.Part.{between}
use Rattle.std.proofs.Common.{◌+◌, ap, ◌∙◌}
use Rattle.trace.proofs.places.record_part.Goals as goal

pub returns : goal.returns
unfolding record_part used_in
returns c = c.part.ensures.octets ∙ ap (λ n. between 6 (6 + n) c.args.block.now) c.pair_at.ensures
