use Rattle.sides.proofs.Steps.{full-told}
use Rattle.sides.proofs.is_full.Goals as goal

pub returns : goal.returns
returns c = full-told c.args.side c.used.result c.used.ensures.value c.used.ensures.upper_bound
