use Rattle.sides.proofs.Steps.{empty-told}
use Rattle.sides.proofs.is_none.Goals as goal

pub returns : goal.returns
returns c = rw c.operation_in.ensures (empty-told c.args.side)
