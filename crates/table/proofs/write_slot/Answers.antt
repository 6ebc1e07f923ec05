use Rattle.std.proofs.Common.{arith}
use Rattle.table.proofs.Steps.{set-splice, slot-written}
use Rattle.table.proofs.write_slot.Goals as goal

pub returns : goal.returns
returns c =
    let a = c.args in
    slot-written a.table.now _ _ _ a.k c.start_of-at.result c.state_of.result a.e c.start_of-at.ensures c.state_of.ensures c.requires (set-splice a.table.now c.start_of-at.result c.state_of.result (omega arith)) c.write_side.ensures c.write_side-2.ensures
