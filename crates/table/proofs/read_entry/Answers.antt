use Rattle.std.proofs.Common.{arith}
use Rattle.table.proofs.Steps.{past_end, within}
use Rattle.table.proofs.read_entry.Goals as goal

pub returns-then-table-start_of : goal.returns-then-table-start_of
returns-then-table-start_of c = past_end c.args.table.now c.args.k (omega arith)

pub returns-else-table-start_of : goal.returns-else-table-start_of
returns-else-table-start_of c = within c.args.table.now c.args.k _ c.read_slot.result (omega arith) c.image_of.ensures c.read_slot.ensures.value c.read_slot.ensures.octets
