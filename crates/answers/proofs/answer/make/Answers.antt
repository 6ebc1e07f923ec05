use Rattle.std.proofs.Common.{◌*◌, ◌≤◌, length, arith}
use Rattle.telephone.proofs.BatchLaws.{slots-within}
use Rattle.answers.proofs.answer.make.Goals as goal

pub print_batched-requires : goal.print_batched-requires
print_batched-requires c =
    let a = c.args in
    let w : 14 * c.smr_batch-batched.result.slots ≤ length a.buffer.now = rw c.smr_batch-batched.ensures.returned (slots-within a.table.now a.octets.now a.buffer.now) in
    (omega arith, (omega (arith, c.smr_batch-batched.auto.output), (omega (arith, c.smr_batch-batched.auto.output, w), omega arith)))
