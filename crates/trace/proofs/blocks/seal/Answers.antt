use Rattle.trace.proofs.BlockLaws.{seal-put}
use Rattle.trace.specs.Blocks.{sealed}
use Rattle.trace.specs.Numbers.{two}
use Rattle.std.proofs.Common.{◌++◌, take, ap, ◌∙◌, rules}
use Rattle.trace.proofs.blocks.seal.Goals as goal

pub returns : goal.returns
unfolding sealed
returns c =
    c.put_pair.ensures ∙ seal-put c.args.block.now c.sum_of-sum.result (search rules) ∙ ap (λ n. take 510 c.args.block.now ++ two n) c.sum_of-sum.ensures
