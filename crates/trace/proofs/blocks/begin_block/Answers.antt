use Rattle.trace.proofs.BlockLaws.{empty_block}
use Rattle.trace.specs.Salvage.{renumbered}
use Rattle.std.proofs.Common.{length, ap, ◌∙◌, rules}
use Rattle.trace.proofs.blocks.begin_block.Goals as goal

pub returns : goal.returns
returns c =
    c.put_number.ensures ∙ ap (renumbered c.args.number) c.clear.ensures ∙ empty_block c.args.number (length c.args.block.now) (search rules)
