use Rattle.trace.proofs.BlockLaws.{number_put}
use Rattle.trace.specs.Blocks.{sealed}
use Rattle.octets.specs.Splice.{splice}
use Rattle.std.proofs.Common.{take, ap, ◌∙◌}
use Rattle.trace.proofs.blocks.put_number.Goals as goal

pub returns : goal.returns
returns c =
    c.seal.ensures ∙ ap (λ t. sealed (take 510 t)) (c.put.ensures ∙ ap (splice c.args.block.now 0) c.to_be_bytes.ensures) ∙ number_put c.args.block.now c.args.number
