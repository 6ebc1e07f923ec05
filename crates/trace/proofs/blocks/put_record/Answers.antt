use Rattle.trace.proofs.BlockLaws.{record-put}
use Rattle.trace.specs.Blocks.{sealed}
use Rattle.trace.specs.Numbers.{two}
use Rattle.octets.specs.Splice.{splice}
use Rattle.std.proofs.Common.{◌+◌, length, take, ap, ◌∙◌, rules}
use Rattle.trace.proofs.blocks.put_record.Goals as goal

pub returns : goal.returns
returns c =
    let a = c.args in
    c.seal.ensures
    ∙ ap (λ t. sealed (take 510 t)) (c.put_pair.ensures ∙ ap (λ t. splice t 4 (two (a.used + 2 + length a.message.now))) (c.put-2.ensures ∙ ap (λ t. splice t (8 + a.used) a.message.now) c.put.ensures))
    ∙ record-put a.block.now a.direction a.message.now a.used (search rules) c.requires.0 c.requires.1.0 c.requires.1.1.0
