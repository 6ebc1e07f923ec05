use Rattle.std.proofs.Common.{◌∙◌, eqb, rules, tests}
use Rattle.std.proofs.lemmas.Iterator.{YieldsList-from_slice}
use Rattle.std.proofs.lemmas.Iterator.Search.{all_from_yields_List}
use Rattle.trace.proofs.NumberLaws.{each_zero}
use Rattle.trace.proofs.blocks.is_zero.Goals as goal

pub returns : goal.returns
returns c =
    all_from_yields_List (λ octet. eqb octet 0) _ _ c.all.result c.all.ensures.ran (YieldsList-from_slice c.args.s.now cc) (λ x b q k. search (rules, tests))
    ∙ each_zero c.args.s.now
