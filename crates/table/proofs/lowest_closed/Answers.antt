use Rattle.std.proofs.Common.{◌≡◌, true, false, rules, tests}
use Rattle.std.proofs.lemmas.Iterator.{first_from_Range}
use Rattle.table.specs.Table.{entry_at}
use Rattle.table.proofs.Steps.{lowest-is}
use Rattle.table.proofs.lowest_closed.Goals as goal

pub returns : goal.returns
returns c =
    let t = c.args.table.now in
    lowest-is t c.find.result (
    first_from_Range _ _ _ _ (λ v. (entry_at t v).is_open ≡ false) (λ v. (entry_at t v).is_open ≡ true) c.find.ensures.ran
    (λ v q k. search (rules, tests))
    (λ v q k. (search rules, search (rules, tests)))
    )
