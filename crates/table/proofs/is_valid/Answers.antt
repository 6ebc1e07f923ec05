use Rattle.std.proofs.Common.{◌≡◌, true, false, rules, tests}
use Rattle.std.proofs.lemmas.Iterator.{cases_from_all, YieldsList-from_slice}
use Rattle.table.specs.Table.{sound_image, image_in}
use Rattle.table.proofs.Steps.{other_length, all_seen}
use Rattle.table.proofs.is_valid.Goals as goal

pub returns-then-table-eq238 : goal.returns-then-table-eq238
returns-then-table-eq238 c =
    all_seen c.args.table.now c.if-table-eq238.true _ c.as_chunks.ensures.front c.all.result (
    cases_from_all _ _ _ (λ e. sound_image (image_in e 0) ≡ true) (λ e. sound_image (image_in e 0) ≡ false) c.all.ensures.ran (YieldsList-from_slice c.as_chunks.result.0.now cc)
    (λ k q h. (search rules, search (rules, tests)))
    (λ k q h. search (rules, tests))
    )

pub returns-else-table-eq238 : goal.returns-else-table-eq238
returns-else-table-eq238 c = other_length c.args.table.now c.if-table-eq238.false
