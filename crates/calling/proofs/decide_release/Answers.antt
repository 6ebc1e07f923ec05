use Rattle.std.proofs.Common.{◌≡◌, true, refl, rules, arith}
use Rattle.std.proofs.lemmas.Grind.{common_steps}
use Rattle.table.specs.Table.{valid}
use Rattle.calling.specs.Calls.{send_release, fitting}
use Rattle.calling.proofs.Changes.{released_within}
use Rattle.calling.proofs.decide_release.Goals as goal

pub returns : goal.returns
unfolding send_release fitting
returns c =
    let a = c.args in
    let d : valid a.table.now ≡ true = search rules in
    let w = rw c.in_ok-entry.ensures.ok_part at c.find_open.ensures.1 in
    (grind (arith, common_steps), ((released_within a.table.now _ d w.1.1, (w.0, (w.1.0, (omega arith, omega arith)))), refl))
