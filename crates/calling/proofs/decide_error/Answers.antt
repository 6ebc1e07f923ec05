use Rattle.std.proofs.Common.{◌≡◌, true, refl, rules, arith}
use Rattle.std.proofs.lemmas.Grind.{common_steps}
use Rattle.codes.proofs.IdLaws.{held-is}
use Rattle.table.specs.Table.{valid}
use Rattle.calling.specs.Calls.{send_error, fitting}
use Rattle.calling.proofs.Lengths.{call_steps}
use Rattle.calling.proofs.Changes.{answered_within}
use Rattle.calling.proofs.decide_error.Goals as goal

pub returns : goal.returns
unfolding send_error fitting
returns c =
    let a = c.args in
    let d : valid a.table.now ≡ true = search rules in
    let w = rw c.in_ok-entry.ensures.ok_part at c.find_open.ensures.1 in
    (grind (arith, common_steps, call_steps), (rw (held-is c.ranges.id) (answered_within a.table.now _ d w.1.1 a.id, (w.0, (w.1.0, (grind (arith, common_steps, call_steps), grind (arith, common_steps, call_steps))))), refl))
