use Rattle.std.proofs.Common.{◌≡◌, true, false, refl, rules, arith}
use mathlib.Core.Bool.{◌||◌}
use Rattle.std.proofs.lemmas.Grind.{common_steps}
use Rattle.codes.specs.Operations.{begins}
use Rattle.codes.proofs.IdLaws.{held-is}
use Rattle.sides.specs.Side.{among, full}
use Rattle.table.specs.Table.{valid, entry_at}
use Rattle.calling.specs.Calls.{send_invoke, fitting}
use Rattle.calling.proofs.Lengths.{call_steps}
use Rattle.calling.proofs.Changes.{invoked_within}
use Rattle.calling.proofs.decide_invoke.Goals as goal

pub returns : goal.returns
unfolding send_invoke fitting
returns c =
    let a = c.args in
    let k = c.in_ok-entry.entry in
    let d : valid a.table.now ≡ true = search rules in
    let b : begins a.operation ≡ true = search rules in
    let w = rw c.in_ok-entry.ensures.ok_part at c.find_open.ensures.1 in
    let f : (full (entry_at a.table.now k).own || among a.id (entry_at a.table.now k).own) ≡ false = grind (arith, common_steps, held-is) in
    (grind (arith, common_steps, call_steps), (rw (held-is c.ranges.id) (invoked_within a.table.now _ d w.1.1 a.id a.operation f b, (w.0, (w.1.0, (grind (arith, common_steps, call_steps), grind (arith, common_steps, call_steps))))), refl))
