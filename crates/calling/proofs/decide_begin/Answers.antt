use Rattle.std.proofs.Common.{◌≡◌, true, refl, sym, rules, arith}
use Rattle.std.proofs.lemmas.Grind.{common_steps}
use Rattle.std.proofs.Math.Option.{some}
use Rattle.codes.specs.Operations.{begins}
use Rattle.codes.proofs.IdLaws.{held-is}
use Rattle.table.specs.Table.{valid, lowest_closed}
use Rattle.table.proofs.TableLaws.{lowest-closed-is}
use Rattle.calling.specs.Calls.{send_begin, fitting}
use Rattle.calling.proofs.Lengths.{call_steps}
use Rattle.calling.proofs.Changes.{begun_within}
use Rattle.calling.proofs.decide_begin.Goals as goal

pub returns : goal.returns
unfolding send_begin fitting
returns c =
    let a = c.args in
    let v = c.in_ok-entry.entry in
    let d : valid a.table.now ≡ true = search rules in
    let b : begins a.operation ≡ true = search rules in
    let l : lowest_closed a.table.now ≡ some v = sym (rw c.in_ok-entry.ensures.ok_part at c.lowest_closed.ensures) in
    let w = lowest-closed-is a.table.now v l in
    rw (held-is c.ranges.id) (grind (arith, common_steps, call_steps), ((begun_within a.table.now v d (omega (arith, w.0)) a.id a.operation w.1 b, (omega arith, (omega arith, (grind (arith, common_steps, call_steps), grind (arith, common_steps, call_steps))))), refl))
