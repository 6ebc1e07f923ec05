use Prim.Native.Nat.{◌+◌, ◌-◌, ◌≤◌}
use native.Mathlib.Omega.{arith}
use lib.ListN.{length}
use Rattle.std.proofs.Common.{rules}
use Rattle.printing.proofs.PageLaws.{ended}
use Rattle.reports.proofs.SlotLaws.{slot_more, no_slot}
use Rattle.reports.proofs.slots.slot_lines.Goals as goal

pub slot_text-requires : goal.slot_text-requires
slot_text-requires g c =
    let l : 14 ≤ length c.loop.rest.now = omega (arith, c.loop.invariant.left, c.loop-test.true) in
    let r : length c.loop.page + 1328 ≤ g.row.N = omega (arith, c.loop.invariant.within, c.loop-test.true) in
    search rules

pub loop-preserved : goal.loop-preserved
loop-preserved g c =
    let l = c.loop in
    let left = c.args.slots - l.counter in
    let next = c.args.slots - (l.counter + 1) in
    let m = slot_more l.page _ c.slot_text.new.page l.rest.now left next (omega arith) c.slot_text.ensures.0 l.invariant.text l.invariant.left in
    record { text = m.0; left = m.1; within = omega (arith, l.invariant.within, c.slot_text.ensures.1) }

pub returns : goal.returns
returns g c =
    let l = c.loop in
    (ended _ _ _ (no_slot (c.args.slots - l.counter) l.rest.now (omega arith)) l.invariant.text, omega (arith, l.invariant.within))
