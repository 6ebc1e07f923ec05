use mathlib.Core.Path.{◌≡◌}
use mathlib.Core.List.{◌++◌}
use Prim.Native.Nat.{◌+◌, ◌*◌, ◌-◌, ◌≤◌}
use lib.ListN.{length}
use Rattle.reports.specs.Slots.{slot_lines}
use Rattle.reports.proofs.slots.slot_lines.Given as goal

abbrev pub invariant-loop : goal.invariant-loop
invariant-loop g l =
    record {
      text : l.page ++ slot_lines (l.slots - l.counter) l.rest ≡ l.fn.page ++ slot_lines l.slots l.output;
      left : 14 * (l.slots - l.counter) ≤ length l.rest;
      within : length l.page ≤ length l.fn.page + 1328 * l.counter;
    }
