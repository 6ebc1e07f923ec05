use Rattle.std.proofs.Common.{◌≡◌, ◌≤◌, ◌-◌, length, drop}
use Rattle.messages.specs.Scan.{first_taken}
use Rattle.messages.proofs.scan.find.Given as goal

abbrev pub invariant-loop-item : goal.invariant-loop-item
invariant-loop-item l = (l.at ≤ length l.s) × (first_taken l.identifier (drop l.at l.s) ≡ first_taken l.identifier l.s)

abbrev pub decreases-loop-item : goal.decreases-loop-item
decreases-loop-item l = length l.s - l.at
