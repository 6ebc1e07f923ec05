use Rattle.std.proofs.Common.{◌≤◌}
use Rattle.salvage.proofs.main.Given as goal

abbrev pub invariant-loop-place : goal.invariant-loop-place
invariant-loop-place l = l.kept ≤ l.place
