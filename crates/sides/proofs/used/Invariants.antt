use Rattle.std.proofs.Common.{◌≡◌, ◌<◌, ◌+◌, length}
use Rattle.sides.specs.Seen.{side_seen}
use Rattle.sides.proofs.used.Given as goal

abbrev pub invariant-loop-rest : goal.invariant-loop-rest
invariant-loop-rest l = record { fits : l.rest < 18446744073709551616; count : l.n + length (side_seen l.rest) ≡ length (side_seen l.side) }

abbrev pub decreases-loop-rest : goal.decreases-loop-rest
decreases-loop-rest l = l.rest
