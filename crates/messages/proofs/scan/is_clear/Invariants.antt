use Rattle.std.proofs.Common.{◌≡◌, length}
use Rattle.messages.specs.Scan.{clear}
use Rattle.messages.proofs.scan.is_clear.Given as goal

abbrev pub invariant-loop-rest : goal.invariant-loop-rest
invariant-loop-rest l = clear l.rest ≡ clear l.s

abbrev pub decreases-loop-rest : goal.decreases-loop-rest
decreases-loop-rest l = length l.rest
