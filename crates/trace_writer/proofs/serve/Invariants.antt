use Rattle.std.proofs.Common.{length, ◌≤◌}
use Rattle.trace_lines.specs.Desk.{Ready}
use Rattle.trace_writer.proofs.serve.Given as goal

abbrev pub invariant-loop-rest : goal.invariant-loop-rest
invariant-loop-rest g l = (l.state.have ≤ 16385) × Ready l.state.turn.pen

abbrev pub decreases-loop-rest : goal.decreases-loop-rest
decreases-loop-rest g l = length l.rest
