use Rattle.std.proofs.Common.{◌≤◌}
use Rattle.trace_lines.specs.Desk.{Ready}
use Rattle.trace_writer.proofs.read_all.Given as goal

abbrev pub invariant-loop : goal.invariant-loop
invariant-loop g l = (l.state.have ≤ 16385) × Ready l.state.turn.pen
