use Rattle.trace_lines.proofs.ShownLaws.{fills}
use Rattle.trace_lines.specs.Shown.{bad_line}
use mathlib.Core.Path.{refl}
use native.Mathlib.Omega.{arith}
use Rattle.trace_lines.proofs.shown.print_refused.Goals as goal

pub returns : goal.returns
unfolding bad_line
returns c = fills 80 80 _ _ _ _ c.clear.ensures refl (omega arith) (rw c.number-number.ensures at c.four_line.ensures)
