use native.Mathlib.Omega.{arith}
use Rattle.trace_lines.proofs.ShownLaws.{join}
use Rattle.trace_lines.specs.Shown.{four_line}
use Rattle.trace_lines.proofs.shown.four_line.Goals as goal

pub returns : goal.returns
unfolding four_line
returns g c = (
  join _ _ _ _ _
      (join _ _ _ _ _ (join _ _ _ _ _ (join _ _ _ _ _ c.words.ensures.0 c.decimal.ensures.0) c.words-2.ensures.0) c.decimal-2.ensures.0)
      c.words-3.ensures.0,
  omega arith,
)
