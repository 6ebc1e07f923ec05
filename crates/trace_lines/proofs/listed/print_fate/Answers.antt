use Rattle.trace_lines.proofs.ShownLaws.{one-listed, none-listed, fills}
use Rattle.trace_lines.specs.Listed.{listed_line}
use lib.ListN.{length}
use native.Mathlib.Omega.{arith}
use mathlib.Core.Path.{ap, ◌∙◌}
use Rattle.trace_lines.proofs.listed.print_fate.Goals as goal

pub returns-in-Kept : goal.returns-in-Kept
returns-in-Kept c = rw c.in-Kept.is (c.clear.ensures ∙ none-listed, omega (arith, ap length c.clear.ensures))

pub returns-in-Renumbered : goal.returns-in-Renumbered
unfolding listed_line
returns-in-Renumbered c =
    rw c.in-Renumbered.is (fills 80 80 _ _ _ _ c.clear.ensures (one-listed _) (omega arith) (rw c.number-fault.ensures at c.four_line.ensures))

pub returns-in-Dropped : goal.returns-in-Dropped
unfolding listed_line
returns-in-Dropped c =
    rw c.in-Dropped.is
    (fills 80 80 _ _ _ _ c.clear.ensures (one-listed _) (omega arith) c.four_line-in-Dropped.ensures)

pub returns-in-Short : goal.returns-in-Short
unfolding listed_line
returns-in-Short c =
    rw c.in-Short.is
    (fills 80 80 _ _ _ _ c.clear.ensures (one-listed _) (omega arith) (rw c.number-fault-in-Short.ensures at c.four_line-in-Short.ensures))
