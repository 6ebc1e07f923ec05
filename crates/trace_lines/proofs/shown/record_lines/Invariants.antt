use Rattle.trace_lines.proofs.ShownLaws.{lines_at}
use Rattle.trace.specs.Seen.{is_sound}
use Rattle.trace.specs.Records.{records_in}
use lib.ListN.{length}
use Prim.Native.Nat.{◌+◌, ◌*◌, ◌≤◌}
use mathlib.Core.List.{◌++◌}
use mathlib.Core.Bool.{true}
use mathlib.Core.Path.{◌≡◌}
use Rattle.trace_lines.proofs.shown.record_lines.Given as goal

abbrev pub invariant-loop-rest : goal.invariant-loop-rest
invariant-loop-rest g l =
    (is_sound (records_in l.rest) ≡ true)
    × ((l.page ++ lines_at l.rest ≡ l.fn.page ++ lines_at l.s)
    × (length l.page + 26 * length l.rest ≤ length l.fn.page + 26 * length l.s))

abbrev pub decreases-loop-rest : goal.decreases-loop-rest
decreases-loop-rest g l = length l.rest
