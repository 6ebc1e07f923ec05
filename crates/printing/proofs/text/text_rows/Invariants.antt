use mathlib.Core.Path.{◌≡◌}
use Prim.Native.Nat.{◌≤◌, ◌+◌, ◌*◌}
use lib.ListN.{length}
use Rattle.octets.specs.Splice.{splice}
use Rattle.printing.specs.Utf8.{text_rows}
use Rattle.printing.proofs.text.text_rows.Given as goal

abbrev pub invariant-loop-rows : goal.invariant-loop-rows
invariant-loop-rows l =
    (length l.page ≡ length l.fn.page)
    × ((l.place + 3 * length l.text + length l.rows ≤ l.fn.at + 3 * length l.fn.text + length l.fn.rows)
    × ((splice l.page l.place (text_rows l.text l.rows) ≡ splice l.fn.page l.fn.at (text_rows l.fn.text l.fn.rows))
    × (l.place + length (text_rows l.text l.rows) ≡ l.fn.at + length (text_rows l.fn.text l.fn.rows))))

abbrev pub decreases-loop-rows : goal.decreases-loop-rows
decreases-loop-rows l = length l.rows
