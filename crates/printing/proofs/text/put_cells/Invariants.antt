use mathlib.Core.Path.{◌≡◌}
use Prim.Native.Nat.{◌≤◌, ◌+◌, ◌*◌}
use lib.ListN.{length, drop}
use Rattle.octets.specs.Splice.{splice}
use Rattle.printing.specs.Utf8.{cell_text}
use Rattle.printing.proofs.text.put_cells.Given as goal

abbrev pub invariant-loop-character : goal.invariant-loop-character
invariant-loop-character l =
    (l.place ≤ l.at + 3 * l.character-index)
    × ((length l.page ≡ length l.fn.page)
    × ((splice l.page l.place (cell_text (drop l.character-index l.characters)) ≡ splice l.fn.page l.at (cell_text l.characters))
    × (l.place + length (cell_text (drop l.character-index l.characters)) ≡ l.at + length (cell_text l.characters))))
