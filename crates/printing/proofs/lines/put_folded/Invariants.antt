use mathlib.Core.Path.{◌≡◌}
use Prim.Native.Nat.{◌≤◌, ◌+◌, ◌*◌}
use lib.ListN.{length, drop}
use Rattle.octets.specs.Splice.{splice}
use Rattle.printing.specs.Lines.{folded}
use Rattle.printing.proofs.lines.put_folded.Given as goal

abbrev pub invariant-loop-octet : goal.invariant-loop-octet
invariant-loop-octet l =
    (l.place ≤ l.at + 4 * l.octet-index)
    × ((length l.page ≡ length l.fn.page)
    × ((splice l.page l.place (folded l.width (drop l.octet-index l.octets)) ≡ splice l.fn.page l.at (folded l.column l.octets))
    × (l.place + length (folded l.width (drop l.octet-index l.octets)) ≡ l.at + length (folded l.column l.octets))))
