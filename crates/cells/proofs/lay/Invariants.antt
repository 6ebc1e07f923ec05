use mathlib.Core.Path.{◌≡◌}
use Rattle.cells.specs.Rows.{carried_to}
use Rattle.cells.proofs.LayLaws.{Walked}
use Rattle.cells.proofs.lay.Given as goal

abbrev pub invariant-loop-at : goal.invariant-loop-at
invariant-loop-at l =
    Walked l.string l.initial.text l.initial.lines l.writes l.count l.text l.lines l.walk.row l.at l.escaped l.walk.characters l.walk.ended × (l.carried ≡ carried_to l.string l.at)
