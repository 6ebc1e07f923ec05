use mathlib.Core.Path.{refl}
use Rattle.cells.proofs.LayLaws.{kept-within}
use Rattle.cells.proofs.give.Goals as goal

pub put_character-requires : goal.put_character-requires
put_character-requires c = λ y. (c.requires.room y).0

pub end_line-ended-requires : goal.end_line-ended-requires
end_line-ended-requires c = rw c.grow-over.ensures ((λ y. (c.requires.room y).1), c.requires.bounds.1.1.1)

pub left_of-requires : goal.left_of-requires
left_of-requires c = rw c.grow-over.ensures (kept-within c.args.walk.row c.args.code c.requires.bounds.1.0)

pub returns : goal.returns
returns c =
    record { walk = rw (c.left_of.ensures, c.end_line-ended.ensures.count, c.grow-over.ensures) refl; text = c.put_character.ensures; lines = (rw c.grow-over.ensures at c.end_line-ended.ensures.lines) }
