use mathlib.Core.Path.{refl}
use native.Mathlib.Omega.{arith}
use Rattle.cells.specs.Rows.{put_if}
use Rattle.cells.proofs.PutLaws.{stored}
use Rattle.cells.proofs.put_character.Goals as goal

pub offset_bounds-text-at : goal.offset_bounds-text-at
offset_bounds-text-at c =
    let h = c.requires c.if-writes.true in
    omega (arith, h, c.well_formed)

pub bounds-text-at : goal.bounds-text-at
bounds-text-at c = c.requires c.if-writes.true

pub returns-then-writes : goal.returns-then-writes
unfolding put_if
returns-then-writes c =
    let a = c.args in rw c.if-writes.true (stored a.text.now a.at a.character (c.requires c.if-writes.true))

pub returns-else-writes : goal.returns-else-writes
unfolding put_if
returns-else-writes c = rw c.if-writes.false refl
