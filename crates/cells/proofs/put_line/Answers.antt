use mathlib.Core.Path.{refl}
use Prim.Native.Nat.{◌*◌}
use native.Mathlib.Omega.{arith}
use lib.ListN.{length-set}
use Rattle.cells.specs.Lines.{line_octets}
use Rattle.cells.specs.Rows.{put_if}
use Rattle.cells.proofs.PutLaws.{two-stored}
use Rattle.cells.proofs.put_line.Goals as goal

pub overflow_mul-lines : goal.overflow_mul-lines
overflow_mul-lines c =
    let h = c.requires c.if-writes.true in
    omega (arith, h, c.well_formed)

pub bounds-lines-count : goal.bounds-lines-count
bounds-lines-count c =
    let h = c.requires c.if-writes.true in
    omega (arith, h)

pub overflow_mul-lines-then-writes : goal.overflow_mul-lines-then-writes
overflow_mul-lines-then-writes c =
    let h = c.requires c.if-writes.true in
    omega (arith, h, c.well_formed)

pub overflow_add-lines : goal.overflow_add-lines
overflow_add-lines c =
    let h = c.requires c.if-writes.true in
    omega (arith, h, c.well_formed)

pub bounds-lines-count-then-writes : goal.bounds-lines-count-then-writes
bounds-lines-count-then-writes c =
    let h = c.requires c.if-writes.true in
    simp length-set (omega (arith, h))

pub returns-then-writes : goal.returns-then-writes
unfolding put_if line_octets
returns-then-writes c =
    let a = c.args in rw c.if-writes.true (two-stored a.lines.now (2 * a.count) a.line.cells a.line.dropped (c.requires c.if-writes.true))

pub returns-else-writes : goal.returns-else-writes
unfolding put_if
returns-else-writes c = rw c.if-writes.false refl
