use mathlib.Core.Path.{refl, sym}
use Prim.Native.Nat.{◌*◌}
use native.Mathlib.Nat.{add-zero}
use Rattle.cells.specs.Lines.{line_octets}
use Rattle.cells.proofs.PutLaws.{put-nil}
use Rattle.cells.proofs.RowLaws.{none-ends, one-ends}
use Rattle.cells.proofs.end_line.Goals as goal

pub returns-then-row-le40 : goal.returns-then-row-le40
unfolding line_octets
returns-then-row-le40 c =
    let a = c.args in rw (none-ends a.row c.if-row-le40.true) (record { lines = sym (put-nil a.writes a.lines.now (2 * a.count)); count = sym (add-zero a.count) })

pub put_line-requires : goal.put_line-requires
unfolding line_octets
put_line-requires c =
    λ w. rw (one-ends c.args.row c.if-row-le40.false) at (c.requires.0 w)

pub returns : goal.returns
returns c =
    rw (one-ends c.args.row c.if-row-le40.false, ← c.line_of.ensures) (record { lines = c.put_line.ensures; count = refl })
