use mathlib.Core.Path.{refl}
use mathlib.Core.Bool.{false≢true}
use Prim.Native.Nat.{◌/◌, ◌≤◌}
use native.Mathlib.Omega.{arith}
use lib.ListN.{length}
use Rattle.cells.specs.Characters.{string_text}
use Rattle.cells.specs.Lines.{lines_of}
use Rattle.cells.specs.Rows.{put_if}
use Rattle.cells.proofs.CellsLaws.{other-scheme, short-text, short-lines, with-room}
use Rattle.cells.proofs.smr_cells.Goals as goal

pub returns-then-scheme-ne15 : goal.returns-then-scheme-ne15
returns-then-scheme-ne15 c =
    let a = c.args in rw (other-scheme a.scheme a.string.now a.text.now a.lines.now c.if-scheme-ne15.true) (record { returned = c.refused.ensures; text = refl; lines = refl })

pub lay-extent-requires : goal.lay-extent-requires
lay-extent-requires c = λ e. absurd (false≢true e)

pub returns-then-text-extent : goal.returns-then-text-extent
unfolding put_if
returns-then-text-extent c =
    let a = c.args in rw (short-text a.scheme a.string.now a.text.now a.lines.now c.if-scheme-ne15.false (rw (c.lay-extent.ensures.extent, c.lay-extent.ensures.text) at c.if-text-extent.true)) (record { returned = c.refused-then-text-extent.ensures; text = c.lay-extent.ensures.text; lines = c.lay-extent.ensures.lines })

pub returns-then-lines-extent : goal.returns-then-lines-extent
unfolding put_if
returns-then-lines-extent c =
    let a = c.args in rw (short-lines a.scheme a.string.now a.text.now a.lines.now c.if-scheme-ne15.false (rw (c.lay-extent.ensures.extent, c.lay-extent.ensures.text) at c.if-text-extent.false) (rw (c.lay-extent.ensures.extent, c.lay-extent.ensures.lines) at c.if-lines-extent.true)) (record { returned = c.refused-then-lines-extent.ensures; text = c.lay-extent.ensures.text; lines = c.lay-extent.ensures.lines })

pub lay-requires : goal.lay-requires
unfolding put_if
lay-requires c =
    let h : length (lines_of (string_text c.args.string.now)) ≤ length c.args.lines.now / 2 = rw (c.lay-extent.ensures.extent, c.lay-extent.ensures.lines) at c.if-lines-extent.false in
    λ _. rw (c.lay-extent.ensures.text, c.lay-extent.ensures.lines) ((rw (c.lay-extent.ensures.extent, c.lay-extent.ensures.text) at c.if-text-extent.false), omega (arith, h))

pub returns : goal.returns
unfolding put_if
returns c =
    let a = c.args in
    rw (with-room a.scheme a.string.now a.text.now a.lines.now c.if-scheme-ne15.false (rw (c.lay-extent.ensures.extent, c.lay-extent.ensures.text) at c.if-text-extent.false) (rw (c.lay-extent.ensures.extent, c.lay-extent.ensures.lines) at c.if-lines-extent.false), c.lay-extent.ensures.extent)
    (record { returned = refl; text = (rw c.lay-extent.ensures.text at c.lay.ensures.text); lines = (rw c.lay-extent.ensures.lines at c.lay.ensures.lines) })
