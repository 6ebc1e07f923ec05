use Rattle.std.proofs.Common.{sym, ◌∙◌, arith}
use Rattle.words.proofs.HexLaws.{reading_starts, reading_same, read_long, read_blank, read_first, read_second}
use Rattle.words.proofs.hex.read_hex.Goals as goal
use Rattle.words.proofs.hex.read_hex.Goals.{then-is_blank+else-is_some, else-is_blank+in-Some+in-None, else-is_blank+in-Some+in-Some-half+else-buffer-count}

pub loop-c-init : goal.loop-c-init
loop-c-init c = reading_starts c.args.text.now c.args.buffer.now

pub returns-then-buffer-count : goal.returns-then-buffer-count
returns-then-buffer-count c =
    read_long c.args.text.now c.args.buffer.now c.loop-c.buffer c.loop-c.count c.loop-c.half c.loop-c.c-index c.loop-c.invariant _ _ c.loop-c-test.true (sym c.is_blank.ensures ∙ c.if-is_blank.false) c.in-Some.ensures c.in-Some-half.is (omega arith)

pub loop-c-preserved : goal.loop-c-preserved
loop-c-preserved c =
    elim c.if-is_blank.branch [
      | then-is_blank+else-is_some w ↦
          reading_same c.args.text.now c.args.buffer.now _ w.buffer-is w.count-is w.half-is (read_blank c.args.text.now c.args.buffer.now c.loop-c.buffer c.loop-c.count c.loop-c.half c.loop-c.c-index c.loop-c.invariant c.loop-c-test.true (sym c.is_blank.ensures ∙ w.if-is_blank.true) (sym w.is_some.ensures ∙ w.if-is_some.false))
      | else-is_blank+in-Some+in-None w ↦
          reading_same c.args.text.now c.args.buffer.now _ w.buffer-is w.count-is w.half-is (read_first c.args.text.now c.args.buffer.now c.loop-c.buffer c.loop-c.count c.loop-c.half c.loop-c.c-index c.loop-c.invariant _ c.loop-c-test.true (sym c.is_blank.ensures ∙ w.if-is_blank.false) w.in-Some.ensures w.in-None.is)
      | else-is_blank+in-Some+in-Some-half+else-buffer-count w ↦
          reading_same c.args.text.now c.args.buffer.now _ w.buffer-is w.count-is w.half-is (read_second c.args.text.now c.args.buffer.now c.loop-c.buffer c.loop-c.count c.loop-c.half c.loop-c.c-index c.loop-c.invariant _ _ c.loop-c-test.true (sym c.is_blank.ensures ∙ w.if-is_blank.false) w.in-Some.ensures w.in-Some-half.is (omega arith))
    ]
