use mathlib.Core.Path.{refl, sym, ◌∙◌}
use Prim.Native.Nat.{◌%◌}
use native.Mathlib.Omega.{arith}
use native.Mathlib.Nat.{mod-one}
use Rattle.cells.specs.Rows.{carried_to}
use Rattle.cells.proofs.LayLaws.{begins, ended-bound, written-bound, held-there, room-there, turned, all-written, all-counted, last-counted, last_written, last-room}
use Rattle.cells.proofs.lay.Goals as goal

pub loop-at-init : goal.loop-at-init
unfolding carried_to
loop-at-init c =
    let a = c.args in (begins a.string.now a.text.now a.lines.now a.writes c.septets_sent-count.result c.septets_sent-count.ensures, sym (mod-one _))

pub bits_at-bits-requires : goal.bits_at-bits-requires
bits_at-bits-requires c = (held-there c.loop-at.invariant.0 c.loop-at-test.true, c.loop-at.invariant.1)

pub turn-walk-requires : goal.turn-walk-requires
turn-walk-requires c =
    let m = written-bound c.loop-at.invariant.0 in
    let n = ended-bound c.loop-at.invariant.0 in
    record {
      room = room-there c.loop-at.walk c.loop-at.invariant.0 c.loop-at-test.true (c.bits_at-bits.result % 128) c.bits_at-bits.ensures.septet _ refl c.requires;
      bounds = (omega arith, (c.loop-at.invariant.0.narrow, (c.loop-at.invariant.0.spaced, (omega (arith, m, c.well_formed), omega (arith, n, c.well_formed)))));
    }

pub loop-at-preserved : goal.loop-at-preserved
loop-at-preserved c =
    (turned c.loop-at.walk c.loop-at.invariant.0 c.loop-at-test.true (c.bits_at-bits.result % 128) c.bits_at-bits.ensures.septet _ refl c.requires _ _ c.turn-walk.result c.turn-walk.ensures.walk c.turn-walk.ensures.text c.turn-walk.ensures.lines, c.bits_at-bits.ensures.rest)

pub put_line-requires : goal.put_line-requires
put_line-requires c = last-room c.loop-at.invariant.0 c.loop-at-test.false c.requires

pub overflow_add-result : goal.overflow_add-result
overflow_add-result c = let n = ended-bound c.loop-at.invariant.0 in omega (arith, n, c.well_formed)

pub returns : goal.returns
returns c =
    record { extent = rw (all-counted c.loop-at.invariant.0 c.loop-at-test.false, last-counted c.loop-at.invariant.0 c.loop-at-test.false) refl; text = all-written c.loop-at.invariant.0 c.loop-at-test.false; lines = c.put_line.ensures ∙ last_written c.loop-at.invariant.0 c.loop-at-test.false }
