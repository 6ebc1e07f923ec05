use Rattle.octets.proofs.PartLaws.{length-between, rest_part_lem, left_over, none_left}
use Rattle.trace_lines.proofs.ShownLaws.{lines_at, at-step, at_none, not-bad}
use Rattle.trace.proofs.RecordLaws.{sound-step}
use Rattle.printing.proofs.PageLaws.{piece, ended}
use lib.ListN.{length, drop, length-drop}
use mathlib.Core.Path.{sym, ap, ◌∙◌}
use native.Mathlib.Omega.{arith}
use Rattle.trace_lines.proofs.shown.record_lines.Goals as goal

pub returns-in_default : goal.returns-in_default
returns-in_default g c =
    let l = c.loop-rest in
    let e = rw c.in_default.is at c.read_traced.ensures.0 in
    absurd (not-bad l.rest.now _ (left_over _ c.loop-rest-test.ensures) (sym e) l.invariant.0)

pub record_line-requires : goal.record_line-requires
record_line-requires g c =
    let l = c.loop-rest in
    let w = rw c.in-Some.is at c.read_traced.ensures.1 in
    let m = length-between 2 c.in-Some.found.end l.rest.now (omega arith) in
    omega (arith, m, c.requires.1, l.invariant.1.1)

pub loop-rest-preserved : goal.loop-rest-preserved
loop-rest-preserved g c =
    let l = c.loop-rest in
    let end = c.in-Some.found.end in
    let e = rw c.in-Some.is at c.read_traced.ensures.0 in
    let w = rw c.in-Some.is at c.read_traced.ensures.1 in
    let m = length-between 2 end l.rest.now (omega arith) in
    let d = length-drop end l.rest.now in
    let f = at-step l.rest.now _ (sym e) l.invariant.0 in
    let t = piece _ (lines_at l.rest.now) _ (lines_at (drop end l.rest.now)) _ f c.record_line.ensures.0 in
    rw (rest_part_lem end l.rest.now)
    (sound-step l.rest.now _ (sym e) ∙ l.invariant.0, (t ∙ l.invariant.1.0, omega (arith, m, d, l.invariant.1.1, c.record_line.ensures.1)))

pub returns : goal.returns
returns g c =
    let l = c.loop-rest in
    (ended _ _ _ (at_none l.rest.now (omega (arith, ap length (none_left _ c.loop-rest-test.ensures)))) l.invariant.1.0, omega (arith, l.invariant.1.1))
