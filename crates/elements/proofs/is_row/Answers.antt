use native.Mathlib.Omega.{arith}
use mathlib.Core.Path.{sym, ◌∙◌, ap}
use Rattle.octets.proofs.PartLaws.{rest_part_lem, left_over, none_left}
use Rattle.elements.specs.Element.{row}
use Rattle.elements.proofs.RowLaws.{row_step, row-bad, row-none}
use Rattle.elements.proofs.is_row.Goals as goal

pub returns-in_default : goal.returns-in_default
returns-in_default c =
    let e = rw c.in_default.is at c.read_element.ensures.0 in
    sym (row-bad c.loop-rest.rest.now _ (left_over _ c.loop-rest-test.ensures) (sym e)) ∙ c.loop-rest.invariant

pub loop-rest-preserved : goal.loop-rest-preserved
loop-rest-preserved c =
    let e = rw c.in-Ok.is at c.read_element.ensures.0 in
    ap row (rest_part_lem c.in-Ok.element.end c.loop-rest.rest.now) ∙ sym (row_step c.loop-rest.rest.now _ (sym e)) ∙ c.loop-rest.invariant

pub returns : goal.returns
returns c = sym row-none ∙ ap row (sym (none_left _ c.loop-rest-test.ensures)) ∙ c.loop-rest.invariant
