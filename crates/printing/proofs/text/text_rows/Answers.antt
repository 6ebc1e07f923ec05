use mathlib.Core.Path.{sym, ◌∙◌}
use native.Mathlib.Omega.{arith}
use Rattle.printing.specs.Utf8.{text_rows}
use Rattle.printing.proofs.CellLaws.{row_more, short}
use Rattle.printing.proofs.JoinLaws.{ended}
use Rattle.printing.proofs.text.text_rows.Goals as goal

pub loop-rows-preserved : goal.loop-rows-preserved
loop-rows-preserved c =
    let l = c.loop-rows in
    let p = c.put_row-place in
    (p.auto.page ∙ l.invariant.0, row_more l.page _ p.new.page l.text.now l.rows.now l.place p.result c.min-to.result c.min-next.result _ _ c.in-len2-up.len_at_least c.min-to.ensures c.min-next.ensures p.ensures (omega (arith, l.invariant.0)) l.invariant.1.0 l.invariant.1.1.0 l.invariant.1.1.1)

pub returns : goal.returns
returns c =
    let l = c.loop-rows in
    let e = ended l.page l.place (text_rows l.text.now l.rows.now) (short l.text.now l.rows.now (omega (arith, c.in_default.len_below))) in
    (sym e.0 ∙ l.invariant.1.1.0, (omega arith, omega arith))
