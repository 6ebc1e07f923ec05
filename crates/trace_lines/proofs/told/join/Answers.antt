use Rattle.trace_lines.proofs.ToldLaws.{joins-bad, joins-over, joins-whole}
use mathlib.Core.Path.{refl}
use Rattle.trace_lines.proofs.told.join.Goals as goal

pub returns-in_default : goal.returns-in_default
returns-in_default c = ((λ b q. joins-bad c.args.text.now _ c.read_hex-row.ensures.1.0 c.in_default.not-Whole b), tt)

pub returns-then-count-row-gt255 : goal.returns-then-count-row-gt255
returns-then-count-row-gt255 c =
    let a = c.args in
    let r = c.read_hex-row.ensures in
    ((λ b q. joins-over a.text.now a.count _ a.message.now c.requires.1 c.requires.0 _ r.1.0 c.in-Whole.is r.0 b q c.if-count-row-gt255.true), tt)

pub returns : goal.returns
returns c =
    let a = c.args in
    let r = c.read_hex-row.ensures in
    ((λ b q. joins-whole a.text.now a.count _ a.message.now c.requires.1 c.requires.0 _ r.1.0 c.in-Whole.is r.0 b q _ _ _ _ refl r.1.1.0 c.put.ensures c.if-count-row-gt255.false), c.if-count-row-gt255.false)
