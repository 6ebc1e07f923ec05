use Rattle.cells.proofs.RowLaws.{last_line_lem, forty-line, space-line}
use Rattle.cells.proofs.rows.line_of.Goals as goal

pub returns-then-row-le40 : goal.returns-then-row-le40
returns-then-row-le40 c = last_line_lem c.args.row c.if-row-le40.true

pub returns-then-row-eq0 : goal.returns-then-row-eq0
returns-then-row-eq0 c = forty-line c.args.row c.if-row-le40.false c.if-row-eq0.true

pub returns : goal.returns
returns c = space-line c.args.row c.if-row-le40.false c.if-row-eq0.false
