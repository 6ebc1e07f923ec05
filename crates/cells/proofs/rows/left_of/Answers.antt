use Rattle.cells.proofs.RowLaws.{left-whole, left-forty, left-space}
use Rattle.cells.proofs.rows.left_of.Goals as goal

pub returns-then-row-le40 : goal.returns-then-row-le40
returns-then-row-le40 c = left-whole c.args.row c.if-row-le40.true

pub returns-then-row-eq0 : goal.returns-then-row-eq0
returns-then-row-eq0 c = left-forty c.args.row c.if-row-le40.false c.if-row-eq0.true

pub returns : goal.returns
returns c = left-space c.args.row c.if-row-le40.false c.if-row-eq0.false
