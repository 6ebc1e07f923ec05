use Rattle.trace_lines.specs.Told.{or_refuses}
use Rattle.trace_lines.specs.Desk.{begun_seen}
use mathlib.Core.Path.{refl, ap}
use Rattle.trace_lines.proofs.told.grow.Goals as goal

pub returns-in_default : goal.returns-in_default
returns-in_default c = (ap (or_refuses c.args.pen.line) (c.in_default.ensures.0 (begun_seen c.args.pen c.args.message.now) refl), tt)

pub returns : goal.returns
returns c = (ap (or_refuses c.args.pen.line) (c.in-Some.ensures.0 (begun_seen c.args.pen c.args.message.now) refl), c.in-Some.ensures.1)
