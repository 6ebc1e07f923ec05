use mathlib.Core.Path.{refl}
use Rattle.cells.proofs.alphabet.has_own.Goals as goal

pub returns-then-not-escaped : goal.returns-then-not-escaped
returns-then-not-escaped c = rw (c.if-not-escaped.true) refl

pub returns : goal.returns
returns c = rw (c.if-not-escaped.false) refl
