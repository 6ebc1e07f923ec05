use mathlib.Core.Path.{refl, sym, ◌∙◌}
use Rattle.cells.specs.Marks.{place_of}
use Rattle.cells.proofs.alphabet.place_of.Goals as goal

pub returns-then-has_own : goal.returns-then-has_own
unfolding place_of
returns-then-has_own c = rw (sym c.has_own.ensures ∙ c.if-has_own.true) refl

pub returns : goal.returns
unfolding place_of
returns c = rw (sym c.has_own.ensures ∙ c.if-has_own.false) c.place_alone.ensures
