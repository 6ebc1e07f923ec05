use native.Mathlib.Numerals.{add-one}
use borrow.Author.Tests.{eq-eqb, ne_eqb}
use mathlib.Core.Path.{refl}
use Rattle.cells.proofs.rows.grow.Goals as goal

pub returns-then-character-eq32 : goal.returns-then-character-eq32
returns-then-character-eq32 c = rw (add-one c.args.row.width, eq-eqb c.args.character 0x20 c.if-character-eq32.true) refl

pub returns : goal.returns
returns c = rw (add-one c.args.row.width, ne_eqb c.args.character 0x20 c.if-character-eq32.false) refl
