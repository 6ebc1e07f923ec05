use mathlib.Core.Path.{refl}
use Rattle.cells.proofs.turn.Goals as goal

pub returns-then-waits : goal.returns-then-waits
returns-then-waits c = rw c.if-waits.true (record { walk = refl; text = refl; lines = refl })

pub give-requires : goal.give-requires
give-requires c = rw c.made_by.ensures (record { room = c.requires.room c.if-waits.false; bounds = c.requires.bounds.1 })

pub returns : goal.returns
returns c = rw (c.if-waits.false, ← c.made_by.ensures) c.give.ensures
