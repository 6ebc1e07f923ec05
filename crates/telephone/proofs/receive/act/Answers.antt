use mathlib.Core.Path.{refl}
use Rattle.telephone.proofs.Paths.{acted-there, taken-there}
use Rattle.telephone.proofs.receive.act.Goals as goal

pub close-requires : goal.close-requires
close-requires c = let a = c.args in acted-there a.table.now a.message.now _ _ a.decision c.picked_entry-k.ensures c.requires.0 _ c.in-WithCause.is refl

pub close-requires-in-WithReject : goal.close-requires-in-WithReject
close-requires-in-WithReject c = let a = c.args in acted-there a.table.now a.message.now _ _ a.decision c.picked_entry-k.ensures c.requires.0 _ c.in-WithReject.is refl

pub close-requires-in-OnReject : goal.close-requires-in-OnReject
close-requires-in-OnReject c = let a = c.args in acted-there a.table.now a.message.now _ _ a.decision c.picked_entry-k.ensures c.requires.0 _ c.in-OnReject.is refl

pub close-requires-in-Released : goal.close-requires-in-Released
close-requires-in-Released c = let a = c.args in acted-there a.table.now a.message.now _ _ a.decision c.picked_entry-k.ensures c.requires.0 _ c.in-Released.is refl

pub change_entry-requires : goal.change_entry-requires
change_entry-requires c = let a = c.args in taken-there a.table.now a.message.now _ _ a.decision c.picked_entry-k.ensures c.requires.0 _ c.in-Taken.is c.requires.1.1
