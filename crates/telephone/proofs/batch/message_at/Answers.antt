use mathlib.Core.Path.{refl}
use native.Mathlib.Omega.{arith}
use Rattle.telephone.proofs.BatchLaws.{message-is}
use Rattle.telephone.proofs.batch.message_at.Goals as goal

pub bounds-records-0 : goal.bounds-records-0
bounds-records-0 c = let w = (message-is c.args.records.now c.requires).0 in omega arith

pub slice_bounds-result-end : goal.slice_bounds-result-end
slice_bounds-result-end c = let w = (message-is c.args.records.now c.requires).0 in omega arith

pub returns : goal.returns
returns c = record { octets = (message-is c.args.records.now c.requires).1; place = refl }
