use lib.ListN.{length}
use Rattle.telephone.proofs.BatchLaws.{Feeding}
use Rattle.telephone.proofs.batch.feed.Given as goal

abbrev pub invariant-loop-rest : goal.invariant-loop-rest
invariant-loop-rest l = Feeding l.initial.table l.records l.initial.output l.table l.output l.rest l.at

abbrev pub decreases-loop-rest : goal.decreases-loop-rest
decreases-loop-rest l = length l.rest
