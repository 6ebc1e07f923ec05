use Rattle.std.proofs.Common.{length}
use Rattle.bench.proofs.Bench.serve.Given as goal

abbrev pub decreases-loop-rest : goal.decreases-loop-rest
decreases-loop-rest g l = length l.rest
