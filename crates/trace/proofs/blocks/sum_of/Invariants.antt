use Rattle.trace.specs.Numbers.{total, sum_of}
use Rattle.std.proofs.Common.{◌≡◌, ◌+◌, ◌%◌, ◌<◌, drop}
use Rattle.trace.proofs.blocks.sum_of.Given as goal

abbrev pub invariant-loop-octet : goal.invariant-loop-octet
invariant-loop-octet l = ((l.sum + total (drop l.octet-index l.s)) % 65536 ≡ sum_of l.s) × (l.sum < 65536)
