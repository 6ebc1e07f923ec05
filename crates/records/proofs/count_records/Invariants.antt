use mathlib.Core.Path.{◌≡◌}
use Prim.Native.Nat.{◌≤◌, ◌+◌}
use lib.ListN.{length}
use Rattle.records.specs.Records.{messages_in, counted}
use Rattle.records.proofs.RecordLaws.{counting}
use Rattle.records.proofs.count_records.Given as goal

abbrev pub invariant-loop-rest : goal.invariant-loop-rest
invariant-loop-rest l = (l.n + length l.rest ≤ length l.s) × (counting l.n (messages_in l.rest) ≡ counted l.s)

abbrev pub decreases-loop-rest : goal.decreases-loop-rest
decreases-loop-rest l = length l.rest
