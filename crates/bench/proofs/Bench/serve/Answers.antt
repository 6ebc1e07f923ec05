use Rattle.std.proofs.Common.{ℕ, ◌-◌, ◌<◌, ◌≤◌, List, length, take, drop, arith, rules}
use Rattle.std.proofs.Math.ListN.{length-take, length-drop}
use Rattle.words.proofs.Onward.{onward}
use Rattle.bench.proofs.Bench.serve.Goals as goal

shorter : (s : List ℕ) (n : ℕ) → 0 < n → n ≤ length s → length (take (length s - n) (drop n s)) < length s
shorter s n h k = simp (length-take, length-drop) (omega arith)

pub loop-rest-smaller : goal.loop-rest-smaller
loop-rest-smaller g c =
    let rest = c.loop-rest.rest.now in
    let some : 0 < length rest = search rules in
    let further = onward rest 0 _ c.gather-more.result c.gather-more.ensures.gathered some in
    shorter rest c.gather-more.result.next further c.gather-more.ensures.within.0
