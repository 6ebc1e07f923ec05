use native.Mathlib.Omega.{arith}
use Rattle.telephone.proofs.Paths.{begin-value}
use Rattle.telephone.proofs.calls.smr_begin.Goals as goal

pub sent_first-first-requires : goal.sent_first-first-requires
sent_first-first-requires c =
    let k = begin-value _ _ _ _ _ _ c.in-Ok.ensures.0 in
    (omega arith, omega arith)
