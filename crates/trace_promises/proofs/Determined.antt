-- The contracts of crate trace leave one answer each.
use Rattle.std.proofs.Common.{sym, ◌∙◌}
use Rattle.trace.proofs.Determined.{found-determined, fault-determined, answer-determined}
use Rattle.trace_promises.specs.Determined.{Determined}

pub determined : Determined
determined = (
  (λ s r q e f. found-determined s r q e.1 f.1 (e.0 ∙ sym f.0)),
  ((λ block r q e f. fault-determined r q (e ∙ sym f)), ((λ place block r q e f. fault-determined r q (e ∙ sym f)), λ block record_added r q e f. answer-determined r q (e ∙ sym f))),
)
