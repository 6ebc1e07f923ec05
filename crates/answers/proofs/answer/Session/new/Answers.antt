use Rattle.std.proofs.Common.{ℕ, arith, ◌∙◌}
use Rattle.std.proofs.lemmas.List.{take-replicate}
use Rattle.answers.proofs.answer.Session.new.Goals as goal

pub returns : goal.returns
returns c = c.holding.ensures ∙ (λ i. record { table = take-replicate {X = ℕ} c.args.size 300 0 (omega arith) i; room = c.args.room })
