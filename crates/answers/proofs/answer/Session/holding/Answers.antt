use Rattle.std.proofs.Common.{ℕ, refl, ap, ◌∙◌, List, length, take}
use Rattle.answers.proofs.AnswerLaws.{front_is}
use Rattle.answers.proofs.answer.Session.holding.Goals as goal

pub returns : goal.returns
returns c =
    let p = c.args.image.now in
    λ i. record { table = (ap (λ (x : List ℕ). take (length p) x) c.put.ensures ∙ front_is _ p (length p) refl) i; room = c.args.room }
