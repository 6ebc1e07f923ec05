use Rattle.codes.proofs.IdLaws.{as_held}
use Rattle.deciding.proofs.Paths.{error-text}
use Rattle.deciding.proofs.weigh_component.Goals as goal

pub rule-requires-in-Error : goal.rule-requires-in-Error
rule-requires-in-Error c =
    ((rw c.in-Error.is at c.requires.0, c.requires.1), error-text c.judge_error-judgement.result (as_held c.in-Error.id) c.in-Error.id c.in-Error.code c.judge_error-judgement.ensures.1 _)
