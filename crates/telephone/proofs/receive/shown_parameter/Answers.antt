use mathlib.Core.Path.{ap, ◌∙◌}
use Rattle.showing.specs.Views.{standing}
use Rattle.telephone.specs.declared.receive.Received.{Received}
use Rattle.telephone.proofs.Stands.{stands}
use Rattle.telephone.proofs.receive.shown_parameter.Goals as goal

pub returns : goal.returns
returns c =
    record { octets = (c.part.ensures.octets, λ t b e. c.part.ensures.octets ∙ ap (λ (r : Received). standing c.args.message.now r.shown.parameter) e ∙ (stands t c.args.message.now b).parameter); place = c.part.ensures.place }
