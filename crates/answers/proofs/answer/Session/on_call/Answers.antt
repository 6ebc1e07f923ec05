use Rattle.std.proofs.Common.{refl, arith, ◌∙◌}
use lib.Seq.{length-take-le}
use Rattle.std.proofs.lemmas.List.{take-replicate}
use Rattle.answers.proofs.AnswerLaws.{calls}
use Rattle.answers.proofs.answer.Session.on_call.Goals as goal

pub returns : goal.returns
returns c =
    let h = c.self.inside in
    let l = c.make.auto.table ∙ length-take-le h.size h.space (omega (arith, c.self.invariant)) in
    let b = take-replicate h.room 300 0 (omega (arith, c.self.invariant)) in
    rw (← c.self.view_is) (calls c.args.command _ c.args.octets.now c.make.new.table _ _ _ h.size h.room refl l b c.make.ensures)
