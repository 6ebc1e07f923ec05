use Rattle.std.proofs.Common.{◌≡◌, sym, ap, rules, length}
use Rattle.reports.specs.Words.{table_set}
use Rattle.answers.specs.Answers.{State}
use Rattle.answers.proofs.AnswerLaws.{sets}
use Rattle.answers.proofs.answer.Session.on_image.Goals as goal

pub returns-then-octets-le300 : goal.returns-then-octets-le300
returns-then-octets-le300 c =
    let r : c.args.self.now.room ≡ c.self.inside.room = sym (ap (λ (s : State). s.room) c.self.view_is) in
    let w : c.words-then-octets-le300.new.self ≡ table_set = cc in
    let h : length c.args.octets.now ≡ 0 → ⊥ = λ e. search rules in
    sets c.args.number c.args.self.now c.args.octets.now _ _ _ _ r h c.if-octets-le300.true c.put.ensures w
