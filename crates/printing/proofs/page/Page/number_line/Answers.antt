use native.Mathlib.Omega.{arith}
use Rattle.printing.specs.Lines.{number_line}
use Rattle.printing.proofs.PageLaws.{appended}
use Rattle.printing.proofs.page.Page.number_line.Goals as goal

pub returns : goal.returns
returns g c =
    let i = c.self.inside in
    appended i.octets c.args.self.now i.at 64 (number_line c.args.word.now c.args.n) _ _ (omega (arith, c.self.told, c.self.invariant)) c.self.view_is c.number_line-self-inside.ensures
