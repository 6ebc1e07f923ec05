use native.Mathlib.Omega.{arith}
use Rattle.printing.specs.Lines.{problem_line}
use Rattle.printing.proofs.PageLaws.{appended}
use Rattle.printing.proofs.page.Page.problem_line.Goals as goal

pub returns : goal.returns
returns g c =
    let i = c.self.inside in
    appended i.octets c.args.self.now i.at 64 (problem_line c.args.tag c.args.problem) _ _ (omega (arith, c.self.told, c.self.invariant)) c.self.view_is c.problem_line-self-inside.ensures
