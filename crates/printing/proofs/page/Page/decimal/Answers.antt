use native.Mathlib.Omega.{arith}
use Rattle.printing.specs.Numbers.{decimal}
use Rattle.printing.proofs.PageLaws.{appended}
use Rattle.printing.proofs.page.Page.decimal.Goals as goal

pub returns : goal.returns
returns g c =
    let i = c.self.inside in
    appended i.octets c.args.self.now i.at 20 (decimal c.args.n) _ _ (omega (arith, c.self.told, c.self.invariant)) c.self.view_is c.put_decimal-self-inside.ensures
