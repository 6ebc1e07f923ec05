use native.Mathlib.Omega.{arith}
use Rattle.printing.specs.Numbers.{pair}
use Rattle.printing.proofs.PageLaws.{appended}
use Rattle.printing.proofs.page.Page.pair.Goals as goal

pub returns : goal.returns
unfolding pair
returns g c =
    let i = c.self.inside in
    let e = c.put_pair-self-inside.ensures in
    appended i.octets c.args.self.now i.at 2 (pair c.args.octet) _ _ (omega (arith, c.self.told, c.self.invariant)) c.self.view_is (e.writes, (e.next, omega arith))
