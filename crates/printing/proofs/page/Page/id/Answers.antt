use native.Mathlib.Omega.{arith}
use Rattle.codes.proofs.IdLaws.{held-is}
use Rattle.printing.specs.Numbers.{id_text}
use Rattle.printing.proofs.PageLaws.{appended}
use Rattle.printing.proofs.page.Page.id.Goals as goal

pub returns : goal.returns
returns g c =
    let i = c.self.inside in
    appended i.octets c.args.self.now i.at 21 (id_text c.args.id) _ _ (omega (arith, c.self.told, c.self.invariant)) c.self.view_is (rw (held-is c.ranges.id) at c.put_id-self-inside.ensures)
