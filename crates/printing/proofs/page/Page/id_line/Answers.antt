use native.Mathlib.Omega.{arith}
use Rattle.codes.proofs.IdLaws.{as_held, held-is}
use Rattle.printing.specs.Lines.{id_line}
use Rattle.printing.proofs.PageLaws.{appended}
use Rattle.printing.proofs.page.Page.id_line.Goals as goal

pub returns : goal.returns
returns g c =
    let i = c.self.inside in
    rw (← held-is c.ranges.id) (appended i.octets c.args.self.now i.at 64 (id_line c.args.word.now (as_held c.args.id)) _ _ (omega (arith, c.self.told, c.self.invariant)) c.self.view_is c.id_line-self-inside.ensures)
