use Prim.Native.Nat.{◌+◌, ◌*◌}
use native.Mathlib.Omega.{arith}
use lib.ListN.{length}
use Rattle.printing.specs.Lines.{octets_line}
use Rattle.printing.proofs.PageLaws.{appended}
use Rattle.printing.proofs.page.Page.octets_line.Goals as goal

pub returns : goal.returns
returns g c =
    let i = c.self.inside in
    appended i.octets c.args.self.now i.at (4 * length c.args.octets.now + 64) (octets_line c.args.word.now c.args.octets.now) _ _ (omega (arith, c.self.told, c.self.invariant)) c.self.view_is c.octets_line-self-inside.ensures
