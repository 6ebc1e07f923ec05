use Prim.Native.Nat.{◌+◌, ◌*◌}
use native.Mathlib.Omega.{arith}
use lib.ListN.{length}
use Rattle.printing.specs.Utf8.{text_rows}
use Rattle.printing.proofs.PageLaws.{appended}
use Rattle.printing.proofs.page.Page.text_rows.Goals as goal

pub returns : goal.returns
returns g c =
    let i = c.self.inside in
    appended i.octets c.args.self.now i.at (3 * length c.args.text.now + length c.args.rows.now) (text_rows c.args.text.now c.args.rows.now) _ _ (omega (arith, c.self.told, c.self.invariant)) c.self.view_is c.text_rows-self-inside.ensures
