use native.Mathlib.Omega.{arith}
use lib.ListN.{length}
use Rattle.printing.proofs.PageLaws.{appended}
use Rattle.printing.proofs.page.Page.words.Goals as goal

pub returns : goal.returns
returns g c =
    let i = c.self.inside in
    let e = c.put_words-self-inside.ensures in
    appended i.octets c.args.self.now i.at (length c.args.words.now) c.args.words.now _ _ (omega (arith, c.self.told, c.self.invariant)) c.self.view_is (e.0, (e.1, omega arith))
