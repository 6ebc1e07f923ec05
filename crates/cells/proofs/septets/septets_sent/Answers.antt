use Prim.Native.Nat.{◌-◌}
use lib.ListN.{length}
use Rattle.cells.proofs.SeptetLaws.{no-boundary, no-octets, no-pad, pad}
use Rattle.cells.proofs.septets.septets_sent.Goals as goal

pub returns-then-held-ne0 : goal.returns-then-held-ne0
returns-then-held-ne0 c = no-boundary c.args.string.now c.if-held-ne0.true

pub returns-then-n-eq0 : goal.returns-then-n-eq0
returns-then-n-eq0 c = no-octets c.args.string.now c.if-n-eq0.true

pub returns-then-string-n-ne13 : goal.returns-then-string-n-ne13
returns-then-string-n-ne13 c =
    no-pad c.args.string.now c.if-held-ne0.false c.if-n-eq0.false (c.type_inv.string (length c.args.string.now - 1)).fits c.if-string-n-ne13.true

pub returns : goal.returns
returns c =
    pad c.args.string.now c.if-held-ne0.false c.if-n-eq0.false (c.type_inv.string (length c.args.string.now - 1)).fits c.if-string-n-ne13.false
