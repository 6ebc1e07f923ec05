use mathlib.Core.Path.{refl}
use Rattle.elements.proofs.ElementLaws.{one-octet, two-octets, three-octets}
use Rattle.elements.proofs.write_header.Goals as goal

pub put-requires : goal.put-requires
put-requires c = rw (one-octet c.args.n c.if-n-lt128.true) at c.requires.1

pub returns-then-n-lt128 : goal.returns-then-n-lt128
returns-then-n-lt128 c = rw (one-octet c.args.n c.if-n-lt128.true) (record { writes = c.put.ensures; next = refl })

pub put-requires-then-n-lt256 : goal.put-requires-then-n-lt256
put-requires-then-n-lt256 c = rw (two-octets c.args.n c.if-n-lt128.false c.if-n-lt256.true) at c.requires.1

pub returns-then-n-lt256 : goal.returns-then-n-lt256
returns-then-n-lt256 c = rw (two-octets c.args.n c.if-n-lt128.false c.if-n-lt256.true) (record { writes = c.put-then-n-lt256.ensures; next = refl })

pub put-requires-2 : goal.put-requires-2
put-requires-2 c = rw (three-octets c.args.n c.if-n-lt256.false) at c.requires.1

pub returns : goal.returns
returns c = rw (three-octets c.args.n c.if-n-lt256.false) (record { writes = c.put-2.ensures; next = refl })
