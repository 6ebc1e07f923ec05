use Rattle.elements.proofs.ElementLaws.{one-octet, two-octets, three-octets}
use Rattle.elements.proofs.header_length.Goals as goal

pub returns-then-n-lt128 : goal.returns-then-n-lt128
returns-then-n-lt128 c = rw (one-octet c.args.n c.if-n-lt128.true)

pub returns-then-n-lt256 : goal.returns-then-n-lt256
returns-then-n-lt256 c = rw (two-octets c.args.n c.if-n-lt128.false c.if-n-lt256.true)

pub returns : goal.returns
returns c = rw (three-octets c.args.n c.if-n-lt256.false)
