use native.Mathlib.Omega.{arith}
use mathlib.Core.Path.{sym, ◌∙◌}
use Rattle.codes.specs.Ids.{octet_of}
use Rattle.codes.proofs.IdLaws.{held-is}
use Rattle.writing.specs.Coded.{coded_octets}
use Rattle.writing.proofs.WriteLaws.{six-length}
use Rattle.sending.proofs.SendLaws.{facility-joined}
use Rattle.sending.proofs.put_coded.Goals as goal

pub returns-clause-writes : goal.returns-clause-writes
returns-clause-writes c =
    let a = c.args in
    let n = six-length a.tag 0x02 0x01 (octet_of a.id) 0x02 0x01 a.code a.p.now in
    let wrote = rw (held-is c.ranges.id) at c.write_coded.ensures.writes in
    facility-joined a.buf.now _ _ a.first _ (coded_octets a.tag a.id a.code a.p.now) (c.coded_length.ensures ∙ sym n) (omega arith) c.put.ensures wrote
