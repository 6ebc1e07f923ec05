use native.Mathlib.Omega.{arith}
use Rattle.writing.proofs.WriteLaws.{pieces}
use Rattle.writing.proofs.write_enclosed.Goals as goal

pub returns-clause-writes : goal.returns-clause-writes
returns-clause-writes c =
    let a = c.args in
    pieces a.buf.now _ _ _ a.at a.tag a.head.now a.tail.now _ _ c.requires.1 c.write_header-next.ensures.writes c.write_header-next.ensures.next c.put.ensures c.put-2.ensures (omega arith)
