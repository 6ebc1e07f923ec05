use native.Mathlib.Omega.{arith}
use mathlib.Core.Path.{sym, ◌∙◌}
use Rattle.codes.proofs.IdLaws.{held-is}
use Rattle.components.specs.Written.{component_octets, result_for}
use Rattle.writing.proofs.WriteLaws.{answer-octets}
use Rattle.sending.proofs.SendLaws.{facility-joined}
use Rattle.sending.proofs.put_answer.Goals as goal

pub returns-clause-writes : goal.returns-clause-writes
returns-clause-writes c =
    let a = c.args in
    let n = answer-octets a.id a.operation a.p.now in
    let wrote = rw (held-is c.ranges.id) at c.write_answer.ensures.writes in
    facility-joined a.buf.now _ _ a.first _ (component_octets (result_for a.id a.operation a.p.now)) (c.answer_length.ensures ∙ sym n) (omega arith) c.put.ensures wrote
