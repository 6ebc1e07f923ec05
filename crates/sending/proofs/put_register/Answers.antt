use native.Mathlib.Omega.{arith}
use mathlib.Core.Path.{sym, ◌∙◌}
use mathlib.Core.Option.{none}
use Rattle.codes.proofs.IdLaws.{held-is}
use Rattle.components.specs.Component.{invoke}
use Rattle.components.specs.Written.{component_octets}
use Rattle.writing.proofs.WriteLaws.{invoke-octets}
use Rattle.sending.proofs.SendLaws.{register-joined}
use Rattle.sending.proofs.put_register.Goals as goal

pub returns-clause-writes : goal.returns-clause-writes
returns-clause-writes c =
    let a = c.args in
    let n = invoke-octets a.id a.operation a.p.now in
    let wrote = rw (held-is c.ranges.id) at c.write_invoke-next.ensures.writes in
    let ended = rw (held-is c.ranges.id) at c.write_invoke-next.ensures.next in
    register-joined a.buf.now _ _ a.first _ (component_octets (invoke a.id none a.operation a.p.now)) (c.coded_length.ensures ∙ sym n) _ _ (omega arith) c.put.ensures wrote ended c.put-2.ensures
