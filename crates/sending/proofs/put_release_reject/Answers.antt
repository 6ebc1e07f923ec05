use native.Mathlib.Omega.{arith}
use mathlib.Core.Path.{sym, ◌∙◌}
use Rattle.places.specs.Seen.{id_seen}
use Rattle.components.specs.Component.{reject}
use Rattle.components.specs.Written.{component_octets}
use Rattle.writing.proofs.WriteLaws.{reject-octets, reject-bound}
use Rattle.sending.proofs.SendLaws.{release-joined}
use Rattle.sending.proofs.put_release_reject.Goals as goal

pub returns-clause-writes : goal.returns-clause-writes
returns-clause-writes c =
    let a = c.args in
    let n = reject-octets (id_seen a.id) a.tag a.problem in
    release-joined a.buf.now _ _ a.first _ (component_octets (reject (id_seen a.id) a.tag a.problem)) (c.reject_length.ensures ∙ sym n) (omega (arith, reject-bound (id_seen a.id))) c.put.ensures c.write_reject.ensures.writes
