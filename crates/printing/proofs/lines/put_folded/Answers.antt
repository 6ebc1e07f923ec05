use mathlib.Core.Path.{sym, ◌∙◌}
use native.Mathlib.Omega.{arith}
use lib.ListN.{drop}
use Rattle.printing.specs.Lines.{folded}
use Rattle.printing.proofs.FoldLaws.{folded-length, first, none_left}
use Rattle.printing.proofs.JoinLaws.{piece, ended}
use Rattle.printing.proofs.lines.put_folded.Goals as goal

pub loop-octet-preserved : goal.loop-octet-preserved
loop-octet-preserved c =
    let a = c.args in
    let l = c.loop-octet in
    let p = c.put_next-place in
    let b = folded-length a.column a.octets.now in
    let f = first l.width l.octet-index a.octets.now (omega arith) in
    let t = piece l.page l.place (folded l.width (drop l.octet-index a.octets.now)) _ _ p.new.page p.result f (omega arith) (p.ensures.0, p.ensures.1.0) in
    (omega arith, (p.auto.page ∙ l.invariant.1.0, rw c.next_column-width.ensures (t.0 ∙ l.invariant.1.1.0, t.1 ∙ l.invariant.1.1.1)))

pub returns : goal.returns
returns c =
    let l = c.loop-octet in
    let e = ended l.page l.place (folded l.width (drop l.octet-index c.args.octets.now)) (none_left l.width l.octet-index c.args.octets.now (omega arith)) in
    (sym e.0 ∙ l.invariant.1.1.0, (omega arith, omega arith))
