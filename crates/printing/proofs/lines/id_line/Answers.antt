use native.Mathlib.Omega.{arith}
use Rattle.codes.proofs.IdLaws.{held-is}
use Rattle.printing.specs.Numbers.{id_text}
use Rattle.printing.specs.Lines.{id_line}
use Rattle.printing.proofs.JoinLaws.{nothing, spaced}
use Rattle.printing.proofs.lines.id_line.Goals as goal

pub returns-then-not-there : goal.returns-then-not-there
returns-then-not-there c =
    let a = c.args in
    let n = nothing a.page.now a.at in
    rw (c.if-not-there.true) (n.0, (n.1, omega arith))

pub returns : goal.returns
unfolding id_line
returns c =
    let a = c.args in
    let t = rw (held-is c.ranges.id) at c.put_id-end.ensures in
    let j = spaced a.page.now a.at a.word.now (id_text a.id) _ _ _ _ _ _ _ _ (omega arith) c.put_words-behind.ensures c.put_words-place.ensures (t.0, t.1.0) c.put_words.ensures in
    rw (c.if-not-there.false) (j.0, (j.1, omega arith))
