use native.Mathlib.Omega.{arith}
use lib.ListN.{length}
use Rattle.printing.specs.Lines.{folded, octets_line}
use Rattle.printing.proofs.JoinLaws.{nothing, closed}
use Rattle.printing.proofs.lines.octets_line.Goals as goal

pub returns-then-not-there : goal.returns-then-not-there
returns-then-not-there c =
    let a = c.args in
    let n = nothing a.page.now a.at in
    rw (c.if-not-there.true) (n.0, (n.1, omega arith))

pub returns : goal.returns
unfolding octets_line
returns c =
    let a = c.args in
    let j = closed a.page.now a.at a.word.now (folded (length a.word.now) a.octets.now) _ _ _ _ _ _ (omega arith) c.put_words-behind.ensures (c.put_folded-last.ensures.0, c.put_folded-last.ensures.1.0) c.put_words.ensures in
    rw (c.if-not-there.false) (j.0, (j.1, omega arith))
