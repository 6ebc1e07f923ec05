use native.Mathlib.Omega.{arith}
use Rattle.printing.specs.Numbers.{decimal}
use Rattle.printing.specs.Lines.{number_line}
use Rattle.printing.proofs.JoinLaws.{nothing, spaced}
use Rattle.printing.proofs.lines.number_line.Goals as goal

pub returns-then-not-there : goal.returns-then-not-there
returns-then-not-there c =
    let a = c.args in
    let n = nothing a.page.now a.at in
    rw (c.if-not-there.true) (n.0, (n.1, omega arith))

pub returns : goal.returns
unfolding number_line
returns c =
    let a = c.args in
    let j = spaced a.page.now a.at a.word.now (decimal a.n) _ _ _ _ _ _ _ _ (omega arith) c.put_words-behind.ensures c.put_words-place.ensures (c.put_decimal-end.ensures.0, c.put_decimal-end.ensures.1.0) c.put_words.ensures in
    rw (c.if-not-there.false) (j.0, (j.1, omega arith))
