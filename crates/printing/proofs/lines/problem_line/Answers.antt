use mathlib.Core.List.{[], ◌∷◌, ◌++◌}
use native.Mathlib.Omega.{arith}
use Rattle.printing.specs.Numbers.{decimal, pair}
use Rattle.printing.specs.Lines.{problem_line}
use Rattle.printing.proofs.JoinLaws.{nothing, join, spaced}
use Rattle.printing.proofs.lines.problem_line.Goals as goal

pub returns-then-not-there : goal.returns-then-not-there
returns-then-not-there c =
    let a = c.args in
    let n = nothing a.page.now a.at in
    rw (c.if-not-there.true) (n.0, (n.1, omega arith))

pub returns : goal.returns
unfolding problem_line pair
returns c =
    let a = c.args in
    let w = join a.page.now a.at (112 ∷ 114 ∷ 111 ∷ 98 ∷ 108 ∷ 101 ∷ 109 ∷ 32 ∷ []) (pair a.tag) _ _ _ _ (omega arith) c.put_words-behind.ensures (c.put_pair-place.ensures.writes, c.put_pair-place.ensures.next) in
    let j = spaced a.page.now a.at ((112 ∷ 114 ∷ 111 ∷ 98 ∷ 108 ∷ 101 ∷ 109 ∷ 32 ∷ []) ++ pair a.tag) (decimal a.problem) _ _ _ _ _ _ _ _ (omega arith) w c.put_words-blank.ensures (c.put_decimal-end.ensures.0, c.put_decimal-end.ensures.1.0) c.put_words.ensures in
    rw (c.if-not-there.false) (j.0, (j.1, omega arith))
