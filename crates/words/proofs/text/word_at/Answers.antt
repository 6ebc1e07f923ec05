use Rattle.std.proofs.Common.{arith, ◌+◌}
use Rattle.words.proofs.WordLaws.{behind-blanks, behind-letters, word-is}
use Rattle.words.proofs.text.word_at.Goals as goal

pub overflow_add-start : goal.overflow_add-start
overflow_add-start c = omega (arith, c.blanks.ensures, behind-blanks c.args.s.now c.part.result.now c.args.at c.part.ensures.octets)

pub overflow_add-end : goal.overflow_add-end
overflow_add-end c =
    omega (arith, c.blanks.ensures, c.letters.ensures, behind-blanks c.args.s.now c.part.result.now c.args.at c.part.ensures.octets, behind-letters c.args.s.now c.part-2.result.now (c.args.at + c.blanks.result) c.part-2.ensures.octets)

pub returns : goal.returns
returns c = word-is c.args.s.now c.part.result.now c.part-2.result.now c.args.at _ _ c.part.ensures.octets c.blanks.ensures c.part-2.ensures.octets c.letters.ensures
