use Rattle.std.proofs.Common.{arith, suc, ◌≡◌, ◌+◌, cond, length, ltb, drop}
use borrow.Author.Tests.{lt-ltb, le-ltb}
use Rattle.words.specs.Lines.{line_end}
use Rattle.words.proofs.LineLaws.{end-is, end-within, next-whole, next-cut, gather-long, gather-on}
use Rattle.words.proofs.lines.gather.Goals as goal
use Rattle.words.proofs.lines.gather.Goals.{then-is_whole, else-is_whole}

pub overflow_add-end : goal.overflow_add-end
overflow_add-end c = let e = end-is c.args.input.now c.args.from c.line_end.result c.line_end.ensures in omega (arith, end-within c.args.input.now c.args.from _ c.requires.0 e)

pub returns-then-have-more-gt16384 : goal.returns-then-have-more-gt16384
returns-then-have-more-gt16384 c =
    let a = c.args in
    let end = a.from + c.line_end.result in
    let e : end ≡ a.from + line_end (drop a.from a.input.now) = end-is a.input.now a.from c.line_end.result c.line_end.ensures in
    let z : c.if-is_whole.next ≡ cond (ltb end (length a.input.now)) (suc end) end =
    elim c.if-is_whole.branch [
      | then-is_whole w ↦ next-whole _ end _ (lt-ltb _ _ w.if-is_whole.true) w.next-is
      | else-is_whole w ↦ next-cut _ end _ (le-ltb _ _ w.if-is_whole.false) w.next-is
    ] in
    let r = gather-long a.input.now a.line.now _ a.from a.have end _ c.requires.0 e c.part-more.ensures.octets z c.if-have-more-gt16384.true in
    record { gathered = r.0; line = r.1.0; within = r.1.1 }

pub returns : goal.returns
returns c =
    let a = c.args in
    let end = a.from + c.line_end.result in
    let e : end ≡ a.from + line_end (drop a.from a.input.now) = end-is a.input.now a.from c.line_end.result c.line_end.ensures in
    let z : c.if-is_whole.next ≡ cond (ltb end (length a.input.now)) (suc end) end =
    elim c.if-is_whole.branch [
      | then-is_whole w ↦ next-whole _ end _ (lt-ltb _ _ w.if-is_whole.true) w.next-is
      | else-is_whole w ↦ next-cut _ end _ (le-ltb _ _ w.if-is_whole.false) w.next-is
    ] in
    let r = gather-on a.input.now a.line.now _ a.from a.have end _ c.requires.0 e c.part-more.ensures.octets z _ (omega arith) c.put.ensures in
    record { gathered = r.0; line = r.1.0; within = r.1.1 }
