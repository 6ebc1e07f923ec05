use Rattle.octets.proofs.PartLaws.{left_over, none_left}
use Rattle.trace_lines.proofs.ToldLaws.{some-octet, empty-line, comment-line, onward-line, received-line, sent-line, other-line}
use mathlib.Core.Path.{sym, ◌∙◌}
use Rattle.trace_lines.proofs.told.kind_of.Goals as goal

pub returns-then-is_empty : goal.returns-then-is_empty
returns-then-is_empty c = rw c.if-long.false (empty-line c.args.line.now _ c.word_at-first.ensures _ c.part-word.ensures.octets (none_left _ c.if-is_empty.ensures))

pub returns-then-word-eq35 : goal.returns-then-word-eq35
returns-then-word-eq35 c =
    rw c.if-long.false (comment-line c.args.line.now _ c.word_at-first.ensures _ c.part-word.ensures.octets (left_over _ c.if-is_empty.ensures) c.if-word-eq35.true)

pub bounds-line-0 : goal.bounds-line-0
bounds-line-0 c = some-octet c.args.line.now c.word_at-first.result _ c.part-word.ensures.octets (left_over _ c.if-is_empty.ensures)

pub returns-then-is_blank : goal.returns-then-is_blank
returns-then-is_blank c =
    rw c.if-long.false
    (onward-line c.args.line.now _ c.word_at-first.ensures _ c.part-word.ensures.octets (left_over _ c.if-is_empty.ensures) c.if-word-eq35.false (sym c.is_blank.ensures ∙ c.if-is_blank.true))

pub returns-then-is_same : goal.returns-then-is_same
returns-then-is_same c =
    rw c.if-long.false
    (received-line c.args.line.now _ c.word_at-first.ensures _ c.part-word.ensures.octets (left_over _ c.if-is_empty.ensures) c.if-word-eq35.false (sym c.is_blank.ensures ∙ c.if-is_blank.false)
    (sym c.is_same.ensures ∙ c.if-is_same.true))

pub returns-then-is_same-2 : goal.returns-then-is_same-2
returns-then-is_same-2 c =
    rw c.if-long.false
    (sent-line c.args.line.now _ c.word_at-first.ensures _ c.part-word.ensures.octets (left_over _ c.if-is_empty.ensures) c.if-word-eq35.false (sym c.is_blank.ensures ∙ c.if-is_blank.false)
    (sym c.is_same.ensures ∙ c.if-is_same.false) (sym c.is_same-2.ensures ∙ c.if-is_same-2.true))

pub returns : goal.returns
returns c =
    rw c.if-long.false
    (other-line c.args.line.now _ c.word_at-first.ensures _ c.part-word.ensures.octets (left_over _ c.if-is_empty.ensures) c.if-word-eq35.false (sym c.is_blank.ensures ∙ c.if-is_blank.false)
    (sym c.is_same.ensures ∙ c.if-is_same.false) (sym c.is_same-2.ensures ∙ c.if-is_same-2.false))
