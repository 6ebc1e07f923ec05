use Rattle.trace_lines.proofs.ToldLaws.{lined-by}
use Rattle.trace_lines.proofs.TurnLaws.{pen-kept, turn-refused, turn-goes, turn-stops, next-lined}
use Rattle.trace_lines.specs.Book.{book_after, held_after, full_after}
use Rattle.trace_lines.specs.Desk.{pen_if, pen_seen}
use Rattle.trace_lines.specs.Told.{ends, followed, kind_if}
use mathlib.Core.Path.{◌∙◌, ap}
use native.Mathlib.Omega.{arith}
use Rattle.trace_lines.proofs.book.take_line.Goals as goal

pub returns-in-Some : goal.returns-in-Some
returns-in-Some c =
    let a = c.args in
    let begun = pen_seen a.turn.pen a.message.now in
    let kind = kind_if a.long a.line.now in
    let s = ap (λ p. pen_seen p a.message.now) (c.pen_if.ensures ∙ ap (λ t. pen_if t a.turn.pen) (c.is_ending-ended.ensures ∙ ap ends c.kind_of-kind.ensures)) ∙ pen-kept (ends kind) a.turn.pen a.message.now in
    let e = c.finish-book.ensures.book ∙ ap (λ t. book_after t a.held.now a.turn.book) s in
    let w = turn-refused kind a.line.now a.n begun a.held.now a.turn.book _ e c.in-Some.refused c.in-Some.is in
    rw c.refuse.ensures
    (record { next = (w.0, omega arith); lined = λ h b. lined-by _ _ w.0 (next-lined kind a.line.now a.n begun a.held.now a.turn.book h b); book = w.1; held = c.finish-book.ensures.held ∙ ap (λ t. held_after t a.held.now a.turn.book.number) s; full = c.finish-book.ensures.full ∙ ap (λ t. full_after t a.held.now a.full.now) s })

pub returns-in-Ok : goal.returns-in-Ok
returns-in-Ok c =
    let a = c.args in
    let begun = pen_seen a.turn.pen a.message.now in
    let kind = kind_if a.long a.line.now in
    let s = ap (λ p. pen_seen p a.message.now) (c.pen_if.ensures ∙ ap (λ t. pen_if t a.turn.pen) (c.is_ending-ended.ensures ∙ ap ends c.kind_of-kind.ensures)) ∙ pen-kept (ends kind) a.turn.pen a.message.now in
    let e = c.finish-book.ensures.book ∙ ap (λ t. book_after t a.held.now a.turn.book) s in
    let w = turn-goes kind a.line.now a.n begun a.held.now a.turn.book _ e c.in_default.is _ (c.in-Ok.ensures.next.0 ∙ ap (λ t. followed t a.line.now a.n begun) c.kind_of-kind.ensures) in
    record { next = rw c.in_default.is (w.0, c.in-Ok.ensures.next.1); lined = rw c.in_default.is (λ h b. lined-by _ _ w.0 (next-lined kind a.line.now a.n begun a.held.now a.turn.book h b)); book = w.1; held = c.finish-book.ensures.held ∙ ap (λ t. held_after t a.held.now a.turn.book.number) s; full = c.finish-book.ensures.full ∙ ap (λ t. full_after t a.held.now a.full.now) s }

pub returns-in-Err : goal.returns-in-Err
returns-in-Err c =
    let a = c.args in
    let begun = pen_seen a.turn.pen a.message.now in
    let kind = kind_if a.long a.line.now in
    let s = ap (λ p. pen_seen p a.message.now) (c.pen_if.ensures ∙ ap (λ t. pen_if t a.turn.pen) (c.is_ending-ended.ensures ∙ ap ends c.kind_of-kind.ensures)) ∙ pen-kept (ends kind) a.turn.pen a.message.now in
    let e = c.finish-book.ensures.book ∙ ap (λ t. book_after t a.held.now a.turn.book) s in
    let w = turn-stops kind a.line.now a.n begun a.held.now a.turn.book _ e c.in_default.is _ (c.in-Err.ensures.next.0 ∙ ap (λ t. followed t a.line.now a.n begun) c.kind_of-kind.ensures) in
    rw c.refuse-in-Err.ensures
    (record { next = (w.0, omega arith); lined = λ h b. lined-by _ _ w.0 (next-lined kind a.line.now a.n begun a.held.now a.turn.book h b); book = w.1; held = c.finish-book.ensures.held ∙ ap (λ t. held_after t a.held.now a.turn.book.number) s; full = c.finish-book.ensures.full ∙ ap (λ t. full_after t a.held.now a.full.now) s })
