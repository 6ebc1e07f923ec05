use Rattle.trace_lines.specs.Book.{book_after, held_after, full_after}
use mathlib.Core.Path.{refl}
use Rattle.trace_lines.proofs.book.finish.Goals as goal

pub returns-in_default : goal.returns-in_default
unfolding book_after held_after full_after
returns-in_default c = rw c.in_default.is (record { book = refl; held = refl; full = refl })

pub returns-in_default-write_record : goal.returns-in_default-write_record
unfolding book_after held_after full_after
returns-in_default-write_record c =
    let w = c.in_default-write_record.ensures in
    rw (c.in-Some.is, ← w.answer) (record { book = refl; held = w.held; full = w.full })

pub returns : goal.returns
unfolding book_after held_after full_after
returns c =
    let w = c.in-Ok.ensures in
    rw (c.in-Some.is, ← w.answer) (record { book = refl; held = w.held; full = w.full })
