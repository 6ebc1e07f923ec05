-- One line of the writer's input, on each path through the code.
use Prim.Native.Nat.{ℕ, ◌≤◌}
use mathlib.Core.Path.{◌≡◌, refl, ◌∙◌}
use mathlib.Core.List.{List}
use mathlib.Core.Option.{Option, none, some}
use mathlib.Core.Bool.{Bool, true, false}
use Rattle.std.specs.Prelude.{Option as Maybe, None, Some, Result, Ok, Err}
use Rattle.trace.specs.Steps.{wrote}
use Rattle.trace.specs.declared.faults.Fault.{Fault}
use Rattle.trace.specs.declared.writing.Wrote.{Wrote}
use Rattle.trace_lines.specs.Told.{Begun, record_of, Next, goes, refuses, ends, followed}
use Rattle.trace_lines.specs.Desk.{kept_if, pen_if, pen_seen, Lined, NextLined}
use Rattle.trace_lines.specs.Book.{book_with, book_after, settled, or_goes_on, next_by, book_by}
use Rattle.trace_lines.specs.declared.book.Book.{Book}
use Rattle.trace_lines.specs.declared.told.Kind.{Kind}
use Rattle.trace_lines.specs.declared.told.Pen.{Pen}
use Rattle.trace_lines.proofs.ToldLaws.{followed-lined}

pub pen-kept : (there : Bool) (pen : Maybe Pen) (message : List ℕ) → pen_seen (pen_if there pen) message ≡ kept_if there (pen_seen pen message)
pen-kept true pen message = refl
pen-kept false pen message = refl

-- a book but for the line that is refused
abbrev pub refusing : Book → Maybe ℕ → Book
refusing book refused = record { is_open = book.is_open; number = book.number; is_full = book.is_full; refused = refused }

module _ (kind : Kind) (line : List ℕ) (n : ℕ) (begun : Option Begun) (held : List ℕ) (book after : Book) (e : after ≡ book_after (settled kind begun) held book) where
  pub turn-refused : (bad : ℕ) → after.refused ≡ Some bad → (refuses bad ≡ next_by kind line n begun held book) × (refusing after (Some bad) ≡ book_by kind line n begun held book)
  unfolding next_by book_by
  turn-refused bad h = rw (← e, h) (refl, refl)

  module _ (h : after.refused ≡ None) where
    pub turn-goes : (next : Option Begun) → goes next ≡ followed kind line n begun → (goes next ≡ next_by kind line n begun held book) × (after ≡ book_by kind line n begun held book)
    unfolding next_by book_by
    turn-goes next q = (rw (← e, h) q, (λ i. refusing after (h i)) ∙ rw (← e, h, ← q))

    pub turn-stops : (bad : ℕ) → refuses bad ≡ followed kind line n begun → (refuses bad ≡ next_by kind line n begun held book) × (refusing after (Some bad) ≡ book_by kind line n begun held book)
    unfolding next_by book_by
    turn-stops bad q = (rw (← e, h) q, rw (← e, h, ← q))

-- lines are counted from 1

kept-lined : (there : Bool) (begun : Option Begun) → Lined begun → Lined (kept_if there begun)
kept-lined true begun b = b
kept-lined false begun b = tt

book-lined : (begun : Option Begun) (held : List ℕ) (book : Book) (next : Next) → Lined begun → NextLined next → NextLined (or_goes_on (book_after begun held book).refused next)
unfolding book_after
book-lined none held book next b m = m
book-lined (some a) held book next b m = go (wrote held book.number (record_of a))
  where
    go : (w : Result Wrote Fault) → NextLined (or_goes_on (book_with book a.line w).refused next)
    go (Err f) = b
    go (Ok w) = m

pub next-lined : (kind : Kind) (line : List ℕ) (n : ℕ) (begun : Option Begun) (held : List ℕ) (book : Book) → 1 ≤ n → Lined begun → NextLined (next_by kind line n begun held book)
unfolding next_by
next-lined kind line n begun held book h b =
    book-lined (settled kind begun) held book (followed kind line n begun) (kept-lined (ends kind) begun b) (followed-lined kind line n begun h b)
