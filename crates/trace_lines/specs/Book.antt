-- The writer over lines: a record that ends is written; a bad one ends the writing, and the line on which it begins is told.
use Rattle.std.specs.Prelude.{ℕ, List, true, false, Option as Maybe, None, Some, Result, Ok, Err}
use Rattle.std.proofs.Math.Option.{Option, none, some}
use Rattle.trace.specs.Steps.{wrote, holds, hands_over}
use Rattle.trace.specs.declared.faults.Fault.{Fault}
use Rattle.trace.specs.declared.writing.Wrote.{Wrote}
use Rattle.trace_lines.specs.Told.{Begun, record_of, Next, goes, refuses, ends, followed}
use Rattle.trace_lines.specs.Desk.{kept_if}
use Rattle.trace_lines.specs.declared.told.Kind.{Kind}
use Rattle.trace_lines.specs.declared.book.Book.{Book}

abbrev pub stays : Book → Maybe ℕ → Book
stays book refused = record { is_open = book.is_open; number = book.number; is_full = false; refused = refused }

abbrev pub book_with : Book → ℕ → Result Wrote Fault → Book
book_with book line (Err f) = stays book (Some line)
book_with book line (Ok w) = record { is_open = true; number = w.number; is_full = w.is_full; refused = None }

unfoldable pub book_after : Option Begun → List ℕ → Book → Book
book_after none held book = stays book None
book_after (some b) held book = book_with book b.line (wrote held book.number (record_of b))

unfoldable pub held_after : Option Begun → List ℕ → ℕ → List ℕ
held_after none held number = held
held_after (some b) held number = holds held number (record_of b)

unfoldable pub full_after : Option Begun → List ℕ → List ℕ → List ℕ
full_after none held full = full
full_after (some b) held full = hands_over full held (record_of b)

-- one line: the record that it ends, and what is begun behind it
abbrev pub settled : Kind → Option Begun → Option Begun
settled kind begun = kept_if (ends kind) begun

abbrev pub or_goes_on : Maybe ℕ → Next → Next
or_goes_on None next = next
or_goes_on (Some line) next = refuses line

unfoldable pub next_by : Kind → List ℕ → ℕ → Option Begun → List ℕ → Book → Next
next_by kind line n begun held book =
    or_goes_on (book_after (settled kind begun) held book).refused (followed kind line n begun)

abbrev pub refused_on : Next → Maybe ℕ
refused_on (goes begun) = None
refused_on (refuses n) = Some n

unfoldable pub book_by : Kind → List ℕ → ℕ → Option Begun → List ℕ → Book → Book
book_by kind line n begun held book =
    record {
      is_open = (book_after (settled kind begun) held book).is_open;
      number = (book_after (settled kind begun) held book).number;
      is_full = (book_after (settled kind begun) held book).is_full;
      refused = refused_on (next_by kind line n begun held book);
    }
