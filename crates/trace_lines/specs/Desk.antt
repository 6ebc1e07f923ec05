-- What the code's state says of the record that is begun.
use Rattle.std.specs.Prelude.{ℕ, ◌≤◌, ◌≡◌, List, Bool, cond, take, Option as Maybe, None, Some, Result, Ok, Err}
use Rattle.std.proofs.Math.Option.{Option, none, some}
use Rattle.trace_lines.specs.Told.{Begun, grown, Next, goes, refuses}
use Rattle.trace_lines.specs.declared.book.Book.{Book}
use Rattle.trace_lines.specs.declared.book.Turn.{Turn}
use Rattle.trace_lines.specs.declared.told.Pen.{Pen}

-- its octets are the first of a buffer
abbrev pub begun_seen : Pen → List ℕ → Begun
begun_seen pen message = record { direction = pen.direction; message = take pen.count message; line = pen.line }

abbrev pub pen_seen : Maybe Pen → List ℕ → Option Begun
pen_seen None message = none
pen_seen (Some pen) message = some (begun_seen pen message)

abbrev pub next_seen : Result (Maybe Pen) ℕ → List ℕ → Next
next_seen (Ok pen) message = goes (pen_seen pen message)
next_seen (Err line) message = refuses line

-- octets joined to those at the front of a buffer: so many there are then, or none
abbrev pub join_seen : Begun → List ℕ → Maybe ℕ → Option Begun
join_seen b after None = none
join_seen b after (Some n) = some (record { direction = b.direction; message = take n after; line = b.line })

-- the buffer has room for 255 octets
abbrev pub JoinWithin : Maybe ℕ → Type 0
JoinWithin None = Unit {0}
JoinWithin (Some n) = n ≤ 255

abbrev pub Joins : List ℕ → ℕ → List ℕ → List ℕ → Maybe ℕ → Type 0
Joins text count message after r = ((b : Begun) → b.message ≡ take count message → join_seen b after r ≡ grown b text) × JoinWithin r

abbrev pub count_of : Maybe Pen → ℕ
count_of None = 0
count_of (Some pen) = pen.count

abbrev pub Ready : Maybe Pen → Type 0
Ready pen = count_of pen ≤ 255

abbrev pub NextReady : Result (Maybe Pen) ℕ → Type 0
NextReady (Ok pen) = Ready pen
NextReady (Err line) = Unit {0}

abbrev pub Follows : Next → List ℕ → Result (Maybe Pen) ℕ → Type 0
Follows next after r = (next_seen r after ≡ next) × NextReady r

-- a turn of the writer: the line that is refused stands in the book
abbrev pub turn_seen : Turn → List ℕ → Next
turn_seen turn message = next_seen (turn_next turn.book.refused turn.pen) message
  where
    turn_next : Maybe ℕ → Maybe Pen → Result (Maybe Pen) ℕ
    turn_next None pen = Ok pen
    turn_next (Some line) pen = Err line

abbrev pub Turns : Next → List ℕ → Turn → Type 0
Turns next after turn = (turn_seen turn after ≡ next) × Ready turn.pen

abbrev pub refused_with : ℕ → Book → Turn
refused_with line book =
    record { pen = None; book = record { is_open = book.is_open; number = book.number; is_full = book.is_full; refused = Some line } }

-- the record that is begun, where a test holds; else none
abbrev pub kept_if : {A : Type 0} → Bool → Option A → Option A
kept_if there begun = cond there begun none

abbrev pub pen_if : Bool → Maybe Pen → Maybe Pen
pen_if there pen = cond there pen None

-- lines are counted from 1
abbrev pub Lined : Option Begun → Type 0
Lined none = Unit {0}
Lined (some b) = 1 ≤ b.line

abbrev pub NextLined : Next → Type 0
NextLined (goes begun) = Lined begun
NextLined (refuses n) = 1 ≤ n
