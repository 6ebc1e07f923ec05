-- The bench: each line's answer, and what it leaves for the lines behind it.
use Rattle.std.specs.Prelude.{ℕ, ◌≤◌, ◌≡◌, List, [], ◌∷◌, ◌++◌, Bool, true, false, cond, length, take, drop, replicate, leb, ltb, Option, None, Some, Result as OrElse, Ok, Err}
use Rattle.octets.specs.Reader.{is_empty}
use Rattle.octets.specs.Splice.{splice}
use Rattle.printing.specs.Page.{Filled}
use Rattle.printing.specs.Numbers.{decimal}
use Rattle.printing.specs.Lines.{octets_line, number_line}
use Rattle.words.specs.Hex.{HexOctets, hex}
use Rattle.words.specs.Commands as commands
use Rattle.words.specs.declared.Ending.{Ending}
use Rattle.words.specs.declared.Ending.TheVariants.{Whole, Wrong, Long}
use Rattle.words.specs.declared.Command.{Command}
use Rattle.words.specs.declared.NotUnderstood.{NotUnderstood}
use Rattle.words.specs.declared.Command.TheVariants.{Receive, Begin, Invoke, Result, Error, Release, Table, Buffer, Batch}
use Rattle.telephone.specs.Outcome.{Outcome}
use Rattle.telephone.specs.Receive.{receive}
use Rattle.telephone.specs.Calls.{begin, invoke_within, result, error, release}
use Rattle.telephone.specs.Batch.{Batch as BatchOutcome, batch}
use Rattle.telephone.specs.FromC.{received_of, called_of, batched_of}
use Rattle.words.specs.Lines.{longest}
use Rattle.answers.specs.declared.answer.Held.{Held}
use Rattle.answers.specs.declared.answer.Asks.{Asks}
use Rattle.answers.specs.declared.answer.Asks.TheVariants.{Room, Image, Call}
use Rattle.reports.specs.Words.{table_word, buffer_word, line_word, table_set, not_understood_words, too_long_words}
use Rattle.reports.specs.Shown.{received_text, called_text}
use Rattle.reports.specs.Slots.{batched_text}

-- what goes on from line to line: "the image", "the reply buffer's length"
pub record State : Type 0 where
  pub table : List ℕ
  pub room : ℕ

-- "The table starts all zero"
abbrev pub starting : ℕ → ℕ → State
starting size room = record { table = replicate size 0; room = room }

pub record Said : Type 0 where
  pub text : List ℕ
  pub state : State

abbrev pub says : List ℕ → State → Said
says text s = record { text = text; state = s }

-- "`line N not understood` and changes nothing"
unfoldable pub not_understood : ℕ → List ℕ
not_understood n = line_word ++ decimal n ++ not_understood_words

unfoldable pub too_long : ℕ → List ℕ
too_long n = line_word ++ decimal n ++ too_long_words

-- "the buffer is cleared before each call"
abbrev pub cleared : ℕ → List ℕ
cleared room = replicate room 0

-- a message received, a call or a batch made: what is printed, and the table afterwards
pub record Made : Type 0 where
  pub text : List ℕ
  pub table : List ℕ

abbrev pub received : List ℕ → Outcome → Made
received m o = record { text = received_text m o.buffer (received_of (length m) o); table = o.table }

abbrev pub made_call : Bool → Outcome → Made
made_call begins o = record { text = called_text begins o.buffer (called_of o); table = o.table }

-- "The output is as long as `buffer N` says, cleared beforehand"
abbrev pub made_batch : BatchOutcome → Made
made_batch b = record { text = batched_text b.output (batched_of b); table = b.table }

abbrev pub idle : List ℕ → Made
idle t = record { text = []; table = t }

-- with the octets of the line; the other commands make no call
unfoldable pub made : List ℕ → List ℕ → List ℕ → Command → Made
made t buffer p (Receive at) = received p (receive t p buffer)
made t buffer p (Begin operation id at) = made_call true (begin t buffer operation id p)
made t buffer p (Invoke flag value operation id at) = made_call false (invoke_within t buffer flag value operation id p)
made t buffer p (Result flag value id at) = made_call false (result t buffer flag value id p)
made t buffer p (Error flag value id code at) = made_call false (error t buffer flag value id code p)
made t buffer p (Release flag value) = made_call false (release t buffer flag value)
made t buffer p (Batch at) = made_batch (batch t p buffer)
made t buffer p (Table at) = idle t
made t buffer p (Buffer n) = idle t

abbrev pub call : Command → State → List ℕ → Said
call c s p = says (made s.table (cleared s.room) p c).text (record { table = (made s.table (cleared s.room) p c).table; room = s.room })

-- "`table HEX` sets the image (1 to 300 octets, right or wrong) and answers `table set`, `table` alone prints it"
unfoldable pub image : ℕ → State → List ℕ → Said
image n s p =
    cond (is_empty p) (says (octets_line table_word s.table ++ (10 ∷ [])) s)
    (cond (leb (length p) 300) (says table_set (record { table = p; room = s.room }))
    (says (not_understood n) s))

-- what a command asks for: the room, the image or a call with the octets from a place on
abbrev pub asks_of : ℕ → Command → Asks
asks_of end (Buffer n) = Room n
asks_of end (Table at) = Image at
asks_of end (Receive at) = Call at
asks_of end (Begin operation id at) = Call at
asks_of end (Invoke flag value operation id at) = Call at
asks_of end (Result flag value id at) = Call at
asks_of end (Error flag value id code at) = Call at
asks_of end (Release flag value) = Call end
asks_of end (Batch at) = Call at

-- "octets over 4,096 in a line likewise, `line N too long`"
abbrev pub unless_whole : ℕ → State → Ending → Said → Said
unless_whole n s Whole said = said
unless_whole n s Wrong said = says (not_understood n) s
unless_whole n s Long said = says (too_long n) s

-- the octets of a line, from a place up to its end
abbrev pub octets_at : List ℕ → ℕ → HexOctets
octets_at line at = hex 4096 (drop at line)

unfoldable pub on_octets : ℕ → List ℕ → ℕ → Bool → Command → State → Said
on_octets n line at isImage c s =
    unless_whole n s (octets_at line at).ends (cond isImage (image n s (octets_at line at).octets) (call c s (octets_at line at).octets))

unfoldable pub by_asks : ℕ → List ℕ → Command → State → Asks → Said
by_asks n line c s (Room room) = says (number_line buffer_word room ++ (10 ∷ [])) (record { table = s.table; room = room })
by_asks n line c s (Image at) = on_octets n line at true c s
by_asks n line c s (Call at) = on_octets n line at false c s

unfoldable pub by_command : ℕ → List ℕ → State → OrElse (Option Command) NotUnderstood → Said
by_command n line s (Ok None) = says [] s
by_command n line s (Ok (Some c)) = by_asks n line c s (asks_of (length line) c)
by_command n line s (Err e) = says (not_understood n) s

unfoldable pub answer : ℕ → List ℕ → State → Said
answer n line s = by_command n line s (commands.command line)

-- a line as it was gathered: "`line N too long`"
unfoldable pub answer_line : ℕ → List ℕ → ℕ → State → Said
answer_line n line have s = cond (ltb longest have) (says (too_long n) s) (answer n (take have line) s)

-- "`buffer N`, 0 to 300"
abbrev pub InRoom : Asks → Type 0
InRoom (Room room) = room ≤ 300
InRoom (Image at) = Unit {0}
InRoom (Call at) = Unit {0}

-- What is promised of a call that is made: the table afterwards, and the text on the page.
abbrev pub Makes : Made → List ℕ → List ℕ → Type 0
Makes m table page = (table ≡ m.table) × Filled 70000 m.text page

-- of an answer: its text on the page, and what it leaves for the lines behind it
abbrev pub AnswersLine : Said → State → List ℕ → Type 0
AnswersLine said after page = (after ≡ said.state) × Filled 70000 said.text page

-- what is held from line to line, as a state: the image stands at the front of its space
abbrev pub bench_state : List ℕ → Held → State
bench_state space held = record { table = take held.size space; room = held.room }

-- what is held of an answer
abbrev pub held_of : Said → Held
held_of d = record { size = length d.state.table; room = d.state.room; written = length d.text }

abbrev pub Sound : Held → Type 0
Sound h = (h.size ≤ 300) × ((h.room ≤ 300) × (h.written ≤ 70000))

-- of an answer over what is lent: what it says of the image and in its text, and what is held of both
abbrev pub AnswersLent : Said → List ℕ → List ℕ → List ℕ → List ℕ → Held → Type 0
AnswersLent said space image page after held =
    (image ≡ splice space 0 said.state.table) × ((after ≡ splice page 0 said.text) × ((held ≡ held_of said) × Sound held))
