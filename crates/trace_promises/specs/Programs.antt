-- What the programs' loops make of the functions that they call: block by block, or line by line, as src/main.rt has them.
use Rattle.std.specs.Prelude.{ℕ, suc, ◌≡◌, List, [], ◌∷◌, ◌++◌, Bool, false, cond, eqb, Option as Maybe, None, Some}
use Rattle.std.proofs.Math.Option.{Option, none, some}
use Rattle.trace.specs.Blocks.{zeros, records_at, fault_of}
use Rattle.trace.specs.Files.{blocks_in, joined}
use Rattle.trace.specs.Writing.{blocks_of}
use Rattle.trace.specs.Salvage.{fate_of, listed_by, mended_file}
use Rattle.trace.specs.Seen.{mended, is_kept}
use Rattle.trace_lines.specs.Shown.{block_text, reader_text}
use Rattle.trace_lines.specs.Listed.{listed_lines, salvage_text}
use Rattle.trace_lines.specs.Told.{Begun, Next, goes, refuses, line_kind, told}
use Rattle.trace_lines.specs.Book.{book_after, held_after, full_after, settled, next_by, book_by}
use Rattle.trace_lines.specs.declared.book.Book.{Book}

-- the reader goes on until a block is refused
abbrev pub shown_from : ℕ → List (List ℕ) → List ℕ
shown_from place [] = []
shown_from place (b ∷ others) = block_text place b ++ cond (eqb (fault_of (records_at place b)) 0) (shown_from (suc place) others) []

abbrev pub ReaderShows : Type 0
ReaderShows = (file : List ℕ) → shown_from 0 (blocks_in file) ≡ reader_text file

-- salvage writes a block that is kept, as it is mended, and counts it
pub record Given : Type 0 where
  pub blocks : List (List ℕ)
  pub text : List ℕ

abbrev pub ahead : Bool → List ℕ → List ℕ → Given → Given
ahead keeps block text behind = record { blocks = cond keeps (block ∷ behind.blocks) behind.blocks; text = text ++ behind.text }

abbrev pub given_from : ℕ → ℕ → List (List ℕ) → Given
given_from kept place [] = record { blocks = []; text = [] }
given_from kept place (b ∷ others) =
    ahead (is_kept (fate_of kept b)) (mended kept b (fate_of kept b)) (listed_lines (listed_by place (fate_of kept b)))
    (given_from (cond (is_kept (fate_of kept b)) (suc kept) kept) (suc place) others)

abbrev pub SalvageGives : Type 0
SalvageGives = (file : List ℕ) → (joined (given_from 0 0 (blocks_in file)).blocks ≡ mended_file file) × ((given_from 0 0 (blocks_in file)).text ≡ salvage_text file)

-- the writer: a block that was handed over is written, and where a line is refused or the input ends, the one that is held
pub record Writes : Type 0 where
  pub blocks : List (List ℕ)
  pub refused : ℕ

abbrev pub behind : Bool → List ℕ → Writes → Writes
behind is block others = record { blocks = cond is (block ∷ others.blocks) others.blocks; refused = others.refused }

-- 0 stands for none
abbrev pub line_of : Maybe ℕ → ℕ
line_of None = 0
line_of (Some n) = n

abbrev pub stops : Book → List ℕ → Writes
stops book held = record { blocks = cond book.is_open (held ∷ []) []; refused = line_of book.refused }

abbrev pub unless_refused : Maybe ℕ → Writes → Writes → Writes
unless_refused None others stopped = others
unless_refused (Some n) others stopped = stopped

abbrev pub begun_by : Next → Option Begun
begun_by (goes begun) = begun
begun_by (refuses n) = none

abbrev pub writes_from : Option Begun → Book → List ℕ → List ℕ → ℕ → List (List ℕ) → Writes
writes_from begun book held full n [] =
    behind (book_after begun held book).is_full (full_after begun held full) (stops (book_after begun held book) (held_after begun held book.number))
writes_from begun book held full n (line ∷ others) =
    behind (book_by (line_kind line) line n begun held book).is_full (full_after (settled (line_kind line) begun) held full)
    (unless_refused (book_by (line_kind line) line n begun held book).refused
    (writes_from (begun_by (next_by (line_kind line) line n begun held book)) (book_by (line_kind line) line n begun held book)
    (held_after (settled (line_kind line) begun) held book.number) (full_after (settled (line_kind line) begun) held full) (suc n) others)
    (stops (book_by (line_kind line) line n begun held book) (held_after (settled (line_kind line) begun) held book.number)))

abbrev pub line_or : Option ℕ → ℕ
line_or none = 0
line_or (some n) = n

-- from 512 zeros, which are the empty block 0
abbrev pub WriterWrites : Type 0
WriterWrites = (full : List ℕ) (lines : List (List ℕ))
    → writes_from none (record { is_open = false; number = 0; is_full = false; refused = None }) (zeros 512) full 1 lines
    ≡ record { blocks = blocks_of (told lines).records; refused = line_or (told lines).bad }
