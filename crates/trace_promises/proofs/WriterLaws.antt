-- The writer over lines: a record that ends goes behind the row that is held, or begins the next, and a bad one ends the writing.
use Prim.Native.Nat.{ℕ, suc, ◌+◌, ◌%◌}
use mathlib.Core.Path.{◌≡◌, refl, sym, ap, ◌∙◌}
use mathlib.Core.List.{List, [], ◌∷◌, ◌++◌}
use mathlib.Core.Option.{Option, none, some}
use mathlib.Core.Bool.{Bool, true, false, cond}
use native.Mathlib.Omega.{arith}
use Rattle.std.specs.Prelude.{Option as Maybe, None, Some}
use Rattle.trace.specs.Records.{Record, good_record}
use Rattle.trace.specs.Blocks.{block_of}
use Rattle.trace.specs.Writing.{fits, pack_from, packed, blocks_from}
use Rattle.trace.specs.Calls.{add_leaves}
use Rattle.trace.specs.Steps.{wrote, holds, hands_over}
use Rattle.trace_lines.specs.Told.{Begun, record_of, Next, goes, refuses, followed, ends, line_kind, Told, bad_at, finished, told_by, told_from}
use Rattle.trace_lines.specs.Desk.{kept_if}
use Rattle.trace_lines.specs.Book.{book_after, held_after, full_after, settled, or_goes_on, next_by, refused_on, book_by}
use Rattle.trace_lines.specs.declared.told.Kind.{Kind}
use Rattle.trace_lines.specs.declared.told.Kind.TheVariants.{Passed, Onward, First, Other}
use Rattle.trace_lines.specs.declared.book.Book.{Book}
use Rattle.trace_promises.specs.Programs.{Writes, behind, line_of, stops, unless_refused, begun_by, writes_from, line_or}
use Rattle.trace_promises.proofs.WrittenLaws.{Held, held_first, held_more, by-test}
use Rattle.trace_promises.proofs.Built.{held_none, fits-first, add-bad, add-good, add-leaves, add-next}

-- the row that is held: a block is open for it, or it is none
abbrev pub Opened : Bool → List Record → Type 0
Opened true row = Held row
Opened false row = row ≡ []

held_of : (opened : Bool) (row : List Record) → Opened opened row → Held row
held_of true row h = h
held_of false row h = rw h held_none

-- the rows of the records that come behind it
abbrev rows_of : Bool → List Record → List Record → List (List Record)
rows_of true row records = pack_from row records
rows_of false row records = packed records

-- what is due of what is told
abbrev pub due : Bool → ℕ → List Record → Told → Writes
due opened number row t = record { blocks = blocks_from number (rows_of opened row t.records); refused = line_or t.bad }

abbrev pub book_of : Bool → ℕ → Bool → Maybe ℕ → Book
book_of opened number full refused = record { is_open = opened; number = number % 4294967296; is_full = full; refused = refused }

-- where no record comes, the block that is held is the last
due-stops : (opened : Bool) (number : ℕ) (row : List Record) (full : Bool) (refused : Maybe ℕ) (bad : Option ℕ) → line_or bad ≡ line_of refused
    → stops (book_of opened number full refused) (block_of number row) ≡ due opened number row (record { records = []; bad = bad })
due-stops true number row full refused bad e = rw e
due-stops false number row full refused bad e = rw e

abbrev one_more : Record → Told → Told
one_more r t = record { records = r ∷ t.records; bad = t.bad }

-- a record that fits goes behind the row
due-fits : (opened : Bool) (number : ℕ) (row : List Record) (r : Record) (t : Told) → Opened opened row → fits row r ≡ true
    → due true number (row ++ (r ∷ [])) t ≡ due opened number row (one_more r t)
due-fits true number row r t h f = rw f
due-fits false number row r t h f = rw h

-- one that doesn't begins the next
due-full : (opened : Bool) (number : ℕ) (row : List Record) (r : Record) (t : Told) → Opened opened row → good_record r ≡ true → fits row r ≡ false
    → behind true (block_of number row) (due true (suc number) (r ∷ []) t) ≡ due opened number row (one_more r t)
due-full true number row r t h g f = rw f
due-full false number row r t h g f =
    let z : true ≡ false = sym (fits-first r g) ∙ (rw h at f) in
    cc

-- a record that ends, and then the rest of the writing
module _ (opened : Bool) (number : ℕ) (row : List Record) (h : Opened opened row) (full : List ℕ) (f : Bool) (refused : Maybe ℕ)
    (t : Told) (rest : Book → List ℕ → List ℕ → Writes)
    (goes_on_lem : (opened : Bool) (number : ℕ) (row : List Record) (f : Bool) (full : List ℕ) → Opened opened row
    → rest (book_of opened number f None) (block_of number row) full ≡ due opened number row t)
    (Ends-there : (opened : Bool) (number : ℕ) (row : List Record) (f : Bool) (full : List ℕ) (line : ℕ)
    → rest (book_of opened number f (Some line)) (block_of number row) full ≡ stops (book_of opened number f (Some line)) (block_of number row))
  where
    abbrev after_it : Option Begun → Writes
    after_it begun =
        behind (book_after begun (block_of number row) (book_of opened number f refused)).is_full (full_after begun (block_of number row) full)
        (rest (book_after begun (block_of number row) (book_of opened number f refused)) (held_after begun (block_of number row) (number % 4294967296)) (full_after begun (block_of number row) full))

    after_none : after_it none ≡ due opened number row t
    unfolding book_after held_after full_after
    after_none = goes_on_lem opened number row false full h

    module _ (b : Begun) where
      after-bad : good_record (record_of b) ≡ false → after_it (some b) ≡ due opened number row (bad_at b.line)
      unfolding book_after held_after full_after wrote holds hands_over add_leaves
      after-bad g =
          rw (add-bad number row (held_of opened row h) (record_of b) g)
          (Ends-there opened number row false full b.line ∙ due-stops opened number row false (Some b.line) (some b.line) refl)

      module _ (g : good_record (record_of b) ≡ true) where
        after-fits : fits row (record_of b) ≡ true → after_it (some b) ≡ due opened number row (one_more (record_of b) t)
        unfolding book_after held_after full_after wrote holds hands_over
        after-fits q =
            let k = held_of opened row h in
            rw (add-good number row k (record_of b) g, q, add-leaves number row k (record_of b) g q)
            (goes_on_lem true number (row ++ (record_of b ∷ [])) false full (held_more row (record_of b) k g q) ∙ due-fits opened number row (record_of b) t h q)

        after-full : fits row (record_of b) ≡ false → after_it (some b) ≡ due opened number row (one_more (record_of b) t)
        unfolding book_after held_after full_after wrote holds hands_over
        after-full q =
            let e : (number % 4294967296 + 1) % 4294967296 ≡ suc number % 4294967296 = omega arith in
            rw (add-good number row (held_of opened row h) (record_of b) g, q, e, add-next number (record_of b) g)
            (ap (behind true (block_of number row)) (goes_on_lem true (suc number) (record_of b ∷ []) true (block_of number row) (held_first (record_of b) g))
            ∙ due-full opened number row (record_of b) t h g q)

    after-record : (begun : Option Begun) → after_it begun ≡ due opened number row (finished begun t)
    after-record none = after_none
    after-record (some b) =
        by-test (λ (x : Told). after_it (some b) ≡ due opened number row x) (good_record (record_of b)) _ _
        (λ g. fit g (fits row (record_of b)) refl)
        (λ g. after-bad b g)
      where
        fit : good_record (record_of b) ≡ true → (w : Bool) → fits row (record_of b) ≡ w → after_it (some b) ≡ due opened number row (one_more (record_of b) t)
        fit g true q = after-fits b g q
        fit g false q = after-full b g q

-- what follows the record that a line ends
module _ (kind : Kind) (line : List ℕ) (n : ℕ) (begun : Option Begun) (others : List (List ℕ)) where
  abbrev next : Next
  next = followed kind line n begun

  abbrev next_after : Book → Next
  next_after book = or_goes_on book.refused next

  abbrev turned : Book → Book
  turned book = record { is_open = book.is_open; number = book.number; is_full = book.is_full; refused = refused_on (next_after book) }

  abbrev onward : Book → List ℕ → List ℕ → Writes
  onward book held full =
      unless_refused (turned book).refused (writes_from (begun_by (next_after book)) (turned book) held full (suc n) others) (stops (turned book) held)

  abbrev told_on : Told
  told_on = told_by next (λ later. told_from later (suc n) others)

  onward-refused : (opened : Bool) (number : ℕ) (row : List Record) (f : Bool) (full : List ℕ) (bad : ℕ)
      → onward (book_of opened number f (Some bad)) (block_of number row) full ≡ stops (book_of opened number f (Some bad)) (block_of number row)
  onward-refused opened number row f full bad = refl

  -- all that is asked of the lines behind it
  abbrev Goes : Type 0
  Goes = (begun : Option Begun) (opened : Bool) (number : ℕ) (row : List Record) (f : Bool) (refused : Maybe ℕ) (full : List ℕ) → Opened opened row
      → writes_from begun (book_of opened number f refused) (block_of number row) full (suc n) others ≡ due opened number row (told_from begun (suc n) others)

  onward-goes : Goes → (opened : Bool) (number : ℕ) (row : List Record) (f : Bool) (full : List ℕ) → Opened opened row
      → onward (book_of opened number f None) (block_of number row) full ≡ due opened number row told_on
  onward-goes on opened number row f full h = go next
    where
      go : (x : Next)
          → unless_refused (refused_on x) (writes_from (begun_by x) (book_of opened number f (refused_on x)) (block_of number row) full (suc n) others) (stops (book_of opened number f (refused_on x)) (block_of number row))
          ≡ due opened number row (told_by x (λ later. told_from later (suc n) others))
      go (goes later) = on later opened number row f None full h
      go (refuses bad) = due-stops opened number row f (Some bad) (some bad) refl

-- the record that a line ends, and what is told from that line on
told-step : (line : List ℕ) (n : ℕ) (begun : Option Begun) (others : List (List ℕ))
    → finished (settled (line_kind line) begun) (told_on (line_kind line) line n begun others) ≡ told_from begun n (line ∷ others)
unfolding told_from followed
told-step line n begun others = go (λ later. told_from later (suc n) others) (line_kind line)
  where
    go : (on : Option Begun → Told) (k : Kind) → finished (kept_if (ends k) begun) (told_by (followed k line n begun) on)
        ≡ cond (ends k) (finished begun (told_by (followed k line n none) on)) (told_by (followed k line n begun) on)
    go on Passed = refl
    go on Onward = refl
    go on (First direction at) = refl
    go on Other = refl

pub writes-from : (begun : Option Begun) (opened : Bool) (number : ℕ) (row : List Record) (f : Bool) (refused : Maybe ℕ) (full : List ℕ) (n : ℕ) (lines : List (List ℕ))
    → Opened opened row
    → writes_from begun (book_of opened number f refused) (block_of number row) full n lines ≡ due opened number row (told_from begun n lines)
unfolding told_from next_by book_by
writes-from begun opened number row f refused full n [] h =
    after-record opened number row h full f refused (record { records = []; bad = none }) (λ book held full. stops book held)
    (λ opened number row f full h. due-stops opened number row f None none refl)
    (λ opened number row f full line. refl)
    begun
writes-from begun opened number row f refused full n (line ∷ others) h =
    let kind : Kind = line_kind line in
    after-record opened number row h full f refused (told_on kind line n begun others) (onward kind line n begun others)
    (onward-goes kind line n begun others (λ begun opened number row f refused full h. writes-from begun opened number row f refused full (suc n) others h))
    (onward-refused kind line n begun others)
    (settled kind begun)
    ∙ ap (due opened number row) (told-step line n begun others)
