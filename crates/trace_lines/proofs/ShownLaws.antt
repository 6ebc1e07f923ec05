-- Lines that are printed: put together piece by piece, and record by record.
use Prim.Native.Nat.{ℕ, ◌+◌, ◌*◌, ◌-◌, ◌≤◌, ◌<◌}
use mathlib.Core.Path.{◌≡◌, refl, sym, ap, ◌∙◌}
use mathlib.Core.List.{List, [], ◌∷◌, ◌++◌, append-nil, append_assoc}
use mathlib.Core.Bool.{Bool, true, false, false≢true, cond, not}
use native.Mathlib.Omega.{arith}
use lib.ListN.{length, drop, length-append}
use lib.Seq.{drop-drop}
use lib.Dec.{eqb}
use borrow.Author.Tests.{ne_eqb}
use Rattle.octets.specs.Part.{between}
use Rattle.octets.specs.Reader.{Answer, fault, sound, Taken, and_then}
use Rattle.printing.specs.Page.{WroteWithin, Filled}
use Rattle.printing.specs.Lines.{octets_line, folded}
use Rattle.printing.proofs.FoldLaws.{folded-length}
use Rattle.trace.specs.Records.{Record, record_octets, records_of, trace_record, records_in}
use Rattle.trace.specs.Seen.{is_sound}
use Rattle.trace.proofs.RecordLaws.{records-none, records-step, records-bad, records-were, sound-step}
use Rattle.trace_lines.specs.Shown.{received, sent, word_of, four_line, block_word, refused_word, record_line, record_lines, refused_line, text_by, block_text}
use Rattle.trace_lines.specs.Listed.{listed_line, listed_lines}
use Rattle.trace.specs.Salvage.{Listed}
use Rattle.trace.specs.Blocks.{records_at, record_part, records_or, fault_of}
use Rattle.trace.proofs.FaultLaws.{at-sound}
use Rattle.trace.proofs.BlockLaws.{record-length}

-- one piece behind another
pub join : (page a b x y : List ℕ) → x ≡ page ++ a → y ≡ x ++ b → y ≡ page ++ (a ++ b)
join page a b x y e f = rw (f, e) (append_assoc page a b)

-- a line of records is at most 26 octets for each of theirs

word-length : (d : ℕ) → length (word_of d) ≤ 8
word-length d = go (eqb d 0)
  where
    go : (b : Bool) → length (cond b received sent) ≤ 8
    go true = omega arith
    go false = omega arith

line-length : (r : Record) → length (record_line r) ≤ 26 * length (record_octets r)
unfolding octets_line
line-length r =
    let w = word-length r.direction in
    let f = folded-length (length (word_of r.direction)) r.message in
    let l : length (record_line r) ≡ length (word_of r.direction) + length (folded (length (word_of r.direction)) r.message) + 1 = simp length-append in
    rw l (omega arith)

pub lines-length : (row : List Record) → length (record_lines row) ≤ 26 * length (records_of row)
unfolding record_lines
lines-length [] = omega arith
lines-length (r ∷ row) =
    let a = line-length r in
    let b = lines-length row in
    let l = length-append (record_line r) (record_lines row) in
    let k = length-append (record_octets r) (records_of row) in
    rw (l, k) (omega arith)

-- the lines of octets that are records

abbrev pub lines_at : List ℕ → List ℕ
lines_at s = record_lines (records_or (records_in s))

pub at_length : (s : List ℕ) → is_sound (records_in s) ≡ true → length (lines_at s) ≤ 26 * length s
at_length s h = go (records_in s) refl h
  where
    go : (o : Answer (List Record)) → records_in s ≡ o → is_sound o ≡ true → length (record_lines (records_or o)) ≤ 26 * length s
    go (fault n) e h = absurd (false≢true h)
    go (sound row) e h = let l = lines-length row in rw (records-were s row e) l

pub at-step : (s : List ℕ) (g : Taken Record) → trace_record s ≡ sound g → is_sound (records_in s) ≡ true → lines_at s ≡ record_line g.value ++ lines_at g.rest
unfolding record_lines
at-step s g e h = rw (records-step s g e) (go (records_in g.rest) (sound-step s g e ∙ h))
  where
    go : (o : Answer (List Record)) → is_sound o ≡ true
        → record_lines (records_or (and_then o (λ others. sound (g.value ∷ others)))) ≡ record_line g.value ++ record_lines (records_or o)
    go (fault n) h = absurd (false≢true h)
    go (sound row) h = refl

pub at_none : (s : List ℕ) → length s ≤ 0 → lines_at s ≡ []
unfolding record_lines
at_none [] h = rw records-none
at_none (a ∷ s) h = absurd (omega arith)

pub not-bad : (s : List ℕ) (n : ℕ) → 0 < length s → trace_record s ≡ fault n → is_sound (records_in s) ≡ true → ⊥
not-bad s n l e h = false≢true (sym (ap is_sound (records-bad s n l e)) ∙ h)

-- a part of what is left, as a part of the whole
pub part-behind : (i a e : ℕ) (s : List ℕ) → between (i + a) (i + e) s ≡ between a e (drop i s)
part-behind i a e s =
    let k : i + e - (i + a) ≡ e - a = omega arith in
    rw (k, drop-drop a i s)

-- a block: its refusal, or its records
pub text-refused : (place : ℕ) (b : List ℕ) (n : ℕ) → n ≡ fault_of (records_at place b) → (n ≡ 0 → ⊥) → four_line block_word place refused_word n ≡ block_text place b
unfolding block_text refused_line
text-refused place b n e h = go (records_at place b) e
  where
    go : (o : Answer (List Record)) → n ≡ fault_of o → four_line block_word place refused_word n ≡ text_by place o
    go (fault k) e = rw e
    go (sound row) e = absurd (h e)

pub text-sound : (place : ℕ) (b : List ℕ) → fault_of (records_at place b) ≡ 0 → lines_at (record_part b) ≡ block_text place b
unfolding block_text
text-sound place b e = let w = at-sound place b e in rw (w.1.0, w.1.1.records)

pub is-told : (n : ℕ) → (n ≡ 0 → ⊥) → true ≡ not (eqb n 0)
is-told n h = rw (ne_eqb n 0 h)

-- a line of the list, or none
pub one-listed : (l : Listed) → listed_line l ≡ listed_lines (l ∷ [])
unfolding listed_lines
one-listed l = sym (append-nil (listed_line l))

pub none-listed : [] ≡ listed_lines []
unfolding listed_lines
none-listed = refl

-- what was put on an empty page fills it
pub fills : (most more : ℕ) (page text line after : List ℕ) → page ≡ [] → line ≡ text → more ≤ most → WroteWithin more page line after → Filled most text after
fills most more page text line after e f l w =
    let z : length page ≡ 0 = ap length e in
    let m = w.1 in
    (w.0 ∙ (λ i. e i ++ f i), omega arith)

-- a sound block's records have room on the page
pub part-fits : (place : ℕ) (b : List ℕ) → fault_of (records_at place b) ≡ 0 → (is_sound (records_in (record_part b)) ≡ true) × (26 * length (record_part b) ≤ 13104)
part-fits place b e =
    let w = (at-sound place b e).1.1 in
    let l = record-length b w.long w.used in
    let u = w.used in
    (rw w.records, omega arith)
