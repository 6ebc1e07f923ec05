-- The programs' loops: the reader over blocks, salvage over blocks, the writer over lines.
use Prim.Native.Nat.{ℕ, suc, ◌+◌}
use mathlib.Core.Path.{◌≡◌, refl, sym, ap, ◌∙◌}
use mathlib.Core.List.{List, [], ◌∷◌, ◌++◌, append_assoc, append-nil}
use mathlib.Core.Option.{none}
use mathlib.Core.Bool.{Bool, true, false, cond}
use native.Mathlib.Omega.{arith}
use lib.ListN.{length}
use lib.Dec.{eqb}
use borrow.Author.Tests.{eqb-true, eqb-false}
use Rattle.std.specs.Prelude.{None}
use Rattle.octets.specs.Reader.{Answer, fault, sound}
use Rattle.trace.specs.Records.{Record}
use Rattle.trace.specs.Blocks.{records_at, fault_of}
use Rattle.trace.specs.Files.{Reading, blocks_in, joined, read_on, read_from, read_file}
use Rattle.trace.specs.Writing.{blocks_of}
use Rattle.trace.specs.Salvage.{fate_of, written_by, Listed, listed_by, Salvaged, salvage_from, salvaged, mended_file}
use Rattle.trace.specs.Seen.{mended, is_kept}
use Rattle.trace.specs.declared.Fate.{Fate}
use Rattle.trace.specs.declared.Fate.TheVariants.{Kept, Renumbered, Dropped, Short}
use Rattle.trace.proofs.FaultLaws.{at-sound}
use Rattle.trace_lines.specs.Shown.{record_line, record_lines, text_by, block_text, last_line, reader_text}
use Rattle.trace_lines.specs.Listed.{listed_line, listed_lines, salvage_text}
use Rattle.trace_lines.specs.Told.{told}
use Rattle.trace_promises.specs.Programs.{shown_from, ReaderShows, Given, ahead, given_from, SalvageGives, writes_from, WriterWrites}
use Rattle.trace_promises.proofs.Built.{empty-zeros}
use Rattle.trace_promises.proofs.WriterLaws.{book_of, writes-from}

-- the reader

lines-joined : (a b : List Record) → record_lines (a ++ b) ≡ record_lines a ++ record_lines b
unfolding record_lines
lines-joined [] b = refl
lines-joined (r ∷ a) b = ap (λ (t : List ℕ). record_line r ++ t) (lines-joined a b) ∙ sym (append_assoc (record_line r) (record_lines a) (record_lines b))

-- what is printed of a reading
abbrev text_of : Reading → List ℕ
text_of reading = record_lines reading.records ++ last_line reading.refused

-- a block without a fault, and others behind it
sound-text : (place : ℕ) (row : List Record) (others : Reading) → record_lines row ++ text_of others ≡ text_of (read_on place (sound row) others)
sound-text place row others =
    sym (append_assoc (record_lines row) (record_lines others.records) (last_line others.refused))
    ∙ ap (λ (t : List ℕ). t ++ last_line others.refused) (sym (lines-joined row others.records))

-- a refused one ends the text
fault-text : (place n : ℕ) (others : Reading) → text_by place (fault n) ++ [] ≡ text_of (read_on place (fault n) others)
unfolding record_lines
fault-text place n others = append-nil (text_by place (fault n))

shown-from : (place : ℕ) (blocks : List (List ℕ)) → shown_from place blocks ≡ text_of (read_from place blocks)
unfolding read_from record_lines block_text
shown-from place [] = refl
shown-from place (b ∷ others) = go (eqb (fault_of (records_at place b)) 0) refl (shown-from (suc place) others)
  where
    ended : (o : Answer (List Record)) → eqb (fault_of o) 0 ≡ false → text_by place o ++ [] ≡ text_of (read_on place o (read_from (suc place) others))
    ended (fault n) e = fault-text place n (read_from (suc place) others)
    ended (sound row) e = absurd (eqb-false 0 0 e refl)

    go : (t : Bool) → eqb (fault_of (records_at place b)) 0 ≡ t → shown_from (suc place) others ≡ text_of (read_from (suc place) others)
        → block_text place b ++ cond t (shown_from (suc place) others) [] ≡ text_of (read_on place (records_at place b) (read_from (suc place) others))
    go true e on = let w = at-sound place b (eqb-true (fault_of (records_at place b)) 0 e) in rw (w.1.0, on) (sound-text place w.0 (read_from (suc place) others))
    go false e on = ended (records_at place b) e

pub reader-shows : ReaderShows
unfolding reader_text read_file
reader-shows file = shown-from 0 (blocks_in file)

-- salvage

listed-joined : (a b : List Listed) → listed_lines (a ++ b) ≡ listed_lines a ++ listed_lines b
unfolding listed_lines
listed-joined [] b = refl
listed-joined (l ∷ a) b = ap (λ (t : List ℕ). listed_line l ++ t) (listed-joined a b) ∙ sym (append_assoc (listed_line l) (listed_lines a) (listed_lines b))

-- what the program gives of what is salvaged
abbrev given_of : Salvaged → Given
given_of s = record { blocks = s.blocks; text = listed_lines s.list }

-- a block is written as it is mended where it is kept, and counted
kept-blocks : (kept : ℕ) (b : List ℕ) (f : Fate) (others : List (List ℕ)) → cond (is_kept f) (mended kept b f ∷ others) others ≡ written_by kept b f ++ others
kept-blocks kept b Kept others = refl
kept-blocks kept b (Renumbered number) others = refl
kept-blocks kept b (Dropped number n) others = refl
kept-blocks kept b Short others = refl

kept-count : (kept : ℕ) (b : List ℕ) (f : Fate) → cond (is_kept f) (suc kept) kept ≡ kept + length (written_by kept b f)
kept-count kept b Kept = omega arith
kept-count kept b (Renumbered number) = omega arith
kept-count kept b (Dropped number n) = omega arith
kept-count kept b Short = omega arith

given-none : record { blocks = []; text = [] } ≡ given_of (record { blocks = []; list = [] })
unfolding listed_lines
given-none = refl

given-from : (kept place : ℕ) (blocks : List (List ℕ)) → given_from kept place blocks ≡ given_of (salvage_from kept place blocks)
unfolding salvage_from
given-from kept place [] = given-none
given-from kept place (b ∷ others) =
    let f : Fate = fate_of kept b in
    let behind : Salvaged = salvage_from (kept + length (written_by kept b f)) (suc place) others in
    ap (λ (k : ℕ). ahead (is_kept f) (mended kept b f) (listed_lines (listed_by place f)) (given_from k (suc place) others)) (kept-count kept b f)
    ∙ ap (ahead (is_kept f) (mended kept b f) (listed_lines (listed_by place f))) (given-from (kept + length (written_by kept b f)) (suc place) others)
    ∙ (λ i. record { blocks = kept-blocks kept b f behind.blocks i; text = sym (listed-joined (listed_by place f) behind.list) i })

pub salvage-gives : SalvageGives
unfolding salvaged mended_file salvage_text
salvage-gives file =
    let e = given-from 0 0 (blocks_in file) in
    (ap (λ (g : Given). joined g.blocks) e, ap (λ (g : Given). g.text) e)

-- the writer

pub writer-writes : WriterWrites
unfolding told blocks_of
writer-writes full lines =
    ap (λ (b : List ℕ). writes_from none (book_of false 0 false None) b full 1 lines) (sym empty-zeros)
    ∙ writes-from none false 0 [] false None full 1 lines refl
