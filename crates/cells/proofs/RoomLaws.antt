-- Room for every text that is shown, and what C reads of it.
use Prim.Native.Nat.{ℕ, ◌/◌, ◌≤◌}
use mathlib.Core.Path.{◌≡◌, refl}
use mathlib.Core.List.{List}
use mathlib.Core.Bool.{Bool, true, false}
use native.Mathlib.Omega.{arith}
use lib.ListN.{length, take, drop}
use lib.Dec.{eqb, leb}
use lib.Seq.{take_at}
use borrow.Author.Tests.{leb-true}
use Rattle.octets.specs.Splice.{splice}
use Rattle.octets.specs.Unless.{unless}
use Rattle.octets.proofs.SpliceLaws.{splice_front}
use Rattle.octets.proofs.TestLaws.{both}
use Rattle.showing.specs.Views.{standing}
use Rattle.telephone.proofs.Strings.{strings-shown}
use Rattle.cells.specs.Characters.{string_text}
use Rattle.cells.specs.Lines.{lines_of, line_octets}
use Rattle.cells.specs.Cells.{has_room, refused_layout, laid_out, cells}
use Rattle.cells.specs.Room.{RoomEnough, ReadInC}
use Rattle.cells.proofs.LineLaws.{octets-twice}
use Rattle.cells.proofs.FewLaws.{few-lines}
use Rattle.cells.proofs.LayLaws.{text-bound}
use Rattle.cells.proofs.CellsLaws.{with-room}

-- 160 octets hold 182 septets, and these have at most nine lines
pub room_for : (scheme : ℕ) (s text lines : List ℕ) → scheme ≡ 0x0F → length s ≤ 160 → 182 ≤ length text → 18 ≤ length lines → cells scheme s text lines ≡ laid_out (string_text s) text lines
room_for scheme s text lines e l p q =
    let b = text-bound s in
    let f = few-lines (string_text s) in
    with-room scheme s text lines e (omega arith) (omega arith)

pub room-enough : RoomEnough
room-enough t m b text lines p q r e there scheme =
    room_for r.text.scheme (standing m r.text.string) text lines scheme (strings-shown t m b r e there).1 p q

-- what is written at the front is what is read there
at_front : (d s : List ℕ) → take (length s) (splice d 0 s) ≡ s
at_front d s = rw (splice_front d s) (take_at s (drop (length s) d) (length s) refl)

-- code 0 is told by no refusal
not-refused : (scheme : ℕ) (string text lines : List ℕ) → (cells scheme string text lines).laid.code ≡ 0 → cells scheme string text lines ≡ laid_out (string_text string) text lines
unfolding cells
not-refused scheme string text lines e = go (eqb scheme 0x0F) (has_room string (length text) (length lines)) e
  where
    go : (a b : Bool) → (unless a (refused_layout 40 text lines) (unless b (refused_layout 41 text lines) (laid_out (string_text string) text lines))).laid.code ≡ 0
        → unless a (refused_layout 40 text lines) (unless b (refused_layout 41 text lines) (laid_out (string_text string) text lines)) ≡ laid_out (string_text string) text lines
    go false b h = absurd (omega arith)
    go true false h = absurd (omega arith)
    go true true h = refl

pub read-in-c : ReadInC
read-in-c scheme string text lines e = rw (not-refused scheme string text lines e) (at_front text (string_text string), rw (← octets-twice (lines_of (string_text string))) (at_front lines (line_octets (lines_of (string_text string)))))

-- the lines that are told have room, and so have none
pub lines_fit : (scheme : ℕ) (string text lines : List ℕ) → (cells scheme string text lines).laid.lines ≤ length lines / 2
unfolding cells
lines_fit scheme string text lines = go (eqb scheme 0x0F) (has_room string (length text) (length lines)) refl
  where
    go : (a b : Bool) → has_room string (length text) (length lines) ≡ b
        → (unless a (refused_layout 40 text lines) (unless b (refused_layout 41 text lines) (laid_out (string_text string) text lines))).laid.lines ≤ length lines / 2
    go false b h = omega arith
    go true false h = omega arith
    go true true h = leb-true _ _ (both (leb (length (string_text string)) (length text)) (leb (length (lines_of (string_text string))) (length lines / 2)) h).1
