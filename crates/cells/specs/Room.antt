-- "182 characters and 9 lines (18 octets) are room enough for every text shown with scheme 0F: 41 never comes then."
use Rattle.std.specs.Prelude.{ℕ, ◌*◌, ◌≤◌, ◌≡◌, List, true, length, take}
use Rattle.showing.specs.Views.{standing}
use Rattle.telephone.specs.Receive.{receive}
use Rattle.telephone.specs.FromC.{received_of}
use Rattle.telephone.specs.declared.receive.Received.{Received}
use Rattle.cells.specs.Characters.{string_text}
use Rattle.cells.specs.Lines.{lines_of, line_octets}
use Rattle.cells.specs.Cells.{Layout, laid_out, cells}

-- the call with what C got of a received message: the scheme, and the octets at the place of the string
abbrev pub felt_of : List ℕ → Received → List ℕ → List ℕ → Layout
felt_of m r text lines = cells r.text.scheme (standing m r.text.string) text lines

abbrev pub RoomEnough : Type 0
RoomEnough =
    (t m b text lines : List ℕ) → 182 ≤ length text → 18 ≤ length lines → (r : Received) → r ≡ received_of (length m) (receive t m b)
    → r.text.is_there ≡ true → r.text.scheme ≡ 0x0F → felt_of m r text lines ≡ laid_out (string_text (standing m r.text.string)) text lines

-- what C reads of a call that is not refused: the characters that it counts, and two octets for each line
abbrev pub ReadInC : Type 0
ReadInC =
    (scheme : ℕ) (string text lines : List ℕ) → (cells scheme string text lines).laid.code ≡ 0
    → (take (cells scheme string text lines).laid.characters (cells scheme string text lines).text ≡ string_text string)
    × (take (2 * (cells scheme string text lines).laid.lines) (cells scheme string text lines).lines ≡ line_octets (lines_of (string_text string)))
