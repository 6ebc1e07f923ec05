-- 02, [2], "Text on forty cells": what is felt is what was sent.
use Rattle.std.specs.Prelude.{ℕ, ◌≤◌, ◌≡◌, List, [], ◌∷◌, ◌++◌, true, cond, length}
use Rattle.octets.specs.Reader.{Taken}
use Rattle.elements.specs.Element.{row}
use Rattle.parameters.specs.Parameter.{Text}
use Rattle.components.specs.Component.{Component}
use Rattle.telephone.specs.Receive.{receive}
use Rattle.telephone.specs.FromC.{received_of}
use Rattle.telephone.specs.Strings.{StringsShown}
use Rattle.cells.specs.Septets.{CR}
use Rattle.cells.specs.Characters.{characters}
use Rattle.cells.specs.Cells.{Layout, laid_out}
use Rattle.cells.specs.Packing.{packed, padded, ends_in_cr, Septets, AreTheBits, BackAsSent}
use Rattle.cells.specs.Broken.{AsAsked, NoOther, AtMostForty, GiveBack}
use Rattle.cells.specs.Room.{felt_of, RoomEnough, ReadInC}
use Rattle.promises.specs.LaterEdition.{LaterEdition, ShowsText}
use Rattle.promises.specs.Worked.{fresh, buffer, w1, w2}

-- the text of a received message, laid out as firmware does it: by the scheme and the places that it got
abbrev pub felt : List ℕ → List ℕ → List ℕ → List ℕ → List ℕ → Layout
felt t m b text lines = felt_of m (received_of (length m) (receive t m b)) text lines

-- the characters of a row of septets that was sent; a CR at an octet boundary is told by another behind it
abbrev pub sent_text : List ℕ → List ℕ
sent_text septets = characters (cond (ends_in_cr septets) (septets ++ (CR ∷ [])) septets)

-- a sender packs septets by 03.38, and the network puts them into a menu: their characters are felt, in the lines of 02
abbrev pub AsSent : Type 0
AsSent =
    (t b m s : List ℕ) (c : Component) (g : Taken Text) → ShowsText t m b c g → g.value.scheme ≡ 0x0F → Septets s → g.value.string ≡ packed (padded s)
    → (text lines : List ℕ) → 182 ≤ length text → 18 ≤ length lines → felt t m b text lines ≡ laid_out (sent_text s) text lines

-- "for a message that shows a text .., a later edition of it (demand 3) gives the same characters and lines"
abbrev pub LaterFeltTheSame : Type 0
LaterFeltTheSame =
    (t b m m' x : List ℕ) (c : Component) (g : Taken Text) → ShowsText t m b c g → row x ≡ true → LaterEdition c x m m' → length m' ≤ 255
    → (text lines : List ℕ) → felt t m' b text lines ≡ felt t m b text lines

-- the worked menu, W1, and W2, its later edition: the letter A is felt, in one line
abbrev pub W1Felt : Type 0
W1Felt =
    (text lines : List ℕ) → 182 ≤ length text → 18 ≤ length lines
    → (felt fresh w1 buffer text lines ≡ laid_out (0x41 ∷ []) text lines) × (felt fresh w2 buffer text lines ≡ laid_out (0x41 ∷ []) text lines)

abbrev pub Felt : Type 0
Felt = AsSent × (LaterFeltTheSame × (W1Felt × (StringsShown × (RoomEnough × (ReadInC × (BackAsSent × (AreTheBits × (AsAsked × (NoOther × (AtMostForty × GiveBack))))))))))
