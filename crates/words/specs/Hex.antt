-- "octets as hex with or without spaces": two digits an octet, blanks only between octets.
use Rattle.std.specs.Prelude.{ℕ, ◌+◌, ◌*◌, ◌-◌, ◌≤◌, ◌≡◌, List, [], ◌∷◌, cond, ◌&&◌, length, eqb, leb, ◌<◌, Option, None, Some}
use Rattle.octets.specs.Splice.{splice}
use Rattle.words.specs.Words.{blank}
use Rattle.words.specs.declared.hex.Row.{Row}
use Rattle.words.specs.declared.Ending.{Ending}
use Rattle.words.specs.declared.Ending.TheVariants.{Whole, Wrong, Long}

-- the value of a digit, capital or small; 16 stands for none
abbrev pub digit_of : ℕ → ℕ
digit_of c =
    cond (leb 48 c && leb c 57) (c - 48)
    (cond (leb 65 c && leb c 70) (c - 55)
    (cond (leb 97 c && leb c 102) (c - 87)
    16))

abbrev pub digit_seen : Option ℕ → ℕ
digit_seen None = 16
digit_seen (Some digit) = digit

abbrev pub DigitWithin : Option ℕ → Type 0
DigitWithin None = Unit {0}
DigitWithin (Some digit) = digit < 16

abbrev pub ReadsDigit : ℕ → Option ℕ → Type 0
ReadsDigit c r = (digit_seen r ≡ digit_of c) × DigitWithin r

-- the octets up to the end, or up to the first fault
pub record HexOctets : Type 0 where
  pub octets : List ℕ
  pub ends : Ending

abbrev pub stop : Ending → HexOctets
stop h = record { octets = []; ends = h }

abbrev pub before : ℕ → HexOctets → HexOctets
before octet o = record { octets = octet ∷ o.octets; ends = o.ends }

-- room for so many octets more; half is the digit that waits for its second, 16 if none does
unfoldable pub hex_from : ℕ → ℕ → List ℕ → HexOctets
hex_from room half [] = cond (eqb half 16) (stop Whole) (stop Wrong)
hex_from room half (c ∷ s) =
    cond (blank c)
    (cond (eqb half 16) (hex_from room 16 s) (stop Wrong))
    (cond (eqb (digit_of c) 16) (stop Wrong)
    (cond (eqb half 16) (hex_from room (digit_of c) s)
    (cond (eqb room 0) (stop Long)
    (before (half * 16 + digit_of c) (hex_from (room - 1) 16 s)))))

unfoldable pub hex : ℕ → List ℕ → HexOctets
hex room text = hex_from room 16 text

-- What is promised of octets that are read into a buffer: how many they are, how they end, and that they stand at its front.
abbrev pub ReadsHex : List ℕ → List ℕ → List ℕ → Row → Type 0
ReadsHex text buffer after row =
    (row.count ≡ length (hex (length buffer) text).octets)
    × ((row.ends ≡ (hex (length buffer) text).ends)
    × ((after ≡ splice buffer 0 (hex (length buffer) text).octets)
    × (row.count ≤ length buffer)))
