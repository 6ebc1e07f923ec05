-- Worked lengths, elements, tags and rows, as one claim, by computation.
use mathlib.Core.Path.{◌≡◌, refl}
use mathlib.Core.List.{[], ◌∷◌}
use mathlib.Core.Bool.{true, false}
use Rattle.octets.specs.Reader.{fault, took}
use Rattle.elements.specs.Element.{missing, unreadable, length_of, element, row_of, row}

pub worked :
    -- the forms, shortest
    (length_of (0x00 ∷ []) ≡ took 0 [])
    × (length_of (0x7F ∷ []) ≡ took 127 [])
    × (length_of (0x81 ∷ 0x80 ∷ []) ≡ took 128 [])
    × (length_of (0x81 ∷ 0xFF ∷ []) ≡ took 255 [])
    × (length_of (0x82 ∷ 0x01 ∷ 0x00 ∷ []) ≡ took 256 [])
    × (length_of (0x82 ∷ 0xFF ∷ 0xFF ∷ []) ≡ took 65535 [])
    -- the same written long
    × (length_of (0x81 ∷ 0x05 ∷ []) ≡ took 5 [])
    × (length_of (0x82 ∷ 0x00 ∷ 0x05 ∷ []) ≡ took 5 [])
    × (length_of (0x82 ∷ 0x00 ∷ 0x80 ∷ []) ≡ took 128 [])
    -- refused forms
    × (length_of (0x80 ∷ []) ≡ fault unreadable)
    × (length_of (0x83 ∷ 0x00 ∷ 0x00 ∷ 0x05 ∷ []) ≡ fault unreadable)
    × (length_of (0x84 ∷ 0x00 ∷ 0x00 ∷ 0x00 ∷ 0x05 ∷ []) ≡ fault unreadable)
    × (length_of (0xFF ∷ 0x05 ∷ []) ≡ fault unreadable)
    -- cut forms
    × (length_of (0x81 ∷ []) ≡ fault unreadable)
    × (length_of (0x82 ∷ []) ≡ fault unreadable)
    × (length_of (0x82 ∷ 0x01 ∷ []) ≡ fault unreadable)
    -- contents that end at the end, before it, and one octet past it
    × (element (0x04 ∷ 0x02 ∷ 0x41 ∷ 0x42 ∷ []) ≡ took (record { tag = 0x04; contents = 0x41 ∷ 0x42 ∷ [] }) [])
    × (element (0x04 ∷ 0x01 ∷ 0x41 ∷ 0x42 ∷ []) ≡ took (record { tag = 0x04; contents = 0x41 ∷ [] }) (0x42 ∷ []))
    × (element (0x04 ∷ 0x03 ∷ 0x41 ∷ 0x42 ∷ []) ≡ fault unreadable)
    × (element (0x04 ∷ 0x81 ∷ 0x02 ∷ 0x41 ∷ []) ≡ fault unreadable)
    -- missing is told apart from unreadable
    × (element [] ≡ fault missing)
    × (element (0x04 ∷ []) ≡ fault unreadable)
    -- refused tags
    × (element (0x00 ∷ 0x00 ∷ []) ≡ fault unreadable)
    × (element (0x1F ∷ 0x00 ∷ []) ≡ fault unreadable)
    × (element (0x3F ∷ 0x00 ∷ []) ≡ fault unreadable)
    × (element (0x5F ∷ 0x00 ∷ []) ≡ fault unreadable)
    × (element (0x7F ∷ 0x00 ∷ []) ≡ fault unreadable)
    × (element (0x9F ∷ 0x00 ∷ []) ≡ fault unreadable)
    × (element (0xBF ∷ 0x00 ∷ []) ≡ fault unreadable)
    × (element (0xDF ∷ 0x00 ∷ []) ≡ fault unreadable)
    × (element (0xFF ∷ 0x00 ∷ []) ≡ fault unreadable)
    -- rows
    × (row [] ≡ true)
    × (row (0x04 ∷ 0x00 ∷ 0x30 ∷ 0x02 ∷ 0x1F ∷ 0xFF ∷ []) ≡ true)
    × (row (0x04 ∷ 0x00 ∷ 0x30 ∷ 0x03 ∷ 0x1F ∷ 0xFF ∷ []) ≡ false)
    × (row (0x04 ∷ 0x00 ∷ 0x00 ∷ []) ≡ false)
unfolding length_of element row_of row
worked = (refl, refl, refl, refl, refl, refl, refl, refl, refl, refl, refl, refl, refl, refl, refl, refl, refl, refl, refl, refl, refl, refl, refl, refl, refl, refl, refl, refl, refl, refl, refl, refl, refl, refl, refl)
