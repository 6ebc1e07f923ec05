-- Worked characters and lines of text, as one claim, by computation: a line on each side of each edge.
use Prim.Native.Nat.{ℕ}
use mathlib.Core.Path.{◌≡◌, refl}
use mathlib.Core.List.{List, [], ◌∷◌, map}
use mathlib.Core.Bool.{true, false}
use lib.ListN.{replicate}
use Rattle.printing.specs.Forty.{goes_on, forty_from, forty}
use Rattle.printing.specs.Utf8.{pictured, utf8, cell_text, row_text, text_rows}

-- AB CD
abbrev text : List ℕ
text = 0x41 ∷ 0x42 ∷ 0x20 ∷ 0x43 ∷ 0x44 ∷ []

pub worked :
    -- what would break a line, and its neighbours
    (map pictured (0x09 ∷ 0x0A ∷ 0x0B ∷ 0x0C ∷ 0x0D ∷ 0x0E ∷ []) ≡ 0x09 ∷ 0x240A ∷ 0x0B ∷ 0x240C ∷ 0x240D ∷ 0x0E ∷ [])
    -- one octet, two and three
    × (map utf8 (0x00 ∷ 0x7F ∷ []) ≡ (0x00 ∷ []) ∷ (0x7F ∷ []) ∷ [])
    × (map utf8 (0x80 ∷ 0xE5 ∷ 0x7FF ∷ []) ≡ (0xC2 ∷ 0x80 ∷ []) ∷ (0xC3 ∷ 0xA5 ∷ []) ∷ (0xDF ∷ 0xBF ∷ []) ∷ [])
    × (map utf8 (0x800 ∷ 0x20AC ∷ 0xFFFF ∷ []) ≡ (0xE0 ∷ 0xA0 ∷ 0x80 ∷ []) ∷ (0xE2 ∷ 0x82 ∷ 0xAC ∷ []) ∷ (0xEF ∷ 0xBF ∷ 0xBF ∷ []) ∷ [])
    × (cell_text (0x0A ∷ 0x41 ∷ []) ≡ 0xE2 ∷ 0x90 ∷ 0x8A ∷ 0x41 ∷ [])
    -- the space between two lines dropped, kept at the end, kept at the start
    × (text_rows text (2 ∷ 1 ∷ 2 ∷ 0 ∷ []) ≡ 0x41 ∷ 0x42 ∷ 10 ∷ 0x43 ∷ 0x44 ∷ 10 ∷ [])
    × (text_rows text (3 ∷ 0 ∷ 2 ∷ 0 ∷ []) ≡ 0x41 ∷ 0x42 ∷ 0x20 ∷ 10 ∷ 0x43 ∷ 0x44 ∷ 10 ∷ [])
    × (text_rows text (2 ∷ 0 ∷ 3 ∷ 0 ∷ []) ≡ 0x41 ∷ 0x42 ∷ 10 ∷ 0x20 ∷ 0x43 ∷ 0x44 ∷ 10 ∷ [])
    -- a line of no cells is an empty line; no line, and an octet alone, are none; past the end there are no cells
    × (text_rows text (0 ∷ 0 ∷ 1 ∷ 0 ∷ []) ≡ 10 ∷ 0x41 ∷ 10 ∷ [])
    × (text_rows text [] ≡ [])
    × (text_rows text (2 ∷ []) ≡ [])
    × (text_rows text (9 ∷ 1 ∷ 9 ∷ 1 ∷ []) ≡ 0x41 ∷ 0x42 ∷ 0x20 ∷ 0x43 ∷ 0x44 ∷ 10 ∷ 10 ∷ [])
    -- which octets are no characters of their own
    × (map goes_on (0x7F ∷ 0x80 ∷ 0xBF ∷ 0xC0 ∷ []) ≡ false ∷ true ∷ true ∷ false ∷ [])
    -- forty and forty-one cells
    × (forty (row_text (replicate 40 0x41)) ≡ true)
    × (forty (row_text (replicate 41 0x41)) ≡ false)
    × (forty (row_text (replicate 40 0x20AC)) ≡ true)
    × (forty (row_text (replicate 41 0x20AC)) ≡ false)
    × (forty (row_text (replicate 40 0x0A)) ≡ true)
    -- a line that does not end
    × (forty (0x41 ∷ []) ≡ false)
unfolding pictured utf8 cell_text text_rows forty forty_from
worked = (refl, refl, refl, refl, refl, refl, refl, refl, refl, refl, refl, refl, refl, refl, refl, refl, refl, refl, refl)
