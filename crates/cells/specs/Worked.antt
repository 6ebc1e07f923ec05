-- Worked cases of the readings (C1 to C20), over the definitions. Septets are packed as a sender packs them (`say`), or without
-- the sender's CR (`raw`).
use Rattle.std.specs.Prelude.{ℕ, ◌≡◌, List, [], ◌∷◌, ◌++◌, replicate}
use Rattle.cells.specs.Characters.{string_text}
use Rattle.cells.specs.Lines.{lines_of, line_octets}
use Rattle.cells.specs.Cells.{refused_layout, cells}
use Rattle.cells.specs.Packing.{packed, padded}

-- so many letters
abbrev As : ℕ → List ℕ
As n = replicate n 0x41

abbrev say : List ℕ → List ℕ
say septets = string_text (packed (padded septets))

abbrev raw : List ℕ → List ℕ
raw septets = string_text (packed septets)

abbrev say_lines : List ℕ → List ℕ
say_lines septets = line_octets (lines_of (say septets))

-- the characters
abbrev pub WorkedTexts : Type 0
WorkedTexts =
    -- W1
    (string_text (0x41 ∷ []) ≡ 0x41 ∷ [])
    -- C1
    × ((string_text (0xE8 ∷ 0x32 ∷ 0x9B ∷ 0xFD ∷ 0x46 ∷ 0x97 ∷ 0xD9 ∷ 0xEC ∷ 0x37 ∷ []) ≡ 0x68 ∷ 0x65 ∷ 0x6C ∷ 0x6C ∷ 0x6F ∷ 0x68 ∷ 0x65 ∷ 0x6C ∷ 0x6C ∷ 0x6F ∷ [])
    -- C5: the pad; a CR that is none; the sender's second one; one dropped, and no more
    × ((packed (padded (As 7)) ≡ 0xC1 ∷ 0x60 ∷ 0x30 ∷ 0x18 ∷ 0x0C ∷ 0x06 ∷ 0x1B ∷ [])
    × ((say (As 7) ≡ As 7)
    × ((say (0x41 ∷ 0x0D ∷ []) ≡ 0x41 ∷ 0x0D ∷ [])
    × ((say (As 7 ++ (0x0D ∷ [])) ≡ As 7 ++ (0x0D ∷ 0x0D ∷ []))
    × ((raw (As 6 ++ (0x0D ∷ 0x0D ∷ [])) ≡ As 6 ++ (0x0D ∷ []))
    × ((raw (As 7) ≡ As 7 ++ (0x40 ∷ []))
    -- C6: a pad behind an escape
    × ((raw (As 6 ++ (0x1B ∷ 0x0D ∷ [])) ≡ As 6 ++ (0x20 ∷ []))
    -- C7: bits left over
    × ((string_text (0xC1 ∷ []) ≡ 0x41 ∷ [])
    -- C8 to C10: another code, two escapes, three, one that ends the text
    × ((say (0x41 ∷ 0x1B ∷ 0x41 ∷ 0x42 ∷ []) ≡ 0x41 ∷ 0x41 ∷ 0x42 ∷ [])
    × ((say (0x1B ∷ 0x1B ∷ 0x65 ∷ []) ≡ 0x20 ∷ 0x65 ∷ [])
    × ((say (0x1B ∷ 0x1B ∷ 0x1B ∷ 0x65 ∷ []) ≡ 0x20 ∷ 0x20AC ∷ [])
    × ((say (0x41 ∷ 0x1B ∷ []) ≡ 0x41 ∷ 0x20 ∷ [])
    -- C20: those that look alike
    × (say (0x09 ∷ 0x10 ∷ 0x15 ∷ 0x1E ∷ 0x24 ∷ 0x02 ∷ 0x5F ∷ 0x11 ∷ 0x60 ∷ []) ≡ 0xC7 ∷ 0x394 ∷ 0x3A9 ∷ 0xDF ∷ 0xA4 ∷ 0x24 ∷ 0xA7 ∷ 0x5F ∷ 0xBF ∷ []))))))))))))))

-- the lines, two octets each, and the refusals
abbrev pub WorkedLines : Type 0
WorkedLines =
    -- C2
    (say_lines (As 40 ++ (0x20 ∷ 0x42 ∷ [])) ≡ 40 ∷ 1 ∷ 1 ∷ 0 ∷ [])
    × ((say_lines (As 40 ++ (0x42 ∷ [])) ≡ 40 ∷ 0 ∷ 1 ∷ 0 ∷ [])
    -- C12: an escape and its code are one cell
    × ((say_lines (0x1B ∷ 0x65 ∷ As 39) ≡ 40 ∷ 0 ∷ [])
    -- C13, C14
    × ((say_lines (As 40 ++ (0x1B ∷ [])) ≡ 40 ∷ 1 ∷ 0 ∷ 0 ∷ [])
    × ((say_lines (As 20 ++ (0x20 ∷ As 19)) ≡ 40 ∷ 0 ∷ [])
    -- C15: the forty-first counts, and so does the first
    × ((say_lines (As 20 ++ (0x20 ∷ As 19) ++ (0x20 ∷ 0x42 ∷ [])) ≡ 40 ∷ 1 ∷ 1 ∷ 0 ∷ [])
    × ((say_lines (0x20 ∷ As 40) ≡ 0 ∷ 1 ∷ 40 ∷ 0 ∷ [])
    -- C16, C17
    × ((say_lines (As 39 ++ (0x20 ∷ 0x20 ∷ 0x42 ∷ [])) ≡ 40 ∷ 1 ∷ 1 ∷ 0 ∷ [])
    × ((say_lines (replicate 82 0x20) ≡ 40 ∷ 1 ∷ 40 ∷ 1 ∷ 0 ∷ 0 ∷ [])
    -- C4, C3, C18
    × ((cells 0x44 (0x41 ∷ []) [] [] ≡ refused_layout 40 [] [])
    × ((cells 0x0F (0x41 ∷ []) [] [] ≡ refused_layout 41 [] [])
    × ((cells 0x0F [] [] [] ≡ refused_layout 41 [] [])
    × ((cells 0x0F [] [] (7 ∷ 7 ∷ 7 ∷ [])).lines ≡ 0 ∷ 0 ∷ 7 ∷ []))))))))))))

-- C19: the most lines
abbrev pub MostLines : Type 0
MostLines =
    line_octets (lines_of (string_text (packed (padded
    (0x20 ∷ As 40 ++ (0x20 ∷ 0x20 ∷ As 40) ++ (0x20 ∷ 0x20 ∷ As 40) ++ (0x20 ∷ 0x20 ∷ As 40) ++ (0x20 ∷ As 14))))))
    ≡ 0 ∷ 1 ∷ 40 ∷ 1 ∷ 0 ∷ 1 ∷ 40 ∷ 1 ∷ 0 ∷ 1 ∷ 40 ∷ 1 ∷ 0 ∷ 1 ∷ 40 ∷ 1 ∷ 14 ∷ 0 ∷ []
