-- How the code finds a character: those that are not what their septet is in ASCII stand in one table of 59.
use Rattle.std.specs.Prelude.{ℕ, ◌+◌, ◌-◌, ◌*◌, ◌/◌, ◌%◌, ◌^◌, Bool, cond, ◌&&◌, eqb, ltb, leb}
use Rattle.cells.specs.Alphabet.{character_of, own_of}

-- the codes that have a character of their own, by their lower four bits, which differ: digit k is the upper half of the one that
-- ends in k, or 8
abbrev pub upper_half : ℕ → ℕ
upper_half k = 0x2333802288618884 / 2 ^ (k * 4) % 16

abbrev pub has_own : ℕ → Bool
has_own code = eqb (upper_half (code % 16)) (code / 16)

-- where a character stands in the code's table; 59 for those that are what their septet is in ASCII, and for two more
abbrev pub place_alone : ℕ → ℕ
place_alone c = cond (ltb c 0x20) c (cond (ltb c 0x5B) 59 (cond (leb c 0x60) (c - 0x3B) (cond (ltb c 0x7B) 59 (c - 0x55))))

unfoldable pub place_of : Bool → ℕ → ℕ
place_of escaped c = cond (escaped && has_own c) (43 + c % 16) (place_alone c)

-- what stands there
unfoldable pub mark_at : ℕ → ℕ
mark_at p =
    cond (ltb p 0x20) (character_of p)
    (cond (ltb p 38) (character_of (p + 0x3B))
    (cond (ltb p 43) (character_of (p + 0x55))
    (own_of (16 * upper_half (p - 43) + (p - 43)))))
