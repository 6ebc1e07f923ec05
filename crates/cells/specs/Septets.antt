-- GSM 03.38, "Packing" and "Padding", as a receiver reads the octets of a string.
use Rattle.std.specs.Prelude.{ℕ, zero, suc, ◌+◌, ◌-◌, ◌*◌, ◌/◌, ◌%◌, ◌^◌, List, [], ◌∷◌, Bool, cond, ◌&&◌, length, get_or, eqb}

-- "septet i is the bits 7i to 7i+6 of the string, counted from the low bit of its first octet. With k = 7i / 8 rounded down and
-- s = 7i mod 8 it is (octet k + 256 × octet k+1) / 2^s mod 128": an octet behind the end is 0, and no bit of it is looked at
unfoldable pub septet_at : List ℕ → ℕ → ℕ
septet_at string i = (get_or string (7 * i / 8) 0 + 256 * get_or string (7 * i / 8 + 1) 0) / 2 ^ (7 * i % 8) % 128

-- "N octets hold 8N / 7 septets, rounded down"
abbrev pub septets_in : ℕ → ℕ
septets_in n = 8 * n / 7

-- n septets from septet i on
unfoldable pub septets_from : List ℕ → ℕ → ℕ → List ℕ
septets_from string i zero = []
septets_from string i (suc n) = septet_at string i ∷ septets_from string (suc i) n

-- a carriage return
abbrev pub CR : ℕ
CR = 0x0D

-- "A receiver removes the final CR where the string ends on an octet boundary with CR as its last septet, that is where the
-- number of octets is a multiple of 7"
abbrev pub is_padded : List ℕ → Bool
is_padded string = eqb (length string % 7) 0 && eqb (septet_at string (septets_in (length string) - 1)) CR

-- "one CR, and in no other case"
unfoldable pub septets_sent : List ℕ → ℕ
septets_sent string = cond (is_padded string) (septets_in (length string) - 1) (septets_in (length string))

-- the septets of a string, its pad gone
abbrev pub unpacked : List ℕ → List ℕ
unpacked string = septets_from string 0 (septets_sent string)
