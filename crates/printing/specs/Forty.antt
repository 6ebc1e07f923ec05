-- "lines of at most forty characters"
use Rattle.std.specs.Prelude.{ℕ, suc, List, [], ◌∷◌, Bool, true, cond, not, ◌&&◌, eqb, ltb, leb}

-- "octets from 80 to BF are none": such an octet goes on with the character before it
abbrev pub goes_on : ℕ → Bool
goes_on octet = leb 0x80 octet && ltb octet 0xC0

-- so many characters stand in the line already; every line ends with 10, and no character stands behind the last
unfoldable pub forty_from : ℕ → List ℕ → Bool
forty_from column [] = eqb column 0
forty_from column (c ∷ s) = cond (eqb c 10) (leb column 40 && forty_from 0 s) (forty_from (cond (goes_on c) column (suc column)) s)

unfoldable pub forty : List ℕ → Bool
forty text = forty_from 0 text

-- no line ends within
unfoldable pub plain : List ℕ → Bool
plain [] = true
plain (c ∷ s) = not (eqb c 10) && plain s
