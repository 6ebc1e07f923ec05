-- Numbers as text: decimal, an id with its sign, an octet as "two capital hex digits".
use Rattle.std.specs.Prelude.{ℕ, zero, suc, ◌+◌, ◌-◌, ◌/◌, ◌%◌, List, [], ◌∷◌, ◌++◌, cond, ℤ, ltb}
use Rattle.codes.specs.Ids.{octet_of}

-- at most k digits
unfoldable pub decimal_by : ℕ → ℕ → List ℕ
decimal_by zero n = []
decimal_by (suc k) n = cond (ltb n 10) ((48 + n) ∷ []) (decimal_by k (n / 10) ++ ((48 + n % 10) ∷ []))

-- a number of 64 bits has at most twenty digits
unfoldable pub decimal : ℕ → List ℕ
decimal n = decimal_by 20 n

-- a minus is 45
unfoldable pub id_text : ℤ → List ℕ
id_text id = cond (ltb (octet_of id) 128) (decimal (octet_of id)) (45 ∷ decimal (256 - octet_of id))

abbrev pub glyph : ℕ → ℕ
glyph d = cond (ltb d 10) (48 + d) (55 + d)

unfoldable pub pair : ℕ → List ℕ
pair octet = glyph (octet / 16) ∷ glyph (octet % 16) ∷ []
