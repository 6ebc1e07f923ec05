-- "An id is a signed number: 7F is 127, 80 is -128, FF is -1."
use Rattle.std.specs.Prelude.{ℕ, suc, ◌-◌, cond, ltb, ℤ, pos, negsuc}

-- the id that one octet says: itself below 128, else 256 less. (`negsuc n` is the number -1 - n.)
abbrev pub id_of : ℕ → ℤ
id_of octet = cond (ltb octet 128) (pos octet) (negsuc (256 - suc octet))

-- the octet that says an id: itself, or 256 more
abbrev pub octet_of : ℤ → ℕ
octet_of (pos n) = n
octet_of (negsuc n) = 256 - suc n
