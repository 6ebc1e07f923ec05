-- Ids and octets: there and back, both ways; the worked values.
use mathlib.Core.Path.{◌≡◌, refl, ap, ◌∙◌}
use Prim.Native.Nat.{ℕ, ◌<◌}
use lib.IntN.{ℤ, pos, negsuc}
use mir.Syntax.{w8}
use mir.Val.{SFits, to_z, of_z}
use mir.Facts.{to_z-of_z, of_z-to_z, Fits-of_z, sfits_to_z}
use Rattle.codes.specs.Ids.{id_of, octet_of}

-- a number from -128 to 127
abbrev pub IsId : ℤ → Type 0
IsId id = SFits w8 id

-- the octet of an id is what the language has for an i8, and so is the id of an octet
pub octet-is : (id : ℤ) → octet_of id ≡ of_z w8 id
octet-is (pos n) = refl
octet-is (negsuc n) = refl

pub id-is : (n : ℕ) → id_of n ≡ to_z w8 n
id-is n = refl

-- an id as the code has it when it was held as an i8
abbrev pub as_held : ℤ → ℤ
as_held id = to_z w8 (of_z w8 id)

pub held-is : {id : ℤ} → IsId id → as_held id ≡ id
held-is h = to_z-of_z h

pub octet-back : (n : ℕ) → n < 256 → octet_of (id_of n) ≡ n
octet-back n h = octet-is (id_of n) ∙ of_z-to_z {w = w8} (record { fits = h })

pub id-back : {id : ℤ} → IsId id → id_of (octet_of id) ≡ id
id-back {id} h = ap id_of (octet-is id) ∙ to_z-of_z h

pub id-octet : {id : ℤ} → IsId id → octet_of id < 256
id-octet {id} h = rw (octet-is id) (Fits-of_z h).fits

-- an octet says an id
pub is-id : (n : ℕ) → n < 256 → IsId (id_of n)
is-id n h = sfits_to_z {w = w8} (record { fits = h })

-- an id that the code holds as i8, and one that it hands on
pub held : {z : ℤ} (n : ℕ) → n < 256 → z ≡ id_of n → as_held z ≡ id_of n
held n h e = ap as_held e ∙ held-is (is-id n h)

pub handed : {id : ℤ} {n : ℕ} → IsId id → n ≡ octet_of (as_held id) → n ≡ octet_of id
handed h e = e ∙ ap octet_of (held-is h)

pub worked : (id_of 0x7F ≡ pos 127) × (id_of 0x80 ≡ negsuc 127) × (id_of 0xFF ≡ negsuc 0) × (id_of 0x00 ≡ pos 0) × (id_of 0x05 ≡ pos 5)
worked = (refl, refl, refl, refl, refl)
