-- What the code's numbers mean: a side is one number, its octets joined, the first lowest.
use Rattle.std.specs.Prelude.{ℕ, zero, suc, ◌+◌, ◌*◌, ◌/◌, ◌%◌, List, [], ◌∷◌, ◌≡◌, Bool, true, false, cond, ◌||◌, Option, None, Some, ℤ, length, eqb}
use Rattle.codes.specs.Ids.{octet_of}
use Rattle.codes.specs.Operations.{begins, waits}
use Rattle.sides.specs.Side.{Waiting, places, same_id, among, full, operation_of, side_of, side_octets}
use Rattle.sides.specs.declared.Found.{Found}

-- the octets of n places
abbrev pub octets_in : ℕ → ℕ → List ℕ
octets_in zero side = []
octets_in (suc n) side = side % 256 ∷ side / 256 % 256 ∷ octets_in n (side / 65536)

abbrev pub octets_seen : ℕ → List ℕ
octets_seen side = octets_in places side

abbrev pub side_seen : ℕ → List Waiting
side_seen side = side_of (octets_seen side)

-- zeros only behind the last that waits
abbrev pub Settled : ℕ → Type 0
Settled side = octets_seen side ≡ side_octets places (side_seen side)

-- the operations of a side: "own operations are those we begin, peer ones 18, 60, 61"
abbrev pub listed_for : Bool → ℕ → Bool
listed_for true = begins
listed_for false = waits

-- the first i places of a side, and others behind them
abbrev pub joined_at : ℕ → ℕ → ℕ → ℕ
joined_at zero side behind = behind
joined_at (suc i) side behind = side % 65536 + 65536 * joined_at i (side / 65536) behind

-- what stands behind the first i places
abbrev pub shifted : ℕ → ℕ → ℕ
shifted zero side = side
shifted (suc i) side = shifted i (side / 65536)

-- how many wait before the first with this id
abbrev pub before : ℤ → List Waiting → ℕ
before id [] = 0
before id (w ∷ ws) = cond (same_id w.id id) 0 (suc (before id ws))

-- where the first with this id stands, and whether one does
abbrev pub place_of : ℤ → ℕ → Found
place_of id side = record { place = before id (side_seen side); rest = shifted (before id (side_seen side)) side }

abbrev pub found_in : ℤ → ℕ → Option Found
found_in id side = cond (among id (side_seen side)) (Some (place_of id side)) None

-- the number of an answer; 0 for none
abbrev pub number_or0 : Option ℕ → ℕ
number_or0 None = 0
number_or0 (Some n) = n

-- the operation that waits under an id, where one does
abbrev pub asked_in : ℤ → List Waiting → Option ℕ
asked_in id ws = cond (among id ws) (Some (operation_of id ws)) None

-- an invoke put behind the last that waits; nothing is added where there is no place, or no operation
abbrev pub with_last : ℕ → ℤ → ℕ → ℕ
with_last side id operation =
    cond (full (side_seen side) || eqb operation 0) side
    (joined_at (length (side_seen side)) side (octet_of id + 256 * operation))

-- the place with this id taken out, and those behind it moved up
abbrev pub without_id : ℤ → ℕ → ℕ
without_id id side = cond (among id (side_seen side)) (joined_at (before id (side_seen side)) side (shifted (before id (side_seen side)) side / 65536)) side
