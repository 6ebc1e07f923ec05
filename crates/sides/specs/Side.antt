-- 02, [5]: a side of an entry, ours or the peer's: "up to four own and four peer invokes", and their image in plain octets.
use Rattle.std.specs.Prelude.{ℕ, zero, suc, List, [], ◌∷◌, Bool, true, false, cond, not, ◌&&◌, ◌||◌, length, ℤ, leb, eqb}
use Rattle.codes.specs.Ids.{id_of, octet_of}

-- an invoke that waits for its answer
pub record Waiting : Type 0 where
  pub id : ℤ
  pub operation : ℕ

-- "four"
abbrev pub places : ℕ
places = 4

-- ids are compared within a side only
abbrev pub same_id : ℤ → ℤ → Bool
same_id a b = eqb (octet_of a) (octet_of b)

-- whether an invoke with this id waits: "equal to any waiting peer id", "already among ours"
unfoldable pub among : ℤ → List Waiting → Bool
among id [] = false
among id (w ∷ ws) = same_id w.id id || among id ws

abbrev pub is_empty : List Waiting → Bool
is_empty [] = true
is_empty (w ∷ ws) = false

-- "when four wait": there is no place for another
unfoldable pub full : List Waiting → Bool
full ws = leb places (length ws)

-- the operation that waits under this id
unfoldable pub operation_of : ℤ → List Waiting → ℕ
operation_of id [] = 0
operation_of id (w ∷ ws) = cond (same_id w.id id) w.operation (operation_of id ws)

-- "clears the place with its id; the others keep their order"
unfoldable pub without : ℤ → List Waiting → List Waiting
without id [] = []
without id (w ∷ ws) = cond (same_id w.id id) ws (w ∷ without id ws)

-- "each with an operation of its side"
unfoldable pub each_listed : (ℕ → Bool) → List Waiting → Bool
each_listed listed [] = true
each_listed listed (w ∷ ws) = listed w.operation && each_listed listed ws

-- "no two used places of one side with the same id"
unfoldable pub none_twice : List Waiting → Bool
none_twice [] = true
none_twice (w ∷ ws) = not (among w.id ws) && none_twice ws

-- what a side can hold, with the operations that are listed for it
unfoldable pub holds_side : (ℕ → Bool) → List Waiting → Bool
holds_side listed ws = leb (length ws) places && each_listed listed ws && none_twice ws

-- The octets: an id and an operation for each place, the one that waits longest first. "A place is used exactly if its
-- operation isn't 0."
unfoldable pub side_of : List ℕ → List Waiting
side_of [] = []
side_of (id ∷ []) = []
side_of (id ∷ operation ∷ s) = cond (eqb operation 0) [] (record { id = id_of id; operation = operation } ∷ side_of s)

-- "A place not used is 00 00": the octets of n places
unfoldable pub side_octets : ℕ → List Waiting → List ℕ
side_octets zero ws = []
side_octets (suc n) [] = 0 ∷ 0 ∷ side_octets n []
side_octets (suc n) (w ∷ ws) = octet_of w.id ∷ w.operation ∷ side_octets n ws

abbrev pub all_zero : List ℕ → Bool
all_zero [] = true
all_zero (a ∷ s) = eqb a 0 && all_zero s

-- "on each side the used places first, each with an operation of its side, then zeros only; no two used places of one side with
-- the same id"
unfoldable pub sound_side : (ℕ → Bool) → List ℕ → Bool
sound_side listed [] = true
sound_side listed (id ∷ []) = false
sound_side listed (id ∷ operation ∷ s) =
    cond (eqb operation 0) (eqb id 0 && all_zero s)
    (listed operation && not (among (id_of id) (side_of s)) && sound_side listed s)
