-- Worked images, as one claim, by computation: READINGS A64, B10 to B13 of [5], what is read of an entry and of the values, and what
-- a change leaves.
use Prim.Native.Nat.{ℕ, zero, suc, ◌*◌}
use mathlib.Core.Path.{◌≡◌, refl}
use mathlib.Core.List.{List, [], ◌∷◌, ◌++◌}
use mathlib.Core.Bool.{Bool, true, false}
use mathlib.Core.Option.{none, some}
use lib.IntN.{pos, negsuc}
use lib.ListN.{replicate}
use Rattle.octets.specs.Splice.{splice}
use Rattle.sides.specs.Side.{Waiting, among, without, side_of, side_octets, sound_side}
use Rattle.table.specs.Table.{state_of, entry_of, entry_at, sound_image, sound_entries, valid, entry_octets, with_entry, lowest_from, lowest_closed}
use Rattle.table.specs.Change.{ours, peers, opens, closes, adds, clears, changed, with_change}

-- a side with its first places, and zeros behind
abbrev side : ℕ → List ℕ → List ℕ
side n first = first ++ replicate n 0

-- one entry, and all others closed
abbrev alone : ℕ → List ℕ → List ℕ
alone k octets = splice (replicate 238 0) (17 * k) octets

-- in an entry of ours, and in one of the network's
abbrev in_each : List ℕ → List Bool
in_each octets = valid (alone 2 octets) ∷ valid (alone 9 octets) ∷ []

abbrev sound : List Bool
sound = true ∷ true ∷ []

abbrev damaged : List Bool
damaged = false ∷ false ∷ []

-- the first n values open, and nothing waits
abbrev opened : ℕ → List ℕ
opened zero = []
opened (suc n) = 0x01 ∷ (replicate 16 0 ++ opened n)

abbrev waiting : ℕ → ℕ → Waiting
waiting id operation = record { id = pos id; operation = operation }

-- the entries owns3 and eight of the readings
abbrev owns3 : List ℕ
owns3 = 0x03 ∷ (side 2 (0x01 ∷ 0x11 ∷ 0x02 ∷ 0x3B ∷ 0x03 ∷ 0x0B ∷ []) ++ replicate 8 0)

abbrev eight : List ℕ
eight = 0x07 ∷ 0x01 ∷ 0x11 ∷ 0x02 ∷ 0x3B ∷ 0x03 ∷ 0x0B ∷ 0x04 ∷ 0x0A ∷ 0x05 ∷ 0x3C ∷ 0x06 ∷ 0x12 ∷ 0x07 ∷ 0x3D ∷ 0x08 ∷ 0x3C ∷ []

pub worked :
    -- states: even, over 7, and not as the places have it
    (in_each (0x02 ∷ (side 6 (0x01 ∷ 0x3B ∷ []) ++ replicate 8 0)) ≡ damaged)
    × (in_each (0x04 ∷ (replicate 8 0 ++ side 6 (0x05 ∷ 0x3C ∷ []))) ≡ damaged)
    × (in_each (0x06 ∷ (side 6 (0x05 ∷ 0x3B ∷ []) ++ side 6 (0x05 ∷ 0x3C ∷ []))) ≡ damaged)
    × (in_each (0x08 ∷ (replicate 8 0 ++ replicate 8 0)) ≡ damaged)
    × (in_each (0x09 ∷ (replicate 8 0 ++ replicate 8 0)) ≡ damaged)
    × (in_each (0x03 ∷ (replicate 8 0 ++ replicate 8 0)) ≡ damaged)
    × (in_each (0x01 ∷ (side 6 (0x01 ∷ 0x11 ∷ []) ++ replicate 8 0)) ≡ damaged)
    × (in_each (0x05 ∷ (side 6 (0x01 ∷ 0x11 ∷ []) ++ replicate 8 0)) ≡ damaged)
    × (in_each (0x07 ∷ (side 6 (0x01 ∷ 0x11 ∷ []) ++ replicate 8 0)) ≡ damaged)
    × (in_each (0x03 ∷ (side 6 (0x01 ∷ 0x11 ∷ []) ++ side 6 (0x05 ∷ 0x3C ∷ []))) ≡ damaged)
    -- octets where nothing waits
    × (in_each (0x00 ∷ (side 6 (0x05 ∷ 0x00 ∷ []) ++ replicate 8 0)) ≡ damaged)
    × (in_each (0x00 ∷ (side 6 (0x00 ∷ 0x3B ∷ []) ++ replicate 8 0)) ≡ damaged)
    × (in_each (0x00 ∷ (replicate 8 0 ++ side 6 (0x05 ∷ 0x00 ∷ []))) ≡ damaged)
    × (in_each (0x00 ∷ (replicate 8 0 ++ side 6 (0x00 ∷ 0x3C ∷ []))) ≡ damaged)
    × (in_each (0x00 ∷ (replicate 8 0 ++ side 0 (0x00 ∷ 0x00 ∷ 0x00 ∷ 0x00 ∷ 0x00 ∷ 0x00 ∷ 0x00 ∷ 0x3C ∷ []))) ≡ damaged)
    × (in_each (0x01 ∷ (side 6 (0x05 ∷ 0x00 ∷ []) ++ replicate 8 0)) ≡ damaged)
    × (in_each (0x01 ∷ (side 0 (0x00 ∷ 0x00 ∷ 0x00 ∷ 0x00 ∷ 0x00 ∷ 0x00 ∷ 0x05 ∷ 0x00 ∷ []) ++ replicate 8 0)) ≡ damaged)
    × (in_each (0x01 ∷ (replicate 8 0 ++ side 6 (0x00 ∷ 0x3C ∷ []))) ≡ damaged)
    -- a gap, and an id without its operation
    × (in_each (0x03 ∷ (side 4 (0x00 ∷ 0x00 ∷ 0x02 ∷ 0x3B ∷ []) ++ replicate 8 0)) ≡ damaged)
    × (in_each (0x03 ∷ (side 2 (0x01 ∷ 0x11 ∷ 0x00 ∷ 0x00 ∷ 0x03 ∷ 0x0B ∷ []) ++ replicate 8 0)) ≡ damaged)
    × (in_each (0x03 ∷ (side 4 (0x01 ∷ 0x11 ∷ 0x05 ∷ 0x00 ∷ []) ++ replicate 8 0)) ≡ damaged)
    × (in_each (0x05 ∷ (replicate 8 0 ++ side 0 (0x05 ∷ 0x3C ∷ 0x06 ∷ 0x12 ∷ 0x07 ∷ 0x3D ∷ 0x08 ∷ 0x00 ∷ []))) ≡ damaged)
    -- operations: ours 60; the peer's 38 and 59; at any place
    × (in_each (0x03 ∷ (side 6 (0x01 ∷ 0x3C ∷ []) ++ replicate 8 0)) ≡ damaged)
    × (in_each (0x05 ∷ (replicate 8 0 ++ side 6 (0x05 ∷ 0x26 ∷ []))) ≡ damaged)
    × (in_each (0x05 ∷ (replicate 8 0 ++ side 6 (0x05 ∷ 0x3B ∷ []))) ≡ damaged)
    × (in_each (0x03 ∷ (side 0 (0x01 ∷ 0x11 ∷ 0x02 ∷ 0x3B ∷ 0x03 ∷ 0x0B ∷ 0x04 ∷ 0x3C ∷ []) ++ replicate 8 0)) ≡ damaged)
    × (in_each (0x05 ∷ (replicate 8 0 ++ side 0 (0x05 ∷ 0x3C ∷ 0x06 ∷ 0x12 ∷ 0x07 ∷ 0x3D ∷ 0x08 ∷ 0x26 ∷ []))) ≡ damaged)
    -- equal ids on one side
    × (in_each (0x03 ∷ (side 4 (0x01 ∷ 0x11 ∷ 0x01 ∷ 0x3B ∷ []) ++ replicate 8 0)) ≡ damaged)
    × (in_each (0x05 ∷ (replicate 8 0 ++ side 2 (0x05 ∷ 0x12 ∷ 0x06 ∷ 0x3C ∷ 0x05 ∷ 0x12 ∷ []))) ≡ damaged)
    × (in_each (0x05 ∷ (replicate 8 0 ++ side 0 (0x06 ∷ 0x12 ∷ 0x05 ∷ 0x3C ∷ 0x07 ∷ 0x3D ∷ 0x05 ∷ 0x12 ∷ []))) ≡ damaged)
    -- sound: any id, also 0; equal ids on the two sides, and equal operations
    × (in_each (0x01 ∷ (replicate 8 0 ++ replicate 8 0)) ≡ sound)
    × (in_each (0x03 ∷ (side 6 (0x01 ∷ 0x3B ∷ []) ++ replicate 8 0)) ≡ sound)
    × (in_each (0x03 ∷ (side 6 (0x00 ∷ 0x0A ∷ []) ++ replicate 8 0)) ≡ sound)
    × (in_each (0x03 ∷ (side 4 (0x01 ∷ 0x3B ∷ 0x02 ∷ 0x3B ∷ []) ++ replicate 8 0)) ≡ sound)
    × (in_each (0x05 ∷ (replicate 8 0 ++ side 6 (0x05 ∷ 0x3C ∷ []))) ≡ sound)
    × (in_each (0x07 ∷ (side 6 (0x01 ∷ 0x11 ∷ []) ++ side 6 (0x01 ∷ 0x12 ∷ []))) ≡ sound)
    × (in_each (0x07 ∷ (side 6 (0xFF ∷ 0x11 ∷ []) ++ side 6 (0x80 ∷ 0x12 ∷ []))) ≡ sound)
    × (in_each owns3 ≡ sound)
    × (in_each eight ≡ sound)
    -- lengths
    × (valid (replicate 70 0) ≡ false)
    × (valid (replicate 237 0) ≡ false)
    × (valid (replicate 239 0) ≡ false)
    × (valid (replicate 238 0) ≡ true)
    -- entries, the oldest first
    × (entry_at (alone 9 (0x05 ∷ (replicate 8 0 ++ side 6 (0x05 ∷ 0x3C ∷ [])))) 9 ≡ record { is_open = true; own = []; peer = waiting 5 60 ∷ [] })
    × (entry_at (alone 2 (0x07 ∷ (side 6 (0xFF ∷ 0x11 ∷ []) ++ side 6 (0x80 ∷ 0x12 ∷ [])))) 2
    ≡ record { is_open = true; own = record { id = negsuc 0; operation = 17 } ∷ []; peer = record { id = negsuc 127; operation = 18 } ∷ [] })
    × (entry_at (alone 2 eight) 2
    ≡ record {
      is_open = true;
      own = waiting 1 17 ∷ waiting 2 59 ∷ waiting 3 11 ∷ waiting 4 10 ∷ [];
      peer = waiting 5 60 ∷ waiting 6 18 ∷ waiting 7 61 ∷ waiting 8 60 ∷ [];
    })
    -- changes: behind the last; the others move up; the last of a side; all
    × (with_change (alone 2 owns3) 2 (adds ours (pos 9) 59) ≡ alone 2 (0x03 ∷ 0x01 ∷ 0x11 ∷ 0x02 ∷ 0x3B ∷ 0x03 ∷ 0x0B ∷ 0x09 ∷ 0x3B ∷ replicate 8 0))
    × (with_change (alone 2 owns3) 2 (clears ours (pos 1)) ≡ alone 2 (0x03 ∷ (side 4 (0x02 ∷ 0x3B ∷ 0x03 ∷ 0x0B ∷ []) ++ replicate 8 0)))
    × (with_change (alone 2 owns3) 2 (clears ours (pos 2)) ≡ alone 2 (0x03 ∷ (side 4 (0x01 ∷ 0x11 ∷ 0x03 ∷ 0x0B ∷ []) ++ replicate 8 0)))
    × (with_change (alone 9 (0x05 ∷ (replicate 8 0 ++ side 6 (0x05 ∷ 0x3C ∷ [])))) 9 (clears peers (pos 5)) ≡ alone 9 (0x01 ∷ replicate 16 0))
    × (with_change (replicate 238 0) 9 (adds peers (pos 5) 60) ≡ alone 9 (0x05 ∷ (replicate 8 0 ++ side 6 (0x05 ∷ 0x3C ∷ []))))
    × (with_change (replicate 238 0) 9 opens ≡ alone 9 (0x01 ∷ []))
    × (with_change (alone 2 eight) 2 closes ≡ replicate 238 0)
    -- the lowest closed value
    × (lowest_closed (replicate 238 0) ≡ some 0)
    × (lowest_closed (splice (replicate 238 0) 0 (opened 2)) ≡ some 2)
    × (lowest_closed (splice (replicate 238 0) 0 (opened 7)) ≡ none)
unfolding splice among without side_of side_octets sound_side state_of entry_of entry_at sound_image sound_entries valid entry_octets with_entry lowest_from lowest_closed changed with_change
worked =
    (refl, refl, refl, refl, refl, refl, refl, refl, refl, refl, refl, refl, refl, refl, refl, refl, refl, refl, refl, refl, refl, refl, refl, refl, refl, refl, refl, refl, refl, refl, refl, refl, refl, refl, refl, refl, refl, refl, refl, refl, refl, refl, refl, refl, refl, refl, refl, refl, refl, refl, refl, refl, refl, refl, refl, refl)
