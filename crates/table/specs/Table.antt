-- 01, "The transaction table", as 02 [5] has it: entries behind their names, and their image in plain octets.
use Rattle.std.specs.Prelude.{ℕ, zero, suc, ◌+◌, ◌*◌, List, [], ◌∷◌, ◌++◌, Bool, true, false, cond, not, ◌&&◌, ◌||◌, length, get_or, replicate, leb, eqb}
use Rattle.std.proofs.Math.Option.{Option, none, some}
use Rattle.octets.specs.Part.{between}
use Rattle.octets.specs.Splice.{splice}
use Rattle.codes.specs.Operations.{begins, waits}
use Rattle.sides.specs.Side.{Waiting, places, is_empty, holds_side, side_of, side_octets, all_zero, sound_side}

-- An entry: our own invokes that are outstanding, and the peer's, each side in order of arrival.
pub record Entry : Type 0 where
  pub is_open : Bool
  pub own : List Waiting
  pub peer : List Waiting

abbrev pub closed : Entry
closed = record { is_open = false; own = []; peer = [] }

-- "An entry has 17 octets, the table fourteen entries, 238 octets in all"
abbrev pub entries : ℕ
entries = 14

abbrev pub size : ℕ
size = 17

abbrev pub image_length : ℕ
image_length = 238

-- "k is the value for ours, 7 plus the value for the network's." Flag 1 is ours.
abbrev pub entry_number : ℕ → ℕ → ℕ
entry_number flag value = cond (eqb flag 1) value (7 + value)

-- "a flag over 1 or a value over 6 is 22": no such entry
abbrev pub named : ℕ → ℕ → Option ℕ
named flag value = cond (leb flag 1 && leb value 6) (some (entry_number flag value)) none

-- "0 closed; open is 1, plus 2 with one own invoke or more outstanding, plus 4 with one peer invoke or more"
abbrev pub added : Bool → ℕ → ℕ
added b n = cond b n 0

unfoldable pub state_of : Entry → ℕ
state_of e = cond e.is_open (1 + added (not (is_empty e.own)) 2 + added (not (is_empty e.peer)) 4) 0

-- "entry k begins at octet 17 k": the state, eight octets of the own invokes, eight of the peer's
pub record Image : Type 0 where
  pub state : ℕ
  pub own : List ℕ
  pub peer : List ℕ

abbrev pub image_in : List ℕ → ℕ → Image
image_in table k =
    record {
      state = get_or table (size * k) 0;
      own = between (size * k + 1) (size * k + 9) table;
      peer = between (size * k + 9) (size * k + 17) table;
    }

abbrev pub no_image : Image
no_image = record { state = 0; own = replicate 8 0; peer = replicate 8 0 }

-- an entry that the table hasn't is all zero
abbrev pub image_at : List ℕ → ℕ → Image
image_at table k = cond (leb (size * k + size) (length table)) (image_in table k) no_image

unfoldable pub entry_of : Image → Entry
entry_of i = record { is_open = not (eqb i.state 0); own = side_of i.own; peer = side_of i.peer }

unfoldable pub entry_at : List ℕ → ℕ → Entry
entry_at table k = entry_of (image_at table k)

-- "Sound is: state as B11 says it of the places; on each side the used places first ..; all zero if closed."
unfoldable pub sound_image : Image → Bool
sound_image i =
    eqb i.state (state_of (entry_of i))
    && sound_side begins i.own
    && sound_side waits i.peer
    && (not (eqb i.state 0) || (all_zero i.own && all_zero i.peer))

-- the first n entries are sound
unfoldable pub sound_entries : List ℕ → ℕ → Bool
sound_entries table zero = true
sound_entries table (suc n) = sound_entries table n && sound_image (image_at table n)

-- "Any other image is damaged."
unfoldable pub valid : List ℕ → Bool
valid table = eqb (length table) image_length && sound_entries table entries

-- writing: the octets of an entry
unfoldable pub entry_octets : Entry → List ℕ
entry_octets e = state_of e ∷ (side_octets places e.own ++ side_octets places e.peer)

unfoldable pub with_entry : List ℕ → ℕ → Entry → List ℕ
with_entry table k e = splice table (size * k) (entry_octets e)

-- "A begin takes the lowest closed own value": among n values from v on
unfoldable pub lowest_from : List ℕ → ℕ → ℕ → Option ℕ
lowest_from table v zero = none
lowest_from table v (suc n) = cond (entry_at table v).is_open (lowest_from table (suc v) n) (some v)

unfoldable pub lowest_closed : List ℕ → Option ℕ
lowest_closed table = lowest_from table 0 7

-- the entries that an image can hold: on each side what a side can hold, and nothing in a closed entry
unfoldable pub holds : Entry → Bool
holds e = holds_side begins e.own && holds_side waits e.peer && (e.is_open || (is_empty e.own && is_empty e.peer))
