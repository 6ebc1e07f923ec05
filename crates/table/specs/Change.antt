-- What one step does to an entry: 01 and 02 [5] name one change for each.
use Rattle.std.specs.Prelude.{ℕ, ◌<◌, List, [], ◌∷◌, ◌++◌, ◌≡◌, true, ℤ}
use Rattle.sides.specs.Side.{Waiting, without}
use Rattle.table.specs.Table.{Entry, closed, entries, entry_at, valid, with_entry, holds}

-- ours, or the peer's
pub data Side : Type 0 where
  ours : Side
  peers : Side

pub data Change : Type 0 where
  -- the transaction is open, and what waits stays
  opens : Change
  -- "closes the entry"
  closes : Change
  -- "A new one comes behind the last"
  adds : (side : Side) (id : ℤ) (operation : ℕ) → Change
  -- "clears the place with its id; the others keep their order"
  clears : (side : Side) (id : ℤ) → Change

-- an open entry with one side changed, and the other as it was
abbrev pub on_side : Side → (List Waiting → List Waiting) → Entry → Entry
on_side ours change e = record { is_open = true; own = change e.own; peer = e.peer }
on_side peers change e = record { is_open = true; own = e.own; peer = change e.peer }

unfoldable pub changed : Entry → Change → Entry
changed e opens = record { is_open = true; own = e.own; peer = e.peer }
changed e closes = closed
changed e (adds side id operation) = on_side side (λ ws. ws ++ (record { id = id; operation = operation } ∷ [])) e
changed e (clears side id) = on_side side (without id) e

-- the table with one entry changed
unfoldable pub with_change : List ℕ → ℕ → Change → List ℕ
with_change table k change = with_entry table k (changed (entry_at table k) change)

-- the table is sound, has the entry, and can hold it as it becomes
abbrev pub CanChange : List ℕ → ℕ → Change → Type 0
CanChange table k change = (valid table ≡ true) × ((k < entries) × (holds (changed (entry_at table k) change) ≡ true))
