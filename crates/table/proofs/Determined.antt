-- The contracts leave one answer: two that say the same are equal.
use mathlib.Core.Path.{◌≡◌, refl, sym, ap, ◌∙◌}
use mathlib.Core.Bool.{true, false}
use Prim.Native.Nat.{ℕ}
use Rattle.std.specs.Prelude.{Option, None, Some}
use Rattle.table.specs.Change.{ours, peers, opens, closes, adds, clears}
use Rattle.table.specs.Change as spec
use Rattle.table.specs.Seen.{named_seen, change_seen}
use Rattle.table.specs.declared.Change.{Change}
use Rattle.table.specs.declared.Change.TheVariants.{Opens, Closes, Adds, Clears}

pub named-determined : (r q : Option ℕ) → named_seen r ≡ named_seen q → r ≡ q
named-determined None None e = refl
named-determined None (Some k) e = cc
named-determined (Some k) None e = cc
named-determined (Some k) (Some j) e = cc

-- the code's change that a change is seen of
abbrev change_of : spec.Change → Change
change_of opens = Opens
change_of closes = Closes
change_of (adds ours id operation) = Adds true id operation
change_of (adds peers id operation) = Adds false id operation
change_of (clears ours id) = Clears true id
change_of (clears peers id) = Clears false id

change-of : (r : Change) → r ≡ change_of (change_seen r)
change-of Opens = refl
change-of Closes = refl
change-of (Adds true id operation) = refl
change-of (Adds false id operation) = refl
change-of (Clears true id) = refl
change-of (Clears false id) = refl

pub change-determined : (r q : Change) → change_seen r ≡ change_seen q → r ≡ q
change-determined r q e = change-of r ∙ ap change_of e ∙ sym (change-of q)
