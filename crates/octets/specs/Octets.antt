-- A list of octets: each number is below 256. Slices of the code are such lists.
use Rattle.std.specs.Prelude.{ℕ, ◌<◌, List, [], ◌∷◌}

abbrev pub Octets : List ℕ → Type 0
Octets [] = Unit {0}
Octets (a ∷ s) = (a < 256) × Octets s
