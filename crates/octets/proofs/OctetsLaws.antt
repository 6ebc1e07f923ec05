-- Lists of octets, joined and cut.
use Prim.Native.Nat.{ℕ, zero, suc, ◌<◌}
use mathlib.Core.List.{List, [], ◌∷◌, ◌++◌}
use lib.ListN.{get_or, take, drop}
use Rattle.octets.specs.Octets.{Octets}

-- what the code knows of a slice, place by place
pub octets-of : (s : List ℕ) → ((k : ℕ) → get_or s k 0 < 256) → Octets s
octets-of [] h = tt
octets-of (a ∷ s) h = (h 0, octets-of s (λ k. h (suc k)))

pub octets-append : (s t : List ℕ) → Octets s → Octets t → Octets (s ++ t)
octets-append [] t h k = k
octets-append (a ∷ s) t h k = (h.0, octets-append s t h.1 k)

pub octets-take : (n : ℕ) (s : List ℕ) → Octets s → Octets (take n s)
octets-take zero s h = tt
octets-take (suc n) [] h = tt
octets-take (suc n) (a ∷ s) h = (h.0, octets-take n s h.1)

pub octets-drop : (n : ℕ) (s : List ℕ) → Octets s → Octets (drop n s)
octets-drop zero s h = h
octets-drop (suc n) [] h = tt
octets-drop (suc n) (a ∷ s) h = octets-drop n s h.1
