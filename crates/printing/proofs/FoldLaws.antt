-- Folded octets: how long they are, and what the loop that writes them has left.
use Prim.Native.Nat.{ℕ, ◌+◌, ◌*◌, ◌≤◌, ◌<◌}
use mathlib.Core.Path.{◌≡◌}
use mathlib.Core.List.{List, [], ◌∷◌, ◌++◌}
use mathlib.Core.Bool.{Bool, true, false, cond}
use native.Mathlib.Numerals.{add-one}
use native.Mathlib.Omega.{arith}
use lib.ListN.{length, drop, get_or, length-append, drop_of_length-le}
use lib.Seq.{drop-cons}
use lib.Dec.{ltb}
use Rattle.printing.specs.Numbers.{pair}
use Rattle.printing.specs.Lines.{next_text, next_column, folded}

next-length : (b : Bool) (octet : ℕ) → length (cond b (10 ∷ 32 ∷ pair octet) (32 ∷ pair octet)) ≤ 4
unfolding pair
next-length true octet = omega arith
next-length false octet = omega arith

pub folded-length : (column : ℕ) (s : List ℕ) → length (folded column s) ≤ 4 * length s
unfolding folded
folded-length column [] = omega arith
folded-length column (o ∷ s) =
    let l = length-append (next_text column o) (folded (next_column column) s) in
    let n : length (next_text column o) ≤ 4 = next-length (ltb 37 column) o in
    let r = folded-length (next_column column) s in
    omega arith

-- the first octet that is left, and the others
pub first : (width i : ℕ) (s : List ℕ) → i < length s → folded width (drop i s) ≡ next_text width (get_or s i 0) ++ folded (next_column width) (drop (i + 1) s)
unfolding folded
first width i s h = rw (add-one i, drop-cons s i 0 h)

pub none_left : (width i : ℕ) (s : List ℕ) → length s ≤ i → folded width (drop i s) ≡ []
unfolding folded
none_left width i s h = rw (drop_of_length-le s h)
