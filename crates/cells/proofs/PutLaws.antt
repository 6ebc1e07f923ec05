-- Numbers written at a place, or not.
use Prim.Native.Nat.{ℕ, suc, ◌+◌, ◌≤◌, ◌<◌}
use mathlib.Core.Path.{◌≡◌, refl, sym, ap, ◌∙◌}
use mathlib.Core.Bool.{Bool, true, false}
use mathlib.Core.List.{List, [], ◌∷◌, ◌++◌, append-nil}
use native.Mathlib.Nat.{add-zero}
use native.Mathlib.Numerals.{add-one}
use native.Mathlib.Omega.{arith}
use lib.ListN.{length, take, drop, set, length-set, take-append-drop}
use lib.Seq.{set_split, append_snoc}
use Rattle.octets.specs.Splice.{splice}
use Rattle.octets.proofs.SpliceLaws.{splice-splice, length-splice}
use Rattle.cells.specs.Rows.{put_if}

-- one number stored
pub stored : (d : List ℕ) (at x : ℕ) → at < length d → set d at x ≡ splice d at (x ∷ [])
unfolding splice
stored d at x h = rw (add-one at) (set_split d at x h ∙ sym (append_snoc (take at d) x (drop (suc at) d)))

-- two in a row
pub two-stored : (d : List ℕ) (at x y : ℕ) → at + 2 ≤ length d → set (set d at x) (at + 1) y ≡ splice d at (x ∷ y ∷ [])
two-stored d at x y h =
    stored (set d at x) (at + 1) y (rw (length-set d at x) (omega arith))
    ∙ ap (λ l. splice l (at + 1) (y ∷ [])) (stored d at x (omega arith))
    ∙ splice-splice d at (x ∷ []) (y ∷ []) (omega arith)

-- nothing is written
pub put-nil : (writes : Bool) (d : List ℕ) (at : ℕ) → put_if writes d at [] ≡ d
unfolding put_if splice
put-nil true d at = rw (append-nil (take at d), add-zero at) (take-append-drop at d)
put-nil false d at = refl

-- one writing directly after another is one writing
pub put-put : (writes : Bool) (d : List ℕ) (at : ℕ) (a b : List ℕ) → (writes ≡ true → at + length a + length b ≤ length d)
    → put_if writes (put_if writes d at a) (at + length a) b ≡ put_if writes d at (a ++ b)
unfolding put_if
put-put true d at a b h = splice-splice d at a b (h refl)
put-put false d at a b h = refl

pub length-put : (writes : Bool) (d : List ℕ) (at : ℕ) (a : List ℕ) → (writes ≡ true → at + length a ≤ length d) → length (put_if writes d at a) ≡ length d
unfolding put_if
length-put true d at a h = length-splice d at a (h refl)
length-put false d at a h = refl
