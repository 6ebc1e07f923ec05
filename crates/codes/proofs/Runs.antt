-- Two tests agree on a run of numbers, but for some keys: computed, one number after the other.
use mathlib.Core.Path.{◌≡◌, refl, sym, subst}
use mathlib.Core.Bool.{Bool, true, false, not, ◌||◌, ◌&&◌, and-eq-true_iff}
use mathlib.Core.List.{List, [], ◌∷◌, ◌++◌}
use mathlib.Core.Logic.{⊎_elim, inl, inr}
use Prim.Native.Nat.{ℕ, zero, suc, ◌+◌, ◌≤◌, ◌<◌}
use native.Mathlib.Nat.{eq-or-lt_of_le}
use native.Mathlib.Omega.{arith}
use borrow.Author.Tests.{not-true}
use lib.Dec.{T}
use mir.Val.{has_key}
use types.Run.{OneOf, hit}

abbrev pub same : Bool → Bool → Bool
same true b = b
same false b = not b

same-is : (a b : Bool) → same a b ≡ true → a ≡ b
same-is true b e = sym e
same-is false b e = sym (not-true b e)

-- what is a key of neither list is none of both
pub neither : (ks ls : List ℕ) (k : ℕ) → (OneOf ks k → ⊥) → (OneOf ls k → ⊥) → OneOf (ks ++ ls) k → ⊥
neither [] ls k a b h = b h
neither (x ∷ []) [] k a b h = a h
neither (x ∷ []) (y ∷ ls) k a b h = ⊎_elim a b h
neither (x ∷ y ∷ ks) ls k a b h = ⊎_elim (λ e. a (inl e)) (neither (y ∷ ks) ls k (λ g. a (inr g)) b) h

module _ (f g : ℕ → Bool) where
  abbrev pub agree_at : List ℕ → Bool
  agree_at [] = true
  agree_at (k ∷ ks) = same (f k) (g k) && agree_at ks

  -- at each of the keys
  pub at_key : (ks : List ℕ) → agree_at ks ≡ true → (k : ℕ) → OneOf ks k → f k ≡ g k
  at_key [] t k h = absurd h
  at_key (x ∷ []) t k e = subst (λ (j : ℕ). f j ≡ g j) (sym e) (same-is (f x) (g x) ((and-eq-true_iff (same (f x) (g x)) true).0 t).0)
  at_key (x ∷ y ∷ ks) t k h =
      let w = (and-eq-true_iff (same (f x) (g x)) (agree_at (y ∷ ks))).0 t in
      ⊎_elim (λ (e : k ≡ x). subst (λ (j : ℕ). f j ≡ g j) (sym e) (same-is (f x) (g x) w.0)) (at_key (y ∷ ks) w.1 k) h

module _ (f g : ℕ → Bool) (keys : List ℕ) where
  abbrev pub agree : ℕ → ℕ → Bool
  agree low zero = true
  agree low (suc n) = (has_key keys low || same (f low) (g low)) && agree (suc low) n

  here : (k : ℕ) → has_key keys k || same (f k) (g k) ≡ true → (OneOf keys k → ⊥) → f k ≡ g k
  here k t other = go (has_key keys k) refl t
    where
      go : (b : Bool) → has_key keys k ≡ b → b || same (f k) (g k) ≡ true → f k ≡ g k
      go true e u = absurd (other (hit keys k (subst T (sym e) tt)))
      go false e u = same-is (f k) (g k) u

  pub on : (low n : ℕ) → agree low n ≡ true → (k : ℕ) → low ≤ k → k < low + n → (OneOf keys k → ⊥) → f k ≡ g k
  on low zero t k p q other = absurd (omega arith)
  on low (suc n) t k p q other =
      let w = (and-eq-true_iff (has_key keys low || same (f low) (g low)) (agree (suc low) n)).0 t in
      ⊎_elim (λ (e : low ≡ k). subst (λ (j : ℕ). (OneOf keys j → ⊥) → f j ≡ g j) e (here low w.0) other)
      (λ (l : low < k). on (suc low) n w.1 k (omega arith) (omega arith) other)
      (eq-or-lt_of_le p)
