-- Rows of elements: a row followed by a row is a row, and a row goes on behind its first element.
use Prim.Native.Nat.{ℕ, zero, suc, ◌≤◌, ◌<◌}
use mathlib.Core.Path.{◌≡◌, refl, sym, ◌∙◌, subst}
use mathlib.Core.List.{List, [], ◌∷◌, ◌++◌}
use mathlib.Core.Bool.{Bool, true, false, ◌||◌, or-true}
use native.Mathlib.Omega.{arith}
use lib.ListN.{length, length-append}
use Rattle.octets.specs.Reader.{Answer, fault, sound, Taken, took, is_empty}
use Rattle.octets.proofs.ReaderLaws.{sound-inj, not_sound, Local}
use Rattle.elements.specs.Element.{Element, element, goes_on, row_of, row}
use Rattle.elements.proofs.ElementLaws.{element-local, element-stays}

-- an element takes at least an octet
pub element-shorter : (s : List ℕ) (g : Taken Element) → element s ≡ sound g → length g.rest < length s
unfolding element
element-shorter s g e = go f.taken f.split (f.again [])
  where
    f : Local element s g
    f = element-local s g e

    go : (a : List ℕ) → s ≡ a ++ g.rest → element (a ++ []) ≡ took g.value [] → length g.rest < length s
    go [] p q = not_sound q
    go (h ∷ a) p q = rw p (simp length-append (omega arith))

-- a row without a count: nothing, or an element and a row
pub data Row : List ℕ → Type 0 where
  none : Row []
  more : {s : List ℕ} (g : Taken Element) → element s ≡ sound g → Row g.rest → Row s

row-turn : (s : List ℕ) (k : List ℕ → Bool) → is_empty s || goes_on (element s) k ≡ true → ((r : List ℕ) → k r ≡ true → Row r) → Row s
row-turn [] k e f = none
row-turn (a ∷ s) k e f = go (element (a ∷ s)) refl e
  where
    go : (o : Answer (Taken Element)) → element (a ∷ s) ≡ o → goes_on o k ≡ true → Row (a ∷ s)
    go (fault n) p q = let z : ◌≡◌ {A = ℕ} 0 1 = cc in absurd (omega arith)
    go (sound g) p q = more g p (f g.rest q)

row-of : (most : ℕ) (s : List ℕ) → row_of most s ≡ true → Row s
unfolding row_of
row-of zero [] e = none
row-of zero (a ∷ s) e = let z : ◌≡◌ {A = ℕ} 0 1 = cc in absurd (omega arith)
row-of (suc most) s e = row-turn s (λ r. row_of most r) e (λ r h. row-of most r h)

of_row : {s : List ℕ} → Row s → (most : ℕ) → length s ≤ most → row_of most s ≡ true
unfolding row_of
of_row none zero h = refl
of_row none (suc most) h = refl
of_row (more {s = s} g e r) zero h = let l = element-shorter s g e in absurd (omega arith)
of_row (more {s = s} g e r) (suc most) h =
    let l = element-shorter s g e in
    rw (e, of_row r most (omega arith)) (or-true (is_empty s))

-- the definition and the relation say the same
pub row_is : (s : List ℕ) → row s ≡ true → Row s
unfolding row
row_is s h = row-of (length s) s h

pub is_row : {s : List ℕ} → Row s → row s ≡ true
unfolding row
is_row {s} r = of_row r (length s) (omega arith)

rows_append : {a b : List ℕ} → Row a → Row b → Row (a ++ b)
rows_append none h = h
rows_append {b = b} (more {s = s} g e r) h = more (record { value = g.value; rest = g.rest ++ b }) (element-stays s b g e) (rows_append r h)

-- a row followed by a row is a row
pub row-append : (a b : List ℕ) → row a ≡ true → row b ≡ true → row (a ++ b) ≡ true
row-append a b p q = is_row (rows_append (row_is a p) (row_is b q))

pub row-none : row [] ≡ true
row-none = is_row none

-- one element is a row
pub row_one : (s : List ℕ) (e : Element) → element s ≡ took e [] → row s ≡ true
row_one s e h = is_row (more (record { value = e; rest = [] }) h none)

bool_iff : (a b : Bool) → (a ≡ true → b ≡ true) → (b ≡ true → a ≡ true) → a ≡ b
bool_iff true b f g = sym (f refl)
bool_iff false true f g = g refl
bool_iff false false f g = refl

row-rest : {s : List ℕ} (g : Taken Element) → Row s → element s ≡ sound g → Row g.rest
unfolding element
row-rest g none e = not_sound e
row-rest g (more h p r) e = subst (λ (k : Taken Element). Row k.rest) (sound-inj (sym p ∙ e)) r

-- a turn of the loop: the row goes on behind the element
pub row_step : (s : List ℕ) (g : Taken Element) → element s ≡ sound g → row s ≡ row g.rest
row_step s g e = bool_iff (row s) (row g.rest) (λ h. is_row (row-rest g (row_is s h) e)) (λ h. is_row (more g e (row_is g.rest h)))

bool-not : (a : Bool) → (a ≡ true → ⊥) → a ≡ false
bool-not true f = absurd (f refl)
bool-not false f = refl

-- the way out of the loop: what is left is no element
pub row-bad : (s : List ℕ) (n : ℕ) → 0 < length s → element s ≡ fault n → row s ≡ false
row-bad s n l e = bool-not (row s) (λ h. no_row s (row_is s h) l e)
  where
    no_row : (d : List ℕ) → Row d → 0 < length d → element d ≡ fault n → ⊥
    no_row d none l e = omega arith
    no_row d (more g p r) l e = not_sound (sym e ∙ p)
