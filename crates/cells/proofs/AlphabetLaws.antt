-- The alphabet and its extension over all 128 septets, computed.
use Prim.Native.Nat.{ℕ, ◌≤◌, ◌<◌, ◌+◌}
use mathlib.Core.Path.{◌≡◌, refl}
use mathlib.Core.Bool.{Bool, true, false, cond}
use mathlib.Core.List.{List, [], ◌∷◌}
use mathlib.Core.Logic.{inl, inr, ⊎_elim}
use native.Mathlib.Nat.{eq-or-lt_of_le}
use native.Mathlib.Omega.{arith}
use lib.Dec.{eqb, ltb, leb}
use types.Run.{OneOf}
use borrow.Author.Tests.{eqb-true, ltb-true, leb-true, eq-eqb, ne_eqb}
use Rattle.codes.proofs.Runs.{agree, on}
use Rattle.cells.specs.Alphabet.{character_of, own_of, extension_of, made_by}
use Rattle.cells.specs.Marks.{place_of, mark_at}

-- two numbers agree on a run, but for some keys
module _ (f g : ℕ → ℕ) (keys : List ℕ) (low n : ℕ) where
  pub each : agree (λ k. eqb (f k) (g k)) (λ k. true) keys low n ≡ true → (k : ℕ) → low ≤ k → k < low + n → (OneOf keys k → ⊥) → f k ≡ g k
  each t k p q other = eqb-true (f k) (g k) (on (λ j. eqb (f j) (g j)) (λ j. true) keys low n t k p q other)

-- what the last arm of a match knows: every key is missed, and it knows the last one first
abbrev pub Missed : List ℕ → ℕ → Type 0
Missed [] x = Unit {0}
Missed (k ∷ s) x = Missed s x × (x ≡ k → ⊥)

missed : (keys : List ℕ) (x : ℕ) → Missed keys x → OneOf keys x → ⊥
missed [] x m o = o
missed (k ∷ []) x m o = m.1 o
missed (k ∷ j ∷ s) x m (inl e) = m.1 e
missed (k ∷ j ∷ s) x m (inr o) = missed (j ∷ s) x m.0 o

-- the keys of mark, of second_mark and of later_mark
abbrev first_keys : List ℕ
first_keys = 15 ∷ 14 ∷ 13 ∷ 12 ∷ 11 ∷ 10 ∷ 9 ∷ 8 ∷ 7 ∷ 6 ∷ 5 ∷ 4 ∷ 3 ∷ 2 ∷ 1 ∷ 0 ∷ []

abbrev second_keys : List ℕ
second_keys = 31 ∷ 30 ∷ 29 ∷ 28 ∷ 27 ∷ 26 ∷ 25 ∷ 24 ∷ 23 ∷ 22 ∷ 21 ∷ 20 ∷ 19 ∷ 18 ∷ 17 ∷ 16 ∷ []

abbrev later_keys : List ℕ
later_keys = 58 ∷ 57 ∷ 56 ∷ 55 ∷ 53 ∷ 52 ∷ 51 ∷ 48 ∷ 47 ∷ 43 ∷ 42 ∷ 41 ∷ 40 ∷ 39 ∷ 38 ∷ 37 ∷ 36 ∷ 35 ∷ 34 ∷ 33 ∷ 32 ∷ []

pub behind-first : (place : ℕ) → place < 59 → Missed first_keys place → 15 < place
behind-first place h m = ltb-true 15 place (on (λ k. ltb 15 k) (λ k. true) first_keys 0 59 refl place (omega arith) (omega arith) (missed first_keys place m))

pub behind-second : (place : ℕ) → 15 < place → place < 59 → Missed second_keys place → 31 < place
behind-second place l h m = ltb-true 31 place (on (λ k. ltb 31 k) (λ k. true) second_keys 16 43 refl place (omega arith) (omega arith) (missed second_keys place m))

pub no-mark : (place : ℕ) → 31 < place → place < 59 → Missed later_keys place → 0 ≡ mark_at place
unfolding mark_at character_of own_of
no-mark place l h m = each (λ k. 0) mark_at later_keys 32 27 refl place (omega arith) (omega arith) (missed later_keys place m)

-- the character by its place
abbrev made : Bool → ℕ → ℕ
made escaped c = cond (eqb (place_of escaped c) 59) (cond (eqb c 0x24) 0xA4 (cond (eqb c 0x40) 0xA1 c)) (mark_at (place_of escaped c))

made-is : (escaped : Bool) (c : ℕ) → c < 128 → made escaped c ≡ made_by escaped c
unfolding place_of mark_at character_of own_of extension_of
made-is true c h = each (made true) (made_by true) [] 0 128 refl c (omega arith) (omega arith) (λ e. e)
made-is false c h = each (made false) (made_by false) [] 0 128 refl c (omega arith) (omega arith) (λ e. e)

place-there : (escaped : Bool) (c : ℕ) → c < 128 → place_of escaped c ≤ 59
unfolding place_of
place-there true c h = leb-true _ _ (on (λ k. leb (place_of true k) 59) (λ k. true) [] 0 128 refl c (omega arith) (omega arith) (λ e. e))
place-there false c h = leb-true _ _ (on (λ k. leb (place_of false k) 59) (λ k. true) [] 0 128 refl c (omega arith) (omega arith) (λ e. e))

pub mark-there : (escaped : Bool) (c : ℕ) → c < 128 → (place_of escaped c ≡ 59 → ⊥) → place_of escaped c < 59
mark-there escaped c h n = ⊎_elim (λ e. absurd (n e)) (λ l. l) (eq-or-lt_of_le (place-there escaped c h))

-- the ways through made_by
module _ (escaped : Bool) (c : ℕ) (h : c < 128) where
  pub marked : (place_of escaped c ≡ 59 → ⊥) → mark_at (place_of escaped c) ≡ made_by escaped c
  marked n = rw (ne_eqb _ _ n) at (made-is escaped c h)

  module _ (e : place_of escaped c ≡ 59) where
    pub currency : c ≡ 0x24 → 0xA4 ≡ made_by escaped c
    currency a = rw (eq-eqb _ _ e, eq-eqb _ _ a) at (made-is escaped c h)

    pub mark-turned : (c ≡ 0x24 → ⊥) → c ≡ 0x40 → 0xA1 ≡ made_by escaped c
    mark-turned a b = rw (eq-eqb _ _ e, ne_eqb _ _ a, eq-eqb _ _ b) at (made-is escaped c h)

    pub itself : (c ≡ 0x24 → ⊥) → (c ≡ 0x40 → ⊥) → c ≡ made_by escaped c
    itself a b = rw (eq-eqb _ _ e, ne_eqb _ _ a, ne_eqb _ _ b) at (made-is escaped c h)
