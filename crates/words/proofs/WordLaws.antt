-- Words at a place of a line: the first octet of what is left decides.
use Rattle.std.proofs.Common.{ℕ, suc, ◌+◌, ◌-◌, ◌≤◌, ◌≡◌, refl, List, [], ◌∷◌, true, false, cond, length, not, arith, one-add}
use Rattle.std.specs.List.{prefix_len}
use Rattle.std.proofs.lemmas.List.Sums.{prefix_len-le-length}
use Rattle.std.specs.Cmp.Lexicographic.{pointwise}
use Rattle.std.proofs.Math.Dec.{eqb}
use Rattle.octets.specs.Part.{between}
use Rattle.octets.proofs.PartLaws.{length-between, rest_part_lem}
use Rattle.words.specs.Words.{blank, blanks, letters, word_at, word_from, same}

-- as the library counts them
pub blanks-counted : (s : List ℕ) → prefix_len blank s ≡ blanks s
unfolding blanks
blanks-counted [] = refl
blanks-counted (c ∷ s) = rw (blanks-counted s, one-add)

pub letters-counted : (s : List ℕ) → prefix_len (λ c. not (blank c)) s ≡ letters s
unfolding letters
letters-counted [] = refl
letters-counted (c ∷ s) = elim (blank c) as (λ b. cond (not b) (1 + prefix_len (λ c. not (blank c)) s) 0 ≡ cond b 0 (suc (letters s))) [
  | true ↦ refl
  | false ↦ let e = letters-counted s in omega arith
]

blanks-within : (s : List ℕ) → blanks s ≤ length s
blanks-within s = rw (← blanks-counted s) (prefix_len-le-length blank s)

letters-within : (s : List ℕ) → letters s ≤ length s
letters-within s = rw (← letters-counted s) (prefix_len-le-length (λ c. not (blank c)) s)

-- behind a place, in what is left of a line there
module _ (s rest : List ℕ) (at : ℕ) (q : rest ≡ between at (length s) s) where
  left : length rest ≡ length s - at
  left = rw q (length-between at (length s) s (omega arith))

  pub behind-blanks : at + blanks rest ≤ at + (length s - at)
  behind-blanks = omega (arith, blanks-within rest, left)

  pub behind-letters : at + letters rest ≤ at + (length s - at)
  behind-letters = omega (arith, letters-within rest, left)

-- a word from its start, behind the blanks, to its end, behind the letters
pub word-is : (s a b : List ℕ) (at n m : ℕ) → a ≡ between at (length s) s → n ≡ blanks a → b ≡ between (at + n) (length s) s → m ≡ letters b
    → record { start = at + n; end = at + n + m } ≡ word_at s at
unfolding word_at word_from
word-is s a b at n m p e q f = rw (f, q, rest_part_lem (at + n) s, e, p, rest_part_lem at s)

pub same_eq : (s t : List ℕ) → pointwise eqb s t ≡ same s t
unfolding same
same_eq [] [] = refl
same_eq [] (b ∷ t) = refl
same_eq (a ∷ s) [] = refl
same_eq (a ∷ s) (b ∷ t) = rw (same_eq s t)
