-- Decimal numbers at a place of a word: the first octet of what is left decides.
use Rattle.std.proofs.Common.{ℕ, ◌+◌, ◌*◌, ◌-◌, ◌<◌, ◌≤◌, ◌≡◌, refl, List, [], ◌∷◌, true, false, length, get_or, drop, arith, add-one, drop-cons, None, Some}
use Rattle.std.proofs.Math.ListN.{drop_of_length-le}
use borrow.Author.Tests.{le-leb, lt-leb, eq-eqb, ne_eqb}
use Rattle.octets.specs.Part.{between}
use Rattle.octets.proofs.PartLaws.{rest_part_lem}
use Rattle.words.specs.Numbers.{digit, number_from, number, signed, negative}

pub number_empty : (most : ℕ) (s : List ℕ) → length s ≡ 0 → number most s ≡ None
unfolding number
number_empty most [] e = refl
number_empty most (c ∷ s) e = absurd (omega arith)

pub number_some : (most : ℕ) (s : List ℕ) → (length s ≡ 0 → ⊥) → number_from most 0 s ≡ number most s
unfolding number
number_some most [] e = absurd (e refl)
number_some most (c ∷ s) e = refl

module _ (most n : ℕ) (s : List ℕ) (i : ℕ) where
  pub number_end : length s ≤ i → number_from most n (drop i s) ≡ Some n
  unfolding number_from
  number_end h = rw (drop_of_length-le s h)

  pub number_no_digit : i < length s → digit (get_or s i 0) ≡ false → number_from most n (drop i s) ≡ None
  unfolding number_from
  number_no_digit h d = rw (drop-cons s i 0 h, d)

  pub number_large : i < length s → digit (get_or s i 0) ≡ true → most < n * 10 + (get_or s i 0 - 48) → number_from most n (drop i s) ≡ None
  unfolding number_from
  number_large h d l = rw (drop-cons s i 0 h, d, lt-leb (n * 10 + (get_or s i 0 - 48)) most l)

  pub number_on : i < length s → digit (get_or s i 0) ≡ true → n * 10 + (get_or s i 0 - 48) ≤ most
      → number_from most (n * 10 + (get_or s i 0 - 48)) (drop (i + 1) s) ≡ number_from most n (drop i s)
  unfolding number_from
  number_on h d l = rw (add-one i, drop-cons s i 0 h, d, le-leb (n * 10 + (get_or s i 0 - 48)) most l)

pub ruleset number_steps = (number_empty, number_some, number_end, number_no_digit, number_large, number_on)

-- an id without a sign, and one behind a minus
pub signed_empty : (s : List ℕ) → length s ≡ 0 → number 127 s ≡ signed s
unfolding signed number
signed_empty [] e = refl
signed_empty (c ∷ s) e = absurd (omega arith)

pub signed_plain : (s : List ℕ) → (get_or s 0 0 ≡ 45 → ⊥) → number 127 s ≡ signed s
unfolding signed number
signed_plain [] h = refl
signed_plain (c ∷ s) h = rw (ne_eqb c 45 h)

pub signed_minus : (s : List ℕ) → (length s ≡ 0 → ⊥) → get_or s 0 0 ≡ 45 → signed s ≡ negative (number 128 (between 1 (length s) s))
unfolding signed
signed_minus [] e h = absurd (e refl)
signed_minus (c ∷ s) e h = rw (eq-eqb c 45 h, rest_part_lem 1 (c ∷ s))

pub ruleset signed_steps = (signed_empty, signed_plain, signed_minus)
