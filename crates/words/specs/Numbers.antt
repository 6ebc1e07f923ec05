-- "words and decimal numbers": "FLAG, VALUE, OPERATION and CODE are 0 to 255, ID is -128 to 127."
use Rattle.std.specs.Prelude.{ℕ, ◌+◌, ◌*◌, ◌-◌, ◌%◌, ◌≤◌, ◌≡◌, List, [], ◌∷◌, Bool, cond, ◌&&◌, eqb, leb, ℤ, Option, None, Some}
use Rattle.codes.specs.Ids.{id_of}
use Rattle.words.specs.Words.{word_at, spelled}
use Rattle.words.specs.declared.At.{At}

abbrev pub digit : ℕ → Bool
digit c = leb 48 c && leb c 57

-- digits from left to right, n so far; a number that passes the most is none
unfoldable pub number_from : ℕ → ℕ → List ℕ → Option ℕ
number_from most n [] = Some n
number_from most n (c ∷ s) = cond (digit c && leb (n * 10 + (c - 48)) most) (number_from most (n * 10 + (c - 48)) s) None

-- at least one digit
unfoldable pub number : ℕ → List ℕ → Option ℕ
number most [] = None
number most (c ∷ s) = number_from most 0 (c ∷ s)

abbrev pub AtMost : ℕ → Option ℕ → Type 0
AtMost most None = Unit {0}
AtMost most (Some n) = n ≤ most

abbrev pub ReadsNumber : ℕ → List ℕ → Option ℕ → Type 0
ReadsNumber most word r = (r ≡ number most word) × AtMost most r

-- the octet of a number that stands behind a minus, two's complement
abbrev pub negative : Option ℕ → Option ℕ
negative None = None
negative (Some n) = Some ((256 - n) % 256)

-- the octet of an id
unfoldable pub signed : List ℕ → Option ℕ
signed [] = None
signed (c ∷ s) = cond (eqb c 45) (negative (number 128 s)) (number 127 (c ∷ s))

abbrev pub ReadsSigned : List ℕ → Option ℕ → Type 0
ReadsSigned word r = (r ≡ signed word) × AtMost 255 r

abbrev pub octet_spelled : ℕ → Option ℕ → Option (At ℕ)
octet_spelled next None = None
octet_spelled next (Some n) = Some (record { value = n; next = next })

abbrev pub id_spelled : ℕ → Option ℕ → Option (At ℤ)
id_spelled next None = None
id_spelled next (Some n) = Some (record { value = id_of n; next = next })

-- the next word from a place on as a number, and the place behind it
unfoldable pub octet_at : List ℕ → ℕ → Option (At ℕ)
octet_at s at = octet_spelled (word_at s at).end (number 255 (spelled s (word_at s at)))

unfoldable pub id_at : List ℕ → ℕ → Option (At ℤ)
id_at s at = id_spelled (word_at s at).end (signed (spelled s (word_at s at)))
