-- A line of the bench is words with blanks between them.
use Rattle.std.specs.Prelude.{ℕ, suc, ◌+◌, List, [], ◌∷◌, Bool, true, false, cond, ◌||◌, ◌&&◌, drop, eqb}
use Rattle.octets.specs.Part.{between}
use Rattle.octets.specs.declared.Span.{Span}

-- a space, a tab or a carriage return
abbrev pub blank : ℕ → Bool
blank c = eqb c 32 || eqb c 9 || eqb c 13

-- how many blanks a list starts with
unfoldable pub blanks : List ℕ → ℕ
blanks [] = 0
blanks (c ∷ s) = cond (blank c) (suc (blanks s)) 0

-- how many octets stand before the first blank
unfoldable pub letters : List ℕ → ℕ
letters [] = 0
letters (c ∷ s) = cond (blank c) 0 (suc (letters s))

-- the next word from a place on: blanks, then letters up to the next blank or the end
unfoldable pub word_from : List ℕ → ℕ → Span
word_from s start = record { start = start; end = start + letters (drop start s) }

unfoldable pub word_at : List ℕ → ℕ → Span
word_at s at = word_from s (at + blanks (drop at s))

-- its letters
abbrev pub spelled : List ℕ → Span → List ℕ
spelled s w = between w.start w.end s

unfoldable pub same : List ℕ → List ℕ → Bool
same [] [] = true
same [] (b ∷ t) = false
same (a ∷ s) [] = false
same (a ∷ s) (b ∷ t) = eqb a b && same s t
