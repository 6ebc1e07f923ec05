-- What is promised of text that is put into a lent page, at a place of it.
use Rattle.std.specs.Prelude.{ℕ, ◌+◌, ◌≤◌, ◌≡◌, List, length}
use Rattle.octets.specs.Splice.{splice}

-- the text stands at a place of the page, and the answer is the place behind it
abbrev pub Wrote : List ℕ → ℕ → List ℕ → List ℕ → ℕ → Type 0
Wrote page at text after behind = (after ≡ splice page at text) × (behind ≡ at + length text)

-- a text of at most so many octets
abbrev pub WroteAt : ℕ → List ℕ → ℕ → List ℕ → List ℕ → ℕ → Type 0
WroteAt most page at text after behind = (after ≡ splice page at text) × ((behind ≡ at + length text) × (behind ≤ at + most))

-- a text at the start of the page; the answer is how long it is
abbrev pub FilledAt : ℕ → List ℕ → List ℕ → List ℕ → ℕ → Type 0
FilledAt most page text after written = (after ≡ splice page 0 text) × ((written ≡ length text) × (written ≤ most))
