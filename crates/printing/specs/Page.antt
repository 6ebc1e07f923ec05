-- What is promised of text that is put on a page. A page is seen as the text that is written.
use Rattle.std.specs.Prelude.{ℕ, ◌+◌, ◌≤◌, ◌≡◌, List, ◌++◌, length}

-- a text of at most so many octets stands behind what was written
abbrev pub WroteWithin : ℕ → List ℕ → List ℕ → List ℕ → Type 0
WroteWithin most page text after = (after ≡ page ++ text) × (length after ≤ length page + most)

-- a text of at most so many octets, alone on the page
abbrev pub Filled : ℕ → List ℕ → List ℕ → Type 0
Filled most text page = (page ≡ text) × (length page ≤ most)
