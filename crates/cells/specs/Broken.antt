-- What the lines of a text are, in the words of 02, and that they can be no others.
use Rattle.std.specs.Prelude.{ℕ, ◌+◌, ◌*◌, ◌≤◌, ◌≡◌, List, [], ◌∷◌, ◌++◌, length, take, drop, replicate}
use Rattle.cells.specs.Alphabet.{space}
use Rattle.cells.specs.Lines.{line, extent, lines_of}
use Rattle.cells.specs.declared.rows.Line.{Line}

abbrev pub Spaceless : List ℕ → Type 0
Spaceless [] = Unit {0}
Spaceless (c ∷ s) = (c ≡ space → ⊥) × Spaceless s

pub data Broken : List ℕ → List Line → Type 0 where
  -- forty characters or fewer are the last line
  ends : (text : List ℕ) → length text ≤ 40 → Broken text (line (length text) 0 ∷ [])
  -- "broken at the last space among its first forty-one characters, which is dropped": none of those behind it is a space
  at_space : (cells near far : List ℕ) (more : List Line) → length cells + 1 + length near ≡ 41 → Spaceless near → Broken (near ++ far) more
      → Broken (cells ++ (space ∷ (near ++ far))) (line (length cells) 1 ∷ more)
  -- "else after forty": none of the forty-one is a space
  after_forty : (cells : List ℕ) (next : ℕ) (far : List ℕ) (more : List Line) → length cells ≡ 40 → Spaceless (cells ++ (next ∷ [])) → Broken (next ∷ far) more
      → Broken (cells ++ (next ∷ far)) (line 40 0 ∷ more)

abbrev pub AsAsked : Type 0
AsAsked = (text : List ℕ) → Broken text (lines_of text)

-- "the lines are determined by the text"
abbrev pub NoOther : Type 0
NoOther = (text : List ℕ) (lines : List Line) → Broken text lines → lines ≡ lines_of text

-- "lines of at most forty cells"
abbrev pub FortyCells : List Line → Type 0
FortyCells [] = Unit {0}
FortyCells (l ∷ s) = (l.cells ≤ 40) × ((l.dropped ≤ 1) × FortyCells s)

abbrev pub AtMostForty : Type 0
AtMostForty = (text : List ℕ) → FortyCells (lines_of text)

-- "The lines joined with the spaces dropped at breaks": each line's cells, and a space where one was dropped
unfoldable pub joined : List ℕ → List Line → List ℕ
joined text [] = []
joined text (l ∷ s) = take l.cells text ++ replicate l.dropped space ++ joined (drop (extent l) text) s

-- they "give the text back"
abbrev pub GiveBack : Type 0
GiveBack = (text : List ℕ) → joined text (lines_of text) ≡ text

-- "Two broken lines in a row take at least 41 characters."
abbrev pub FewLines : Type 0
FewLines = (text : List ℕ) → 41 * length (lines_of text) ≤ 2 * length text + 41
