-- Steps in a row, each from the table that the one before left. What a step does to a table is an argument: a message is
-- received, a local call is made, or either.
use Rattle.std.specs.Prelude.{List, [], ◌∷◌, ℕ}
use Rattle.telephone.specs.Outcome.{Outcome}

-- what each of them returns and leaves
unfoldable pub outcomes : {Step : Type 0} → (List ℕ → Step → Outcome) → List ℕ → List Step → List Outcome
outcomes does table [] = []
outcomes does table (step ∷ others) = does table step ∷ outcomes does (does table step).table others

-- the table behind the last
unfoldable pub table_after : {Step : Type 0} → (List ℕ → Step → Outcome) → List ℕ → List Step → List ℕ
table_after does table [] = table
table_after does table (step ∷ others) = table_after does (does table step).table others
