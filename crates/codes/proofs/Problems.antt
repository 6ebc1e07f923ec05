-- The problems of steps 5 and 6 that we write, one by one, and their neighbours, which we never write.
use mathlib.Core.Path.{◌≡◌, refl}
use mathlib.Core.List.{List, [], ◌∷◌}
use mathlib.Core.Bool.{Bool, true, false}
use Prim.Native.Nat.{ℕ}
use Rattle.codes.specs.Problems.{general_problem, invoke_problem, result_problem, error_problem, is_problem}

-- the numbers 0 to 8 under a tag
abbrev row : ℕ → List Bool
row tag =
    is_problem tag 0 ∷ is_problem tag 1 ∷ is_problem tag 2 ∷ is_problem tag 3 ∷ is_problem tag 4 ∷ is_problem tag 5 ∷ is_problem tag 6 ∷ is_problem tag 7 ∷ is_problem tag 8 ∷ []

pub problems-told :
    (row general_problem ≡ true ∷ true ∷ true ∷ false ∷ false ∷ false ∷ false ∷ false ∷ false ∷ [])
    × ((row invoke_problem ≡ true ∷ true ∷ true ∷ true ∷ false ∷ true ∷ true ∷ true ∷ false ∷ [])
    × ((row result_problem ≡ true ∷ false ∷ true ∷ false ∷ false ∷ false ∷ false ∷ false ∷ false ∷ [])
    × (row error_problem ≡ true ∷ false ∷ true ∷ true ∷ false ∷ false ∷ false ∷ false ∷ false ∷ [])))
problems-told = (refl, (refl, (refl, refl)))
