-- A history in two parts: the second goes on from the table that the first left.
use Prim.Native.Nat.{ℕ}
use mathlib.Core.Path.{◌≡◌, refl, ap}
use mathlib.Core.List.{List, [], ◌∷◌, ◌++◌}
use Rattle.telephone.specs.Outcome.{Outcome}
use Rattle.telephone.specs.History.{outcomes, table_after}

module _ {Step : Type 0} (does : List ℕ → Step → Outcome) where
  pub table-append : (t : List ℕ) (a b : List Step) → table_after does t (a ++ b) ≡ table_after does (table_after does t a) b
  unfolding table_after
  table-append t [] b = refl
  table-append t (x ∷ a) b = table-append (does t x).table a b

  pub outcomes-append : (t : List ℕ) (a b : List Step) → outcomes does t (a ++ b) ≡ outcomes does t a ++ outcomes does (table_after does t a) b
  unfolding outcomes table_after
  outcomes-append t [] b = refl
  outcomes-append t (x ∷ a) b = ap (λ (l : List Outcome). does t x ∷ l) (outcomes-append (does t x).table a b)
