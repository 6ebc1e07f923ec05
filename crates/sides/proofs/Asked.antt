-- What was asked of a side under an id, as the code hands the id on.
use Prim.Native.Nat.{ℕ}
use mathlib.Core.Path.{◌≡◌, sym, ap, ◌∙◌}
use mathlib.Core.List.{List}
use mathlib.Core.Bool.{Bool, true, false, not}
use borrow.Author.Tests.{eq-eqb, ne_eqb, not-true, not-false}
use lib.IntN.{ℤ}
use lib.Dec.{eqb}
use Rattle.codes.proofs.IdLaws.{as_held, IsId, held-is}
use Rattle.sides.specs.Side.{Waiting, among, operation_of}

pub among-is : {b : Bool} {id : ℤ} (ws : List Waiting) → IsId id → b ≡ among (as_held id) ws → b ≡ among id ws
among-is ws h e = e ∙ ap (λ (i : ℤ). among i ws) (held-is h)

pub operation-is : {n : ℕ} {id : ℤ} (ws : List Waiting) → IsId id → n ≡ operation_of (as_held id) ws → n ≡ operation_of id ws
operation-is ws h e = e ∙ ap (λ (i : ℤ). operation_of i ws) (held-is h)

-- the operation that waits under an id is 0 only where none does
module _ (n : ℕ) (id : ℤ) (ws : List Waiting) (h : IsId id) (e : eqb n 0 ≡ not (among (as_held id) ws)) where
  told : eqb n 0 ≡ not (among id ws)
  told = rw (held-is h) at e

  pub is_none : n ≡ 0 → among id ws ≡ false
  is_none z = not-true (among id ws) (sym told ∙ eq-eqb n 0 z)

  pub is-there : (n ≡ 0 → ⊥) → among id ws ≡ true
  is-there z = not-false (among id ws) (sym told ∙ ne_eqb n 0 z)
