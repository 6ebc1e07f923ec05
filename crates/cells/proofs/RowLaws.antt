-- The ways through the functions that break a line.
use Prim.Native.Nat.{ℕ, zero, suc, ◌-◌, ◌≤◌, ◌<◌}
use mathlib.Core.Path.{◌≡◌, refl}
use mathlib.Core.List.{[], ◌∷◌}
use native.Mathlib.Omega.{arith}
use borrow.Author.Tests.{lt-ltb, le-ltb}
use Rattle.cells.specs.Lines.{line, broken_at, extent}
use Rattle.cells.specs.Rows.{line_of, left_of, ended_by}
use Rattle.cells.specs.declared.rows.Row.{Row}

-- a line broken at its last space
broken-there : (kept : ℕ) → (kept ≡ 0 → ⊥) → line (kept - 1) 1 ≡ broken_at kept
broken-there zero h = absurd (h refl)
broken-there (suc k) h = let e : suc k - 1 ≡ k = omega arith in rw e refl

extent-there : (kept : ℕ) → (kept ≡ 0 → ⊥) → extent (broken_at kept) ≡ kept
extent-there zero h = absurd (h refl)
extent-there (suc k) h = omega arith

module _ (row : Row) where
  pub last_line_lem : row.width ≤ 40 → line row.width 0 ≡ line_of row
  unfolding line_of
  last_line_lem h = rw (le-ltb 40 row.width h)

  pub forty-line : 40 < row.width → row.kept ≡ 0 → line 40 0 ≡ line_of row
  unfolding line_of
  forty-line h e = rw (lt-ltb 40 row.width h, e)

  pub space-line : 40 < row.width → (row.kept ≡ 0 → ⊥) → line (row.kept - 1) 1 ≡ line_of row
  unfolding line_of
  space-line h e = rw (lt-ltb 40 row.width h) (broken-there row.kept e)

  pub left-whole : row.width ≤ 40 → row ≡ left_of row
  unfolding left_of
  left-whole h = rw (le-ltb 40 row.width h)

  pub left-forty : 40 < row.width → row.kept ≡ 0 → record { width = row.width - 40; kept = 0 } ≡ left_of row
  unfolding left_of
  left-forty h e = rw (lt-ltb 40 row.width h, e)

  pub left-space : 40 < row.width → (row.kept ≡ 0 → ⊥) → record { width = row.width - row.kept; kept = 0 } ≡ left_of row
  unfolding left_of
  left-space h e = rw (lt-ltb 40 row.width h, extent-there row.kept e)

  -- the line that ends with a row's last character
  pub none-ends : row.width ≤ 40 → ended_by row ≡ []
  none-ends h = rw (le-ltb 40 row.width h) refl

  pub one-ends : 40 < row.width → ended_by row ≡ line_of row ∷ []
  one-ends h = rw (lt-ltb 40 row.width h) refl
