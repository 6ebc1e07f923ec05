-- A code that no test before the last line has met.
use Prim.Native.Nat.{ℕ}
use mathlib.Core.Path.{◌≡◌}
use mathlib.Core.List.{[]}
use borrow.Author.Tests.{ne_eqb}
use Rattle.reports.specs.Words.{refused_line, verdict_line}

pub refused_none : (code : ℕ) → (code ≡ 20 → ⊥) → (code ≡ 21 → ⊥) → (code ≡ 22 → ⊥) → (code ≡ 23 → ⊥) → (code ≡ 24 → ⊥) → (code ≡ 25 → ⊥) → (code ≡ 26 → ⊥) → (code ≡ 27 → ⊥) → (code ≡ 28 → ⊥) → (code ≡ 30 → ⊥) → (code ≡ 31 → ⊥) → refused_line code ≡ []
unfolding refused_line
refused_none code h0 h1 h2 h3 h4 h5 h6 h7 h8 h9 h10 =
    rw (ne_eqb code 20 h0, ne_eqb code 21 h1, ne_eqb code 22 h2, ne_eqb code 23 h3, ne_eqb code 24 h4, ne_eqb code 25 h5, ne_eqb code 26 h6, ne_eqb code 27 h7, ne_eqb code 28 h8, ne_eqb code 30 h9, ne_eqb code 31 h10)

pub verdict-none : (code : ℕ) → (code ≡ 0 → ⊥) → (code ≡ 1 → ⊥) → (code ≡ 2 → ⊥) → (code ≡ 3 → ⊥) → (code ≡ 4 → ⊥) → (code ≡ 5 → ⊥) → (code ≡ 6 → ⊥) → (code ≡ 7 → ⊥) → verdict_line code ≡ refused_line code
unfolding verdict_line
verdict-none code h0 h1 h2 h3 h4 h5 h6 h7 =
    rw (ne_eqb code 0 h0, ne_eqb code 1 h1, ne_eqb code 2 h2, ne_eqb code 3 h3, ne_eqb code 4 h4, ne_eqb code 5 h5, ne_eqb code 6 h6, ne_eqb code 7 h7)
