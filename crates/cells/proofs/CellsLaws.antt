-- The ways through the call.
use Prim.Native.Nat.{ℕ, ◌/◌, ◌≤◌, ◌<◌}
use mathlib.Core.Path.{◌≡◌, refl}
use mathlib.Core.List.{List}
use lib.ListN.{length}
use borrow.Author.Tests.{eq-eqb, ne_eqb, le-leb, lt-leb}
use Rattle.cells.specs.Characters.{string_text}
use Rattle.cells.specs.Lines.{lines_of}
use Rattle.cells.specs.Cells.{refused_layout, laid_out, cells}

module _ (scheme : ℕ) (string text lines : List ℕ) where
  pub other-scheme : (scheme ≡ 15 → ⊥) → cells scheme string text lines ≡ refused_layout 40 text lines
  unfolding cells
  other-scheme h = rw (ne_eqb _ _ h) refl

  module _ (e : scheme ≡ 15) where
    pub short-text : length text < length (string_text string) → cells scheme string text lines ≡ refused_layout 41 text lines
    unfolding cells
    short-text h = rw (eq-eqb _ _ e, lt-leb (length (string_text string)) (length text) h) refl

    module _ (fits : length (string_text string) ≤ length text) where
      pub short-lines : length lines / 2 < length (lines_of (string_text string)) → cells scheme string text lines ≡ refused_layout 41 text lines
      unfolding cells
      short-lines h = rw (eq-eqb _ _ e, le-leb _ _ fits, lt-leb (length (lines_of (string_text string))) (length lines / 2) h) refl

      pub with-room : length (lines_of (string_text string)) ≤ length lines / 2 → cells scheme string text lines ≡ laid_out (string_text string) text lines
      unfolding cells
      with-room h = rw (eq-eqb _ _ e, le-leb _ _ fits, le-leb (length (lines_of (string_text string))) (length lines / 2) h) refl
