-- A line of at most forty cells is printed as at most forty characters.
use Prim.Native.Nat.{ℕ, suc, ◌+◌, ◌/◌, ◌%◌, ◌≤◌, ◌<◌}
use mathlib.Core.Path.{◌≡◌, refl, ◌∙◌}
use mathlib.Core.List.{List, [], ◌∷◌, ◌++◌, append_assoc}
use mathlib.Core.Bool.{Bool, true, false, cond}
use native.Mathlib.Omega.{arith}
use lib.ListN.{length, take, drop, length-take}
use lib.Dec.{eqb, ltb}
use borrow.Author.Tests.{eqb-false, lt-ltb, ltb-true, le-ltb, le-leb, lt-leb, ne_eqb}
use Rattle.printing.specs.Forty.{goes_on, forty_from, forty}
use Rattle.printing.specs.Utf8.{pictured, utf8, cell_text, row_text, text_rows, ShortRows}
use Rattle.printing.proofs.FortyLaws.{forty-append, line-end}

-- no character breaks the line
unbroken : (c : ℕ) → pictured c ≡ 10 → ⊥
unfolding pictured
unbroken c = go (eqb c 0x0A) refl (eqb c 0x0C) (eqb c 0x0D)
  where
    go : (a : Bool) → eqb c 0x0A ≡ a → (b d : Bool) → cond a 0x240A (cond b 0x240C (cond d 0x240D c)) ≡ 10 → ⊥
    go true e b d h = omega arith
    go false e true d h = omega arith
    go false e false true h = omega arith
    go false e false false h = eqb-false c 0x0A e h

-- an octet that begins a character, and one that goes on with it
begins : (o column : ℕ) (s : List ℕ) → (o ≡ 10 → ⊥) → goes_on o ≡ false → forty_from column (o ∷ s) ≡ forty_from (suc column) s
unfolding forty_from
begins o column s n g = rw (ne_eqb o 10 n, g)

on : (o column : ℕ) (s : List ℕ) → 0x80 ≤ o → o < 0xC0 → forty_from column (o ∷ s) ≡ forty_from column s
unfolding forty_from
on o column s l h = rw (ne_eqb o 10 (λ e. omega arith), le-leb 0x80 o l, lt-ltb o 0xC0 h)

-- a character is one, however many octets it has
one : (c column : ℕ) (s : List ℕ) → (c ≡ 10 → ⊥) → forty_from column (utf8 c ++ s) ≡ forty_from (suc column) s
unfolding utf8
one c column s n = go (ltb c 0x80) refl (ltb c 0x800)
  where
    last : forty_from (suc column) ((0x80 + c % 64) ∷ s) ≡ forty_from (suc column) s
    last = on (0x80 + c % 64) (suc column) s (omega arith) (omega arith)

    high : (o : ℕ) (t : List ℕ) → 0xC0 ≤ o → forty_from column (o ∷ t) ≡ forty_from (suc column) t
    high o t h = begins o column t (λ e. omega arith) (rw (le-leb 0x80 o (omega arith), le-ltb o 0xC0 h))

    go : (a : Bool) → ltb c 0x80 ≡ a → (b : Bool)
        → forty_from column (cond a (c ∷ []) (cond b ((0xC0 + c / 64) ∷ (0x80 + c % 64) ∷ []) ((0xE0 + c / 4096) ∷ (0x80 + c / 64 % 64) ∷ (0x80 + c % 64) ∷ [])) ++ s)
        ≡ forty_from (suc column) s
    go true e b = begins c column s n (rw (lt-leb 0x80 c (ltb-true c 0x80 e)))
    go false e true = high (0xC0 + c / 64) ((0x80 + c % 64) ∷ s) (omega arith) ∙ last
    go false e false =
        high (0xE0 + c / 4096) ((0x80 + c / 64 % 64) ∷ (0x80 + c % 64) ∷ s) (omega arith)
        ∙ on (0x80 + c / 64 % 64) (suc column) ((0x80 + c % 64) ∷ s) (omega arith) (omega arith)
        ∙ last

cells-forty : (column : ℕ) (s : List ℕ) → column + length s ≤ 40 → forty_from column (row_text s) ≡ true
unfolding cell_text
cells-forty column [] h = line-end column (omega arith)
cells-forty column (c ∷ s) h =
    rw (append_assoc (utf8 (pictured c)) (cell_text s) (10 ∷ []), one (pictured c) column (cell_text s ++ (10 ∷ [])) (unbroken c))
    (cells-forty (suc column) s (omega arith))

row-forty : (s : List ℕ) → length s ≤ 40 → forty (row_text s) ≡ true
unfolding forty
row-forty s h = cells-forty 0 s (omega arith)

pub rows-forty : (text rows : List ℕ) → ShortRows rows → forty (text_rows text rows) ≡ true
unfolding text_rows forty forty_from
rows-forty text [] h = refl
rows-forty text (cells ∷ []) h = refl
rows-forty text (cells ∷ dropped ∷ rows) h =
    let n = length-take cells text in
    forty-append (row_text (take cells text)) (text_rows (drop (cells + dropped) text) rows) (row-forty (take cells text) (omega (arith, h.0)))
    (rows-forty (drop (cells + dropped) text) rows h.1)
