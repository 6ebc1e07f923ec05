-- Lines of text: how long they are, and what the loops that write them have left.
use Prim.Native.Nat.{ℕ, suc, ◌+◌, ◌*◌, ◌-◌, ◌/◌, ◌%◌, ◌≤◌, ◌<◌, min}
use mathlib.Core.Path.{◌≡◌, refl, sym, ap, ◌∙◌}
use mathlib.Core.List.{List, [], ◌∷◌, ◌++◌}
use mathlib.Core.Bool.{Bool, true, false, cond}
use native.Mathlib.Numerals.{add-one}
use native.Mathlib.Omega.{arith}
use lib.ListN.{length, take, drop, get_or, length-append, length-take, length-drop, drop_of_length-le}
use lib.Seq.{drop-cons, take-length}
use lib.Dec.{ltb}
use Rattle.std.proofs.lemmas.List.{take_min, drop_min}
use Rattle.octets.specs.Splice.{splice}
use Rattle.printing.specs.Lent.{WroteAt}
use Rattle.printing.specs.Utf8.{pictured, utf8, cell_text, row_text, text_rows}
use Rattle.printing.proofs.JoinLaws.{piece}

utf8-length : (c : ℕ) → length (utf8 c) ≤ 3
unfolding utf8
utf8-length c = go (ltb c 0x80) (ltb c 0x800)
  where
    go : (a b : Bool)
        → length (cond a (c ∷ []) (cond b ((0xC0 + c / 64) ∷ (0x80 + c % 64) ∷ []) ((0xE0 + c / 4096) ∷ (0x80 + c / 64 % 64) ∷ (0x80 + c % 64) ∷ []))) ≤ 3
    go true b = omega arith
    go false true = omega arith
    go false false = omega arith

pub cells-length : (s : List ℕ) → length (cell_text s) ≤ 3 * length s
unfolding cell_text
cells-length [] = omega arith
cells-length (c ∷ s) =
    let l = length-append (utf8 (pictured c)) (cell_text s) in
    let n = utf8-length (pictured c) in
    let r = cells-length s in
    omega arith

-- the first character that is left, and the others
pub first_cell : (i : ℕ) (s : List ℕ) → i < length s → cell_text (drop i s) ≡ utf8 (pictured (get_or s i 0)) ++ cell_text (drop (i + 1) s)
unfolding cell_text
first_cell i s h = rw (add-one i, drop-cons s i 0 h)

pub no_cell : (i : ℕ) (s : List ℕ) → length s ≤ i → cell_text (drop i s) ≡ []
unfolding cell_text
no_cell i s h = rw (drop_of_length-le s h)

-- characters of lines are parts of the text that lie apart
pub rows-length : (text rows : List ℕ) → length (text_rows text rows) ≤ 3 * length text + length rows
unfolding text_rows
rows-length text [] = omega arith
rows-length text (cells ∷ []) = omega arith
rows-length text (cells ∷ dropped ∷ rows) =
    let a = length-append (row_text (take cells text)) (text_rows (drop (cells + dropped) text) rows) in
    let b = length-append (cell_text (take cells text)) (10 ∷ []) in
    let n = cells-length (take cells text) in
    let t = length-take cells text in
    let d = length-drop (cells + dropped) text in
    let r = rows-length (drop (cells + dropped) text) rows in
    omega arith

-- no line is left
pub short : (text rows : List ℕ) → length rows ≤ 1 → text_rows text rows ≡ []
unfolding text_rows
short text [] h = refl
short text (cells ∷ []) h = refl
short text (cells ∷ dropped ∷ rows) h = absurd (omega arith)

-- one line more: the rest of the text and of the lines
pub row_more : (page start after text rows : List ℕ) (place behind to next most last : ℕ) → 2 ≤ length rows
    → to ≡ min (get_or rows 0 0) (length text) → next ≡ min (get_or rows 0 0 + get_or rows 1 0) (length text)
    → WroteAt (3 * length (take to text) + 1) page place (row_text (take to text)) after behind
    → most ≤ length page
    → place + 3 * length text + length rows ≤ most
    → splice page place (text_rows text rows) ≡ start
    → place + length (text_rows text rows) ≡ last
    → (behind + 3 * length (take (length text - next) (drop next text)) + length (take (length rows - 2) (drop 2 rows)) ≤ most)
    × ((splice after behind (text_rows (take (length text - next) (drop next text)) (take (length rows - 2) (drop 2 rows))) ≡ start)
    × (behind + length (text_rows (take (length text - next) (drop next text)) (take (length rows - 2) (drop 2 rows))) ≡ last))
unfolding text_rows
row_more page start after text [] place behind to next most last l a b w r h e f = absurd (omega arith)
row_more page start after text (cells ∷ []) place behind to next most last l a b w r h e f = absurd (omega arith)
row_more page start after text (cells ∷ dropped ∷ rows) place behind to next most last l a b w r h e f =
    let t : take to text ≡ take cells text = rw (a, take_min cells text) in
    let d : drop next text ≡ drop (cells + dropped) text = rw (b, drop_min (cells + dropped) text) in
    let n : length (take to text) ≡ to = length-take to text ∙ omega arith in
    let q : length (drop next text) ≡ length text - next = length-drop next text in
    let u : take (length text - next) (drop next text) ≡ drop (cells + dropped) text = ap (λ (k : ℕ). take k (drop next text)) (sym q) ∙ take-length (drop next text) ∙ d in
    let v : take (suc (suc (length rows)) - 2) rows ≡ rows = ap (λ (k : ℕ). take k rows) (omega arith) ∙ take-length rows in
    let o : length (drop (cells + dropped) text) ≡ length text - next = ap length (sym d) ∙ q in
    let m = rows-length text (cells ∷ dropped ∷ rows) in
    let p = piece page place (text_rows text (cells ∷ dropped ∷ rows)) (row_text (take cells text)) (text_rows (drop (cells + dropped) text) rows) after behind refl (omega arith) (rw t at w.0, rw t at w.1.0) in
    (rw (u, v, o) (omega (arith, w.1)), (rw (u, v) (p.0 ∙ e), rw (u, v) (p.1 ∙ f)))
