-- The lines of a text: whether they are printed, and how wide they are.
use Prim.Native.Nat.{ℕ, ◌*◌}
use mathlib.Core.Path.{◌≡◌, refl}
use mathlib.Core.List.{List, [], ◌∷◌, ◌++◌, append_assoc}
use mathlib.Core.Bool.{Bool, true, false}
use native.Mathlib.Omega.{arith}
use lib.ListN.{length, take, drop, replicate}
use lib.Seq.{take-length, take_at, drop_at, take-append_seam, drop-append-add}
use lib.Dec.{eqb}
use borrow.Author.Tests.{eq-eqb, ne_eqb, eqb-true, eqb-false}
use Rattle.octets.proofs.SpliceLaws.{splice_front}
use Rattle.printing.specs.Lines.{number_line}
use Rattle.printing.specs.Forty.{forty_from, forty, plain}
use Rattle.printing.specs.Utf8.{text_rows, ShortRows}
use Rattle.printing.proofs.FortyLaws.{forty-append, number-forty}
use Rattle.printing.proofs.TextFortyLaws.{rows-forty}
use Rattle.showing.specs.Views.{standing}
use Rattle.cells.specs.Characters.{string_text}
use Rattle.cells.specs.Lines.{lines_of, line_octets}
use Rattle.cells.specs.Cells.{Layout, cells}
use Rattle.cells.specs.Broken.{Broken, FortyCells}
use Rattle.cells.specs.Broken.Broken.{ends, at_space, after_forty}
use Rattle.cells.specs.Alphabet.{space}
use Rattle.cells.specs.declared.rows.Line.{Line}
use Rattle.cells.proofs.BrokenLaws.{as-asked, at-most-forty}
use Rattle.cells.proofs.RoomLaws.{room-enough, read-in-c}
use Rattle.reports.specs.Words.{lines_word}
use Rattle.reports.specs.Shown.{laid_lines, cell_lines, LinesFollow}

module _ (o : Layout) where
  pub not-laid : (o.laid.code ≡ 0 → ⊥) → laid_lines o ≡ []
  unfolding laid_lines
  not-laid h = rw (ne_eqb o.laid.code 0 h) refl

  pub laid : o.laid.code ≡ 0 → laid_lines o ≡ number_line lines_word o.laid.lines ++ text_rows o.text (take (2 * o.laid.lines) o.lines)
  unfolding laid_lines
  laid e = rw (eq-eqb o.laid.code 0 e) refl

short-rows : (ls : List Line) → FortyCells ls → ShortRows (line_octets ls)
unfolding line_octets
short-rows [] h = tt
short-rows (l ∷ ls) h = (h.0, short-rows ls h.1.1)

-- each line has at most forty characters
pub cells-forty : (scheme : ℕ) (string : List ℕ) → forty (cell_lines scheme string) ≡ true
unfolding cell_lines forty forty_from plain
cells-forty scheme string = go (eqb o.laid.code 0) refl
  where
    o : Layout
    o = cells scheme string (replicate 182 0) (replicate 18 0)

    go : (b : Bool) → eqb o.laid.code 0 ≡ b → forty (laid_lines o) ≡ true
    go false e = rw (not-laid o (eqb-false o.laid.code 0 e)) refl
    go true e =
        let z = eqb-true o.laid.code 0 e in
        let r = read-in-c scheme string (replicate 182 0) (replicate 18 0) z in
        rw (laid o z, r.1)
        (forty-append (number_line lines_word o.laid.lines) (text_rows o.text (line_octets (lines_of (string_text string))))
        (number-forty lines_word o.laid.lines refl (omega arith))
        (rows-forty o.text (line_octets (lines_of (string_text string))) (short-rows (lines_of (string_text string)) (at-most-forty (string_text string)))))

-- what stands behind a text is in none of its lines
rows_more : (text : List ℕ) (lines : List Line) (x : List ℕ) → Broken text lines → text_rows (text ++ x) (line_octets lines) ≡ text_rows text (line_octets lines)
unfolding text_rows line_octets
rows_more _ _ x (ends text h) = rw (take-append_seam text x, take-length text)
rows_more _ _ x (at_space cells near far more h n b) =
    let r = rows_more (near ++ far) more x b in
    rw (append_assoc cells (space ∷ (near ++ far)) x, take-append_seam cells (space ∷ ((near ++ far) ++ x)), take-append_seam cells (space ∷ (near ++ far)), drop-append-add cells (space ∷ ((near ++ far) ++ x)) 1, drop-append-add cells (space ∷ (near ++ far)) 1, r)
rows_more _ _ x (after_forty cells next far more h n b) =
    let r = rows_more (next ∷ far) more x b in
    rw (append_assoc cells (next ∷ far) x, take_at cells (next ∷ (far ++ x)) 40 h, take_at cells (next ∷ far) 40 h, drop_at cells (next ∷ (far ++ x)) 40 h, drop_at cells (next ∷ far) 40 h, r)

-- of a received message the lines are always printed
pub lines-follow : LinesFollow
unfolding cell_lines
lines-follow t m b r e there scheme =
    let f = room-enough t m b (replicate 182 0) (replicate 18 0) (omega arith) (omega arith) r e there scheme in
    let c : (cells r.text.scheme (standing m r.text.string) (replicate 182 0) (replicate 18 0)).laid.code ≡ 0 = rw f refl in
    let k = read-in-c r.text.scheme (standing m r.text.string) (replicate 182 0) (replicate 18 0) c in
    let s = string_text (standing m r.text.string) in
    rw (laid (cells r.text.scheme (standing m r.text.string) (replicate 182 0) (replicate 18 0)) c, k.1, f, splice_front (replicate 182 0) s, rows_more s (lines_of s) (drop (length s) (replicate 182 0)) (as-asked s)) refl
