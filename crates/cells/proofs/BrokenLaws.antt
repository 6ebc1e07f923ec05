-- The lines of a text are the ones that 02 asks for, and no others are; none is longer than forty, and joined they give the text back.
use Prim.Native.Nat.{ℕ, zero, suc, ◌+◌, ◌≤◌, ◌<◌}
use mathlib.Core.Path.{◌≡◌, refl, sym, ap, ◌∙◌}
use mathlib.Core.List.{List, [], ◌∷◌, ◌++◌, append_assoc, append-nil}
use mathlib.Core.Bool.{Bool, true, false}
use native.Mathlib.Omega.{arith}
use lib.ListN.{length, take, drop, get_or, length-append, take-append-drop}
use lib.Seq.{take-length, take_all, take-suc, take_at, drop_at, take-append_seam, drop-append-add, append_snoc, length-take-le}
use lib.Dec.{eqb, leb}
use borrow.Author.Tests.{eqb-true, eq-eqb, ne_eqb, leb-true, leb-false}
use Rattle.cells.specs.Alphabet.{space}
use Rattle.cells.specs.Lines.{up_to_space, line, lines_of}
use Rattle.cells.specs.Broken.{Spaceless, Broken, AsAsked, NoOther, FortyCells, AtMostForty, joined, GiveBack}
use Rattle.cells.specs.Broken.Broken.{ends, at_space, after_forty}
use Rattle.cells.specs.declared.rows.Line.{Line}
use Rattle.cells.proofs.LineLaws.{append-spaced, drop-spaceless, short-lines, lines-over, front-spaced, behind-space}

-- where no character is a space, there is no last one
pub spaceless-none : (s : List ℕ) → Spaceless s → up_to_space s ≡ 0
unfolding up_to_space
spaceless-none [] h = refl
spaceless-none (c ∷ s) h = rw (spaceless-none s h.1, ne_eqb c space h.0)

-- where there is no last space, no character is one
pub none-spaceless : (s : List ℕ) → up_to_space s ≡ 0 → Spaceless s
unfolding up_to_space
none-spaceless [] h = tt
none-spaceless (c ∷ s) h =
    let n : up_to_space s ≡ 0 = drop-spaceless 1 (c ∷ s) h in
    (λ e. (let z : ◌≡◌ {A = ℕ} 1 0 = rw (n, eq-eqb c space e) at h in omega arith), none-spaceless s n)

-- a space with none behind it is the last one
pub last-space : (cells near : List ℕ) → Spaceless near → up_to_space (cells ++ (space ∷ near)) ≡ suc (length cells)
unfolding up_to_space
last-space cells near h =
    let n : up_to_space (space ∷ near) ≡ 1 = rw (spaceless-none near h) in
    let e = append-spaced cells (space ∷ near) (rw n (omega arith)) in
    omega arith

-- where the last space is, a space is
pub at-space : (s : List ℕ) (j : ℕ) → up_to_space s ≡ suc j → s ≡ take j s ++ (space ∷ drop (suc j) s)
unfolding up_to_space
at-space [] j h = absurd (omega arith)
at-space (c ∷ s) j h = go (up_to_space s) refl (λ i e. at-space s i e)
  where
    first : (t : Bool) → eqb c space ≡ t → up_to_space s ≡ 0 → c ∷ s ≡ take j (c ∷ s) ++ (space ∷ drop j s)
    first true e n = let z : j ≡ 0 = omega (arith, rw (n, e) at h) in rw (z, eqb-true c space e)
    first false e n = let z : ◌≡◌ {A = ℕ} 0 (suc j) = rw (n, e) at h in absurd (omega arith)

    go : (k : ℕ) → up_to_space s ≡ k → ((i : ℕ) → up_to_space s ≡ suc i → s ≡ take i s ++ (space ∷ drop (suc i) s))
        → c ∷ s ≡ take j (c ∷ s) ++ (space ∷ drop j s)
    go zero e more = first (eqb c space) refl e
    go (suc i) e more =
        let z : j ≡ suc i = omega (arith, front-spaced c (up_to_space s) (rw e (omega arith))) in
        rw z (ap {B = List ℕ} (λ r. c ∷ r) (more i e))

-- a text that is broken at a space, and its lines
pub lines-at-space : (cells near far : List ℕ) → length cells + 1 + length near ≡ 41 → Spaceless near
    → lines_of (cells ++ (space ∷ (near ++ far))) ≡ line (length cells) 1 ∷ lines_of (near ++ far)
lines-at-space cells near far h n =
    let l = length-append cells (space ∷ near) in
    ap lines_of (sym (append_assoc cells (space ∷ near) far))
    ∙ lines-over (cells ++ (space ∷ near)) far (omega arith)
    ∙ rw (last-space cells near n, drop-append-add cells (space ∷ near) 1)

-- a text that is broken after forty, and its lines
pub lines-after-forty : (cells : List ℕ) (next : ℕ) (far : List ℕ) → length cells ≡ 40 → Spaceless (cells ++ (next ∷ []))
    → lines_of (cells ++ (next ∷ far)) ≡ line 40 0 ∷ lines_of (next ∷ far)
lines-after-forty cells next far h n =
    let l = length-append cells (next ∷ []) in
    ap lines_of (sym (append_snoc cells next far))
    ∙ lines-over (cells ++ (next ∷ [])) far (omega arith)
    ∙ rw (spaceless-none (cells ++ (next ∷ [])) n, drop_at cells (next ∷ []) 40 h)

-- the three ways in which a text begins
data Front : List ℕ → Type 0 where
  last : (text : List ℕ) → length text ≤ 40 → Front text
  spaced : (cells near far : List ℕ) → length cells + 1 + length near ≡ 41 → Spaceless near → Front (cells ++ (space ∷ (near ++ far)))
  full : (cells : List ℕ) (next : ℕ) (far : List ℕ) → length cells ≡ 40 → Spaceless (cells ++ (next ∷ [])) → Front (cells ++ (next ∷ far))

-- forty-one characters with a last space, and what stands behind them
spaced-front : (q cells near far : List ℕ) → q ≡ cells ++ (space ∷ near) → length q ≡ 41 → up_to_space near ≡ 0 → Front (q ++ far)
spaced-front q cells near far e h n =
    let l = ap length e ∙ length-append cells (space ∷ near) in
    rw (e, append_assoc cells (space ∷ near) far) (spaced cells near far (omega arith) (none-spaceless near n))

-- forty-one characters without a space, and what stands behind them
full-front : (q cells : List ℕ) (next : ℕ) (far : List ℕ) → q ≡ cells ++ (next ∷ []) → length cells ≡ 40 → up_to_space q ≡ 0 → Front (q ++ far)
full-front q cells next far e h n =
    rw (e, append_snoc cells next far) (full cells next far h (none-spaceless (cells ++ (next ∷ [])) (rw e at n)))

-- forty-one characters, and what stands behind them
front-over : (q far : List ℕ) → length q ≡ 41 → Front (q ++ far)
front-over q far h = go (up_to_space q) refl
  where
    go : (k : ℕ) → up_to_space q ≡ k → Front (q ++ far)
    go zero e =
        full-front q (take 40 q) (get_or q 40 0) far (sym (take_all 41 q (omega arith)) ∙ take-suc q 40 0 (omega arith)) (length-take-le 40 q (omega arith)) e
    go (suc j) e = spaced-front q (take j q) (drop (suc j) q) far (at-space q j e) h (rw e at (behind-space q))

-- every text begins in one of the three ways
front : (text : List ℕ) → Front text
front text = go (leb (length text) 40) refl
  where
    go : (t : Bool) → leb (length text) 40 ≡ t → Front text
    go true e = last text (leb-true (length text) 40 e)
    go false e =
        let l = leb-false (length text) 40 e in
        rw (take-append-drop 41 text) at (front-over (take 41 text) (drop 41 text) (length-take-le 41 text l))

-- each text as it begins, the rest being as asked
asked_by : (text : List ℕ) → Front text → ((rest : List ℕ) → length rest < length text → Broken rest (lines_of rest)) → Broken text (lines_of text)
asked_by _ (last text h) more = rw (short-lines text h) (ends text h)
asked_by _ (spaced cells near far h n) more =
    let l = length-append cells (space ∷ (near ++ far)) in
    rw (lines-at-space cells near far h n) (at_space cells near far (lines_of (near ++ far)) h n (more (near ++ far) (omega arith)))
asked_by _ (full cells next far h n) more =
    let l = length-append cells (next ∷ far) in
    rw (lines-after-forty cells next far h n) (after_forty cells next far (lines_of (next ∷ far)) h n (more (next ∷ far) (omega arith)))

-- texts shorter than n
asked-to : (n : ℕ) (text : List ℕ) → length text < n → Broken text (lines_of text)
asked-to zero text h = absurd (omega arith)
asked-to (suc n) text h = asked_by text (front text) (λ rest l. asked-to n rest (omega arith))

-- the lines are as 02 asks
pub as-asked : AsAsked
as-asked text = asked-to (suc (length text)) text (omega arith)

-- and no others are
pub no_other : NoOther
no_other _ _ (ends text h) = sym (short-lines text h)
no_other _ _ (at_space cells near far more h n b) =
    ap {B = List Line} (λ ls. line (length cells) 1 ∷ ls) (no_other (near ++ far) more b) ∙ sym (lines-at-space cells near far h n)
no_other _ _ (after_forty cells next far more h n b) =
    ap {B = List Line} (λ ls. line 40 0 ∷ ls) (no_other (next ∷ far) more b) ∙ sym (lines-after-forty cells next far h n)

-- no line that is as asked has more than forty cells
broken-forty : (text : List ℕ) (lines : List Line) → Broken text lines → FortyCells lines
broken-forty _ _ (ends text h) = (h, (omega arith, tt))
broken-forty _ _ (at_space cells near far more h n b) = (omega arith, (omega arith, broken-forty (near ++ far) more b))
broken-forty _ _ (after_forty cells next far more h n b) = (omega arith, (omega arith, broken-forty (next ∷ far) more b))

-- no line has more than forty cells
pub at-most-forty : AtMostForty
at-most-forty text = broken-forty text (lines_of text) (as-asked text)

-- lines that are as asked, joined with the spaces dropped at breaks, are the text
broken-joined : (text : List ℕ) (lines : List Line) → Broken text lines → joined text lines ≡ text
unfolding joined
broken-joined _ _ (ends text h) = simp (take-length, append-nil)
broken-joined _ _ (at_space cells near far more h n b) =
    let r = broken-joined (near ++ far) more b in
    rw (take-append_seam cells (space ∷ (near ++ far)), drop-append-add cells (space ∷ (near ++ far)) 1, r) (append_snoc cells space (near ++ far))
broken-joined _ _ (after_forty cells next far more h n b) =
    let r = broken-joined (next ∷ far) more b in
    rw (take_at cells (next ∷ far) 40 h, drop_at cells (next ∷ far) 40 h, r, append-nil cells)

-- the lines give the text back
pub give-back : GiveBack
give-back text = broken-joined text (lines_of text) (as-asked text)
