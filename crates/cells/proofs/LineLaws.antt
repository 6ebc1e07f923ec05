-- The lines of a text: the last space, how a line begins the rest, and that the lines of a row that goes on are the lines of the text.
use Prim.Native.Nat.{ℕ, zero, suc, ◌+◌, ◌-◌, ◌*◌, ◌≤◌, ◌<◌}
use mathlib.Core.Path.{◌≡◌, refl, sym, ap, ◌∙◌}
use mathlib.Core.List.{List, [], ◌∷◌, ◌++◌, append-nil}
use mathlib.Core.Bool.{Bool, true, false, cond}
use native.Mathlib.Nat.{zero-add, suc-add}
use native.Mathlib.Omega.{arith}
use lib.ListN.{length, take, drop, length-append, length-drop}
use lib.Seq.{append_snoc, take_at, drop-append-le}
use lib.Dec.{eqb, ltb, leb}
use borrow.Author.Tests.{ltb-true, ltb-false, leb-true, leb-false, lt-ltb, le-ltb, le-leb, lt-leb}
use Rattle.cells.specs.Alphabet.{space}
use Rattle.cells.specs.Lines.{up_to_space, line, broken_at, extent, first_line, lines_by, lines_of, line_octets}
use Rattle.cells.specs.Rows.{grown, is_over, line_of, left_of, ended_by, no_row, flow}
use Rattle.cells.specs.declared.rows.Line.{Line}
use Rattle.cells.specs.declared.rows.Row.{Row}

-- a character at the front, with a space behind it, puts the last space one place further on
pub front-spaced : (c k : ℕ) → 0 < k → cond (ltb 0 k) (suc k) (cond (eqb c space) 1 0) ≡ suc k
front-spaced c k h = rw (lt-ltb 0 k h)

-- a space in what stands behind is the last one of the whole
pub append-spaced : (a b : List ℕ) → 0 < up_to_space b → up_to_space (a ++ b) ≡ length a + up_to_space b
unfolding up_to_space
append-spaced [] b h = sym (zero-add (up_to_space b))
append-spaced (c ∷ a) b h =
    let e = append-spaced a b h in
    let l : 0 < up_to_space (a ++ b) = omega arith in
    front-spaced c (up_to_space (a ++ b)) l ∙ ap suc e ∙ sym (suc-add (length a) (up_to_space b))

-- with none behind it is the last one of what stands before
pub append-spaceless : (a b : List ℕ) → up_to_space b ≡ 0 → up_to_space (a ++ b) ≡ up_to_space a
unfolding up_to_space
append-spaceless [] b h = h
append-spaceless (c ∷ a) b h = ap (λ (k : ℕ). cond (ltb 0 k) (suc k) (cond (eqb c space) 1 0)) (append-spaceless a b h)

-- the last space of two parts is that of the second, or that of the first where the second has none
pub up_to_space-append : (a b : List ℕ) → up_to_space (a ++ b) ≡ cond (ltb 0 (up_to_space b)) (length a + up_to_space b) (up_to_space a)
up_to_space-append a b = go (ltb 0 (up_to_space b)) refl
  where
    go : (t : Bool) → ltb 0 (up_to_space b) ≡ t → up_to_space (a ++ b) ≡ cond t (length a + up_to_space b) (up_to_space a)
    go true e = append-spaced a b (ltb-true 0 (up_to_space b) e)
    go false e = let n : up_to_space b ≡ 0 = omega (arith, ltb-false 0 (up_to_space b) e) in append-spaceless a b n

-- one character more is counted at most once
step-le : (t : Bool) (k n : ℕ) (u : Bool) → k ≤ n → cond t (suc k) (cond u 1 0) ≤ suc n
step-le true k n u h = omega arith
step-le false k n true h = omega arith
step-le false k n false h = omega arith

-- the last space is not behind the end
pub up_to_space-le : (s : List ℕ) → up_to_space s ≤ length s
unfolding up_to_space
up_to_space-le [] = omega arith
up_to_space-le (c ∷ s) = step-le (ltb 0 (up_to_space s)) (up_to_space s) (length s) (eqb c space) (up_to_space-le s)

-- no space behind the first character where the whole has none
none-behind : (k c : ℕ) → cond (ltb 0 k) (suc k) (cond (eqb c space) 1 0) ≡ 0 → k ≡ 0
none-behind zero c h = refl
none-behind (suc k) c h = let e = front-spaced c (suc k) (omega arith) in absurd (omega arith)

-- nor behind the first n
pub drop-spaceless : (n : ℕ) (s : List ℕ) → up_to_space s ≡ 0 → up_to_space (drop n s) ≡ 0
unfolding up_to_space
drop-spaceless zero s h = h
drop-spaceless (suc n) [] h = refl
drop-spaceless (suc n) (c ∷ s) h = drop-spaceless n s (none-behind (up_to_space s) c h)

-- behind the only character that may be a space there is none
behind-first : (t : Bool) (c : ℕ) (s : List ℕ) → eqb c space ≡ t → up_to_space s ≡ 0 → up_to_space (drop (cond t 1 0) (c ∷ s)) ≡ 0
unfolding up_to_space
behind-first true c s e h = h
behind-first false c s e h = rw (h, e)

-- behind the last space there is none
pub behind-space : (s : List ℕ) → up_to_space (drop (up_to_space s) s) ≡ 0
unfolding up_to_space
behind-space [] = refl
behind-space (c ∷ s) = go (up_to_space s) refl (behind-space s)
  where
    go : (k : ℕ) → up_to_space s ≡ k → up_to_space (drop (up_to_space s) s) ≡ 0 → up_to_space (drop (up_to_space (c ∷ s)) (c ∷ s)) ≡ 0
    go zero e h = rw e (behind-first (eqb c space) c s refl e)
    go (suc k) e h = rw (front-spaced c (up_to_space s) (rw e (omega arith))) h

-- a broken line takes a character or more
pub extent-least : (k : ℕ) → 1 ≤ extent (broken_at k)
extent-least zero = omega arith
extent-least (suc k) = omega arith

-- and not more than forty-one
pub extent-most : (k : ℕ) → k ≤ 41 → extent (broken_at k) ≤ 41
extent-most zero h = omega arith
extent-most (suc k) h = omega arith

-- behind a broken line none of the characters that it was broken by is a space
pub behind-line : (s : List ℕ) → up_to_space (drop (extent (broken_at (up_to_space s))) s) ≡ 0
behind-line s = go (up_to_space s) refl
  where
    go : (k : ℕ) → up_to_space s ≡ k → up_to_space (drop (extent (broken_at k)) s) ≡ 0
    go zero e = drop-spaceless 40 s e
    go (suc k) e = let f : k + 1 ≡ up_to_space s = omega arith in rw f (behind-space s)

-- forty characters or fewer are one line, whatever the number of breaks
by-short : (n : ℕ) (text : List ℕ) → length text ≤ 40 → lines_by n text ≡ line (length text) 0 ∷ []
unfolding lines_by
by-short zero text h = refl
by-short (suc n) text h = rw (le-leb (length text) 40 h)

-- more are a broken line, and the rest has one break less
by-long : (n : ℕ) (text : List ℕ) → 40 < length text
    → lines_by (suc n) text ≡ first_line text ∷ lines_by n (drop (extent (first_line text)) text)
unfolding lines_by
by-long n text h = rw (lt-leb (length text) 40 h)

-- the rest behind a broken line is shorter
rest-less : (n : ℕ) (text : List ℕ) → length text ≤ suc n → length (drop (extent (first_line text)) text) ≤ n
rest-less n text h =
    let e = extent-least (up_to_space (take 41 text)) in
    let l = length-drop (extent (first_line text)) text in
    omega arith

-- any number of breaks that is not less than the text is long gives the same lines
pub fuel : (n m : ℕ) (text : List ℕ) → length text ≤ n → length text ≤ m → lines_by n text ≡ lines_by m text
fuel zero m text h k = by-short zero text (omega arith) ∙ sym (by-short m text (omega arith))
fuel (suc n) zero text h k = by-short (suc n) text (omega arith) ∙ sym (by-short zero text (omega arith))
fuel (suc n) (suc m) text h k =
    go (leb (length text) 40) refl (fuel n m (drop (extent (first_line text)) text) (rest-less n text h) (rest-less m text k))
  where
    go : (t : Bool) → leb (length text) 40 ≡ t
        → lines_by n (drop (extent (first_line text)) text) ≡ lines_by m (drop (extent (first_line text)) text)
        → lines_by (suc n) text ≡ lines_by (suc m) text
    go true e r = let l = leb-true (length text) 40 e in by-short (suc n) text l ∙ sym (by-short (suc m) text l)
    go false e r =
        let l = leb-false (length text) 40 e in
        by-long n text l ∙ ap {B = List Line} (λ ls. first_line text ∷ ls) r ∙ sym (by-long m text l)

-- forty characters or fewer are one line
pub short-lines : (text : List ℕ) → length text ≤ 40 → lines_of text ≡ line (length text) 0 ∷ []
unfolding lines_of
short-lines text h = by-short (length text) text h

-- more are a broken line and the lines of the rest
pub long-lines : (text : List ℕ) → 40 < length text → lines_of text ≡ first_line text ∷ lines_of (drop (extent (first_line text)) text)
unfolding lines_of
long-lines text h =
    let r = drop (extent (first_line text)) text in
    let n : length text ≡ suc (length text - 1) = omega arith in
    let l : length r ≤ length text - 1 = rest-less (length text - 1) text (omega arith) in
    ap (λ (k : ℕ). lines_by k text) n ∙ by-long (length text - 1) text h
    ∙ ap {B = List Line} (λ ls. first_line text ∷ ls) (fuel (length text - 1) (length r) r l (omega arith))

-- the row that a part of a text has made
abbrev pub row_of : List ℕ → Row
row_of p = record { width = length p; kept = up_to_space p }

-- one character more is the last space, or leaves it where it was
one_more_lem : (t : Bool) (k n : ℕ) → cond (ltb 0 (cond t 1 0)) (n + cond t 1 0) k ≡ cond t (suc n) k
one_more_lem true k n = omega arith
one_more_lem false k n = refl

-- how much of a row stands up to the last space, with one character more
grown-kept : (p : List ℕ) (c : ℕ) → cond (eqb c space) (suc (length p)) (up_to_space p) ≡ up_to_space (p ++ (c ∷ []))
unfolding up_to_space
grown-kept p c = sym (up_to_space-append p (c ∷ []) ∙ one_more_lem (eqb c space) (up_to_space p) (length p))

-- a row with one character more is the row of one character more
pub grown-row : (p : List ℕ) (c : ℕ) → grown (row_of p) c ≡ row_of (p ++ (c ∷ []))
grown-row p c =
    let w : suc (length p) ≡ length (p ++ (c ∷ [])) = omega (arith, length-append p (c ∷ [])) in
    λ i. record { width = w i; kept = grown-kept p c i }

-- what is left of a row is the row of what is left
pub left-row : (q : List ℕ) → 40 < length q → left_of (row_of q) ≡ row_of (drop (extent (broken_at (up_to_space q))) q)
unfolding left_of
left-row q h =
    let w = length-drop (extent (broken_at (up_to_space q))) q in
    let k = behind-line q in
    rw (lt-ltb 40 (length q) h) (λ i. record { width = sym w i; kept = sym k i })

-- a character more that leaves the row within forty
flow-within : (q s : List ℕ) → length q ≤ 40 → ended_by (row_of q) ++ flow (left_of (row_of q)) s ≡ flow (row_of q) s
unfolding left_of
flow-within q s h = rw (le-ltb 40 (length q) h)

-- a character more that ends a line
flow-over : (q s : List ℕ) → length q ≡ 41
    → ended_by (row_of q) ++ flow (left_of (row_of q)) s ≡ broken_at (up_to_space q) ∷ flow (row_of (drop (extent (broken_at (up_to_space q))) q)) s
unfolding line_of
flow-over q s h = rw (left-row q (omega arith), lt-ltb 40 (length q) (omega arith))

-- the forty-one characters that end a line, and what stands behind them
pub lines-over : (q s : List ℕ) → length q ≡ 41
    → lines_of (q ++ s) ≡ broken_at (up_to_space q) ∷ lines_of (drop (extent (broken_at (up_to_space q))) q ++ s)
lines-over q s h =
    let l = length-append q s in
    let u = up_to_space-le q in
    let e = extent-most (up_to_space q) (omega arith) in
    rw (long-lines (q ++ s) (omega arith), take_at q s 41 h, drop-append-le (extent (broken_at (up_to_space q))) q s (omega arith))

-- no character more: the row is the last line
flow-last : (p : List ℕ) → length p ≤ 40 → line_of (row_of p) ∷ [] ≡ lines_of p
unfolding line_of
flow-last p h = rw (le-ltb 40 (length p) h) (sym (short-lines p h))

-- one character more, and then as the rest goes
flow-more : (q s : List ℕ) → length q ≤ 41 → ((p : List ℕ) → length p ≤ 40 → flow (row_of p) s ≡ lines_of (p ++ s))
    → ended_by (row_of q) ++ flow (left_of (row_of q)) s ≡ lines_of (q ++ s)
flow-more q s h more = go (leb (length q) 40) refl
  where
    go : (t : Bool) → leb (length q) 40 ≡ t → ended_by (row_of q) ++ flow (left_of (row_of q)) s ≡ lines_of (q ++ s)
    go true e = let l = leb-true (length q) 40 e in flow-within q s l ∙ more q l
    go false e =
        let l : length q ≡ 41 = omega (arith, leb-false (length q) 40 e) in
        let r = drop (extent (broken_at (up_to_space q))) q in
        let n = length-drop (extent (broken_at (up_to_space q))) q in
        let x = extent-least (up_to_space q) in
        let w : length r ≤ 40 = omega arith in
        flow-over q s l ∙ ap {B = List Line} (λ ls. broken_at (up_to_space q) ∷ ls) (more r w) ∙ sym (lines-over q s l)

-- the lines of a row that goes on are those of what it holds with what follows
pub flow-is : (p s : List ℕ) → length p ≤ 40 → flow (row_of p) s ≡ lines_of (p ++ s)
unfolding flow
flow-is p [] h = rw append-nil (flow-last p h)
flow-is p (c ∷ s) h =
    let l = length-append p (c ∷ []) in
    ap (λ (row : Row). ended_by row ++ flow (left_of row) s) (grown-row p c)
    ∙ flow-more (p ++ (c ∷ [])) s (omega arith) (λ q k. flow-is q s k)
    ∙ ap lines_of (append_snoc p c s)

-- the code's way and the definition's are one
pub flow-lines : (text : List ℕ) → flow no_row text ≡ lines_of text
unfolding up_to_space
flow-lines text = flow-is [] text (omega arith)

-- a character ends at most one line
ended-count : (row : Row) → length (ended_by row) ≤ 1
ended-count row = go (is_over row)
  where
    go : (t : Bool) → length (cond t (line_of row ∷ []) []) ≤ 1
    go true = omega arith
    go false = omega arith

-- a row that goes on makes at most one line a character, and the last one
pub flow-count : (row : Row) (s : List ℕ) → length (flow row s) ≤ length s + 1
unfolding flow
flow-count row [] = omega arith
flow-count row (c ∷ s) =
    let a = length-append (ended_by (grown row c)) (flow (left_of (grown row c)) s) in
    let e = ended-count (grown row c) in
    let r = flow-count (left_of (grown row c)) s in
    omega arith

-- two octets a line
pub octets-twice : (ls : List Line) → length (line_octets ls) ≡ 2 * length ls
unfolding line_octets
octets-twice [] = refl
octets-twice (l ∷ ls) = let e = octets-twice ls in omega arith
