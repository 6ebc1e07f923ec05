-- How many lines there are at most.
use Prim.Native.Nat.{ℕ, zero, suc, ◌+◌, ◌-◌, ◌*◌, ◌≤◌, ◌<◌}
use mathlib.Core.Path.{◌≡◌, refl}
use mathlib.Core.List.{List, ◌++◌}
use mathlib.Core.Bool.{Bool, true, false}
use native.Mathlib.Omega.{arith}
use lib.ListN.{length, take, drop, length-append, length-drop, take-append-drop}
use lib.Seq.{take-append-add, length-take-le}
use lib.Dec.{leb}
use borrow.Author.Tests.{leb-true, leb-false}
use Rattle.cells.specs.Lines.{up_to_space, broken_at, extent, first_line, lines_of}
use Rattle.cells.specs.Broken.{FewLines}
use Rattle.cells.proofs.LineLaws.{append-spaced, append-spaceless, extent-least, behind-line, short-lines, long-lines, lines-over}

-- a line is broken behind the characters at its front that are no spaces, unless after forty
extent-behind : (near s : List ℕ) → up_to_space near ≡ 0 → length near ≤ 40 → length near ≤ extent (broken_at (up_to_space (near ++ s)))
extent-behind near s h l = go (up_to_space s) refl
  where
    go : (k : ℕ) → up_to_space s ≡ k → length near ≤ extent (broken_at (up_to_space (near ++ s)))
    go zero e = rw (append-spaceless near s e, h) l
    go (suc k) e =
        let p : 0 < up_to_space s = omega arith in
        let n : up_to_space (near ++ s) ≡ suc (length near + k) = omega (arith, append-spaced near s p) in
        rw n (omega arith)

-- so a line that begins with them takes them
first-takes : (near far : List ℕ) → up_to_space near ≡ 0 → length near ≤ 40 → length near ≤ extent (first_line (near ++ far))
first-takes near far h l =
    let e : 41 ≡ length near + (41 - length near) = omega arith in
    rw (e, take-append-add near far (41 - length near)) (extent-behind near (take (41 - length near) far) h l)

-- few lines, said of one text
abbrev Few : List ℕ → Type 0
Few text = 41 * length (lines_of text) ≤ 2 * length text + 41

-- two broken lines in a row take forty-one characters: the second takes what the first left of them
few-rest : (near far : List ℕ) → up_to_space near ≡ 0 → length near ≤ 40 → ((rest : List ℕ) → length rest ≤ length far → Few rest)
    → 41 * suc (length (lines_of (near ++ far))) ≤ 2 * (41 + length far) + 41
few-rest near far h l more = go (leb (length (near ++ far)) 40) refl
  where
    go : (t : Bool) → leb (length (near ++ far)) 40 ≡ t → 41 * suc (length (lines_of (near ++ far))) ≤ 2 * (41 + length far) + 41
    go true e = rw (short-lines (near ++ far) (leb-true (length (near ++ far)) 40 e)) (omega arith)
    go false e =
        let r = drop (extent (first_line (near ++ far))) (near ++ far) in
        let a = length-append near far in
        let d = length-drop (extent (first_line (near ++ far))) (near ++ far) in
        let w = first-takes near far h l in
        let s : length r ≤ length far = omega arith in
        let m = more r s in
        rw (long-lines (near ++ far) (leb-false (length (near ++ far)) 40 e)) (omega arith)

-- forty-one characters, and what stands behind them
few-over : (q far : List ℕ) → length q ≡ 41 → ((rest : List ℕ) → length rest ≤ length far → Few rest) → Few (q ++ far)
few-over q far h more =
    let x = extent-least (up_to_space q) in
    let d = length-drop (extent (broken_at (up_to_space q))) q in
    let a = length-append q far in
    let f = few-rest (drop (extent (broken_at (up_to_space q))) q) far (behind-line q) (omega arith) more in
    rw (lines-over q far h) (omega arith)

-- texts shorter than n
few-to : (n : ℕ) (text : List ℕ) → length text < n → Few text
few-to zero text h = absurd (omega arith)
few-to (suc n) text h = go (leb (length text) 40) refl (λ rest l. few-to n rest l)
  where
    go : (t : Bool) → leb (length text) 40 ≡ t → ((rest : List ℕ) → length rest < n → Few rest) → Few text
    go true e more = rw (short-lines text (leb-true (length text) 40 e)) (omega arith)
    go false e more =
        let l = leb-false (length text) 40 e in
        let d = length-drop 41 text in
        let f = few-over (take 41 text) (drop 41 text) (length-take-le 41 text l) (λ rest w. more rest (omega arith)) in
        rw (take-append-drop 41 text) at f

-- forty-one times the number of lines is at most twice the number of characters and forty-one
pub few-lines : FewLines
few-lines text = few-to (suc (length text)) text (omega arith)
