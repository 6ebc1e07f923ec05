-- Text written piece by piece at a place of a page.
use Prim.Native.Nat.{ℕ, ◌+◌, ◌≤◌}
use mathlib.Core.Path.{◌≡◌, refl, sym, ap, ◌∙◌}
use mathlib.Core.List.{List, [], ◌∷◌, ◌++◌, append-nil}
use native.Mathlib.Nat.{add-zero}
use native.Mathlib.Omega.{arith}
use lib.ListN.{length, take, length-append, take-append-drop}
use Rattle.octets.specs.Splice.{splice}
use Rattle.octets.proofs.SpliceLaws.{splice-splice}
use Rattle.printing.specs.Lent.{Wrote}

pub splice-nil : (page : List ℕ) (at : ℕ) → splice page at [] ≡ page
unfolding splice
splice-nil page at = rw (append-nil (take at page), add-zero at) (take-append-drop at page)

-- a line left out
pub nothing : (page : List ℕ) (at : ℕ) → Wrote page at [] page at
nothing page at = (sym (splice-nil page at), sym (add-zero at))

-- one piece directly behind another
pub join : (page : List ℕ) (at : ℕ) (v w x y : List ℕ) (n m : ℕ) → m ≤ length page → Wrote page at v x n → Wrote x n w y m → Wrote page at (v ++ w) y m
join page at v w x y n m h p q =
    let l = length-append v w in
    (q.0 ∙ rw (p.0, p.1) (splice-splice page at v w (omega arith)), omega arith)

-- a loop that writes a text piece by piece: what is left, written behind the next piece, is what was left
pub piece : (page : List ℕ) (place : ℕ) (text v rest y : List ℕ) (m : ℕ) → text ≡ v ++ rest → place + length text ≤ length page → Wrote page place v y m
    → (splice y m rest ≡ splice page place text) × (m + length rest ≡ place + length text)
piece page place text v rest y m e b w =
    let l : length text ≡ length v + length rest = ap length e ∙ length-append v rest in
    (rw (w.0, w.1, e) (splice-splice page place v rest (omega arith)), omega arith)

-- nothing is left
pub ended : (page : List ℕ) (place : ℕ) (text : List ℕ) → text ≡ [] → (splice page place text ≡ page) × (length text ≡ 0)
ended page place text e = rw e (splice-nil page place, refl)

-- a line: a word, a text, the line's end
pub closed : (page : List ℕ) (at : ℕ) (word text x y z : List ℕ) (n m k : ℕ) → k ≤ length page
    → Wrote page at word x n → Wrote x n text y m → Wrote y m (10 ∷ []) z k
    → Wrote page at (word ++ text ++ (10 ∷ [])) z k
closed page at word text x y z n m k h p q r =
    join page at (word ++ text) (10 ∷ []) y z m k h (join page at word text x y n m (omega arith) p q) r

-- a line with a space between its word and its text
pub spaced : (page : List ℕ) (at : ℕ) (word text v x y z : List ℕ) (j n m k : ℕ) → k ≤ length page
    → Wrote page at word v j → Wrote v j (32 ∷ []) x n → Wrote x n text y m → Wrote y m (10 ∷ []) z k
    → Wrote page at (word ++ (32 ∷ []) ++ text ++ (10 ∷ [])) z k
spaced page at word text v x y z j n m k h o p q r =
    closed page at (word ++ (32 ∷ [])) text x y z n m k h (join page at word (32 ∷ []) v x j n (omega arith) o p) q r
