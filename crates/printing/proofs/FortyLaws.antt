-- Every line that is printed has at most forty characters, and so has what is put together of such lines.
use Prim.Native.Nat.{ℕ, zero, suc, ◌+◌, ◌-◌, ◌/◌, ◌%◌, ◌≤◌}
use mathlib.Core.Path.{◌≡◌, refl}
use mathlib.Core.List.{List, [], ◌∷◌, ◌++◌, append_assoc}
use mathlib.Core.Bool.{Bool, true, false, cond, not, ◌&&◌}
use native.Mathlib.Nat.{add-zero, zero-add}
use native.Mathlib.Omega.{arith}
use lib.IntN.{ℤ}
use lib.ListN.{length, length-append}
use lib.Dec.{eqb, ltb, leb}
use borrow.Author.Tests.{eqb-true, ltb-false, leb-true, le-leb, eq-eqb, ne_eqb}
use Rattle.codes.specs.Ids.{octet_of}
use Rattle.octets.proofs.TestLaws.{both as both_hold}
use Rattle.printing.specs.Numbers.{decimal_by, decimal, id_text, glyph, pair}
use Rattle.printing.specs.Lines.{folded, when, octets_line, number_line, id_line, problem_line}
use Rattle.printing.specs.Forty.{goes_on, forty_from, forty, plain}

-- what follows from a test's outcome, on either side of it
on-cond : (b : Bool) {x y v w : Bool} → (x ≡ true → v ≡ true) → (y ≡ true → w ≡ true) → cond b x y ≡ true → cond b v w ≡ true
on-cond true f g h = f h
on-cond false f g h = g h

on_and : (b : Bool) {x y : Bool} → (x ≡ true → y ≡ true) → (b && x) ≡ true → (b && y) ≡ true
on_and true f h = f h
on_and false f h = h

both : {a b : Bool} → a ≡ true → b ≡ true → (a && b) ≡ true
both p q = rw (p, q)

from-append : (column : ℕ) (a b : List ℕ) → forty_from column a ≡ true → forty_from 0 b ≡ true → forty_from column (a ++ b) ≡ true
unfolding forty_from
from-append column [] b h k = rw (eqb-true column 0 h) k
from-append column (c ∷ a) b h k =
    on-cond (eqb c 10) (on_and (leb column 40) (λ e. from-append 0 a b e k)) (λ e. from-append (cond (goes_on c) column (suc column)) a b e k) h

pub forty-append : (a b : List ℕ) → forty a ≡ true → forty b ≡ true → forty (a ++ b) ≡ true
unfolding forty
forty-append a b h k = from-append 0 a b h k

-- a line that goes on well behind so many characters does so behind fewer
ends-sooner : (j k : ℕ) (rest : Bool) → j ≤ k → (leb k 40 && rest) ≡ true → (leb j 40 && rest) ≡ true
ends-sooner j k rest l h =
    let e = both_hold (leb k 40) rest h in
    let m = leb-true k 40 e.0 in
    both (le-leb j 40 (omega arith)) e.1

columns : (on : Bool) (j k : ℕ) → j ≤ k → cond on j (suc j) ≤ cond on k (suc k)
columns true j k l = l
columns false j k l = omega arith

fewer : (j k : ℕ) (s : List ℕ) → j ≤ k → forty_from k s ≡ true → forty_from j s ≡ true
unfolding forty_from
fewer j k [] l h = let z = eqb-true k 0 h in eq-eqb j 0 (omega arith)
fewer j k (c ∷ s) l h =
    on-cond (eqb c 10) (ends-sooner j k (forty_from 0 s) l) (λ e. fewer (cond (goes_on c) j (suc j)) (cond (goes_on c) k (suc k)) s (columns (goes_on c) j k l) e) h

-- a line that may be left out
pub forty-when : (there : Bool) (line : List ℕ) → forty line ≡ true → forty (when there line) ≡ true
unfolding forty forty_from
forty-when true line h = h
forty-when false line h = refl

-- plain text: what it is put together of, and what stands behind it
plain-cons : (c : ℕ) (s : List ℕ) → (c ≡ 10 → ⊥) → plain s ≡ true → plain (c ∷ s) ≡ true
unfolding plain
plain-cons c s n h = rw (ne_eqb c 10 n) h

pub plain-append : (a b : List ℕ) → plain a ≡ true → plain b ≡ true → plain (a ++ b) ≡ true
unfolding plain
plain-append [] b h k = k
plain-append (c ∷ a) b h k = on_and (not (eqb c 10)) (λ e. plain-append a b e k) h

past : (b p q r : Bool) → (not b && p) ≡ true → (p ≡ true → r ≡ true) → cond b q r ≡ true
past true p q r h k = cc
past false p q r h k = k h

-- an octet is one character at most
one_at_most : (on : Bool) (column n : ℕ) → cond on column (suc column) + n ≤ column + suc n
one_at_most true column n = omega arith
one_at_most false column n = omega arith

behind : (column : ℕ) (w s : List ℕ) → plain w ≡ true → forty_from (column + length w) s ≡ true → forty_from column (w ++ s) ≡ true
unfolding forty_from plain
behind column [] s h k = rw add-zero at k
behind column (c ∷ w) s h k =
    let next : ℕ = cond (goes_on c) column (suc column) in
    past (eqb c 10) (plain w) (leb column 40 && forty_from 0 (w ++ s)) (forty_from next (w ++ s)) h
    (λ p. behind next w s p (fewer (next + length w) (column + suc (length w)) s (one_at_most (goes_on c) column (length w)) k))

pub line-end : (column : ℕ) → column ≤ 40 → forty_from column (10 ∷ []) ≡ true
unfolding forty_from
line-end column h = rw (le-leb column 40 h)

pub plain-line : (w : List ℕ) → plain w ≡ true → length w ≤ 40 → forty (w ++ (10 ∷ [])) ≡ true
unfolding forty
plain-line w h l = behind 0 w (10 ∷ []) h (line-end (0 + length w) (omega arith))

-- numbers as text are plain and short
glyph-plain : (b : Bool) (d : ℕ) → cond b (48 + d) (55 + d) ≡ 10 → ⊥
glyph-plain true d e = omega arith
glyph-plain false d e = omega arith

pub pair-plain : (octet : ℕ) → plain (pair octet) ≡ true
unfolding pair plain
pair-plain octet =
    plain-cons (glyph (octet / 16)) (glyph (octet % 16) ∷ []) (glyph-plain (ltb (octet / 16) 10) (octet / 16))
    (plain-cons (glyph (octet % 16)) [] (glyph-plain (ltb (octet % 16) 10) (octet % 16)) refl)

one_more_lem : (b : Bool) (k c d : ℕ) (s : List ℕ) → (plain s ≡ true) × (length s ≤ k)
    → (plain (cond b ((48 + c) ∷ []) (s ++ ((48 + d) ∷ []))) ≡ true) × (length (cond b ((48 + c) ∷ []) (s ++ ((48 + d) ∷ []))) ≤ suc k)
unfolding plain
one_more_lem true k c d s h = (plain-cons (48 + c) [] (λ e. omega arith) refl, omega arith)
one_more_lem false k c d s h =
    let l = length-append s ((48 + d) ∷ []) in
    (plain-append s ((48 + d) ∷ []) h.0 (plain-cons (48 + d) [] (λ e. omega arith) refl), omega arith)

decimal-plain : (k n : ℕ) → (plain (decimal_by k n) ≡ true) × (length (decimal_by k n) ≤ k)
unfolding decimal_by plain
decimal-plain zero n = (refl, omega arith)
decimal-plain (suc k) n = one_more_lem (ltb n 10) k n (n % 10) (decimal_by k (n / 10)) (decimal-plain k (n / 10))

pub twenty : (n : ℕ) → (plain (decimal n) ≡ true) × (length (decimal n) ≤ 20)
unfolding decimal
twenty n = decimal-plain 20 n

id-plain : (id : ℤ) → (plain (id_text id) ≡ true) × (length (id_text id) ≤ 21)
unfolding id_text
id-plain id = go (ltb (octet_of id) 128)
  where
    go : (b : Bool) → (plain (cond b (decimal (octet_of id)) (45 ∷ decimal (256 - octet_of id))) ≡ true)
        × (length (cond b (decimal (octet_of id)) (45 ∷ decimal (256 - octet_of id))) ≤ 21)
    go true = let t = twenty (octet_of id) in (t.0, omega arith)
    go false = let t = twenty (256 - octet_of id) in (plain-cons 45 (decimal (256 - octet_of id)) (λ e. omega arith) t.0, omega arith)

-- the lines
spaced : (word text : List ℕ) → plain word ≡ true → plain text ≡ true → length word + length text ≤ 39 → forty (word ++ (32 ∷ []) ++ text ++ (10 ∷ [])) ≡ true
unfolding plain
spaced word text h k l =
    let a = length-append word (32 ∷ []) in
    let b = length-append (word ++ (32 ∷ [])) text in
    plain-line (word ++ (32 ∷ []) ++ text) (plain-append (word ++ (32 ∷ [])) text (plain-append word (32 ∷ []) h refl) k) (omega arith)

-- a number with words before and behind it
pub count-forty : (word text : List ℕ) (n : ℕ) → plain word ≡ true → plain text ≡ true → length word + length text ≤ 20 → forty (word ++ decimal n ++ text ++ (10 ∷ [])) ≡ true
count-forty word text n h k l =
    let t = twenty n in
    let a = length-append word (decimal n) in
    let b = length-append (word ++ decimal n) text in
    plain-line (word ++ decimal n ++ text) (plain-append (word ++ decimal n) text (plain-append word (decimal n) h t.0) k) (omega arith)

pub number-forty : (word : List ℕ) (n : ℕ) → plain word ≡ true → length word ≤ 16 → forty (number_line word n) ≡ true
unfolding number_line
number-forty word n h l = let t = twenty n in spaced word (decimal n) h t.0 (omega arith)

pub id-forty : (word : List ℕ) (id : ℤ) → plain word ≡ true → length word ≤ 16 → forty (id_line word id) ≡ true
unfolding id_line
id-forty word id h l = let t = id-plain id in spaced word (id_text id) h t.0 (omega arith)

pub problem-forty : (tag problem : ℕ) → forty (problem_line tag problem) ≡ true
unfolding problem_line plain pair
problem-forty tag problem =
    let t = twenty problem in
    let w : List ℕ = 112 ∷ 114 ∷ 111 ∷ 98 ∷ 108 ∷ 101 ∷ 109 ∷ 32 ∷ [] in
    spaced (w ++ pair tag) (decimal problem) (plain-append w (pair tag) refl (pair-plain tag)) t.0 (omega arith)

-- an octet more, in its line or in the next
next-forty : (b : Bool) (column o : ℕ) (s : List ℕ) → ltb 37 column ≡ b → column ≤ 40
    → ((k : ℕ) → k ≤ 40 → forty_from k (folded k s ++ (10 ∷ [])) ≡ true)
    → forty_from column (cond b (10 ∷ 32 ∷ pair o) (32 ∷ pair o) ++ folded (cond b 3 (column + 3)) s ++ (10 ∷ [])) ≡ true
unfolding pair plain forty_from
next-forty true column o s e h k = both (le-leb column 40 h) (behind 0 (32 ∷ pair o) (folded 3 s ++ (10 ∷ [])) (pair-plain o) (k 3 (omega arith)))
next-forty false column o s e h k =
    let l : column + 3 ≤ 40 = omega (arith, ltb-false 37 column e) in
    behind column (32 ∷ pair o) (folded (column + 3) s ++ (10 ∷ [])) (pair-plain o) (k (column + 3) l)

folded-forty : (column : ℕ) (s : List ℕ) → column ≤ 40 → forty_from column (folded column s ++ (10 ∷ [])) ≡ true
unfolding folded
folded-forty column [] h = line-end column h
folded-forty column (o ∷ s) h = next-forty (ltb 37 column) column o s refl h (λ k l. folded-forty k s l)

pub octets-forty : (word s : List ℕ) → plain word ≡ true → length word ≤ 16 → forty (octets_line word s) ≡ true
unfolding octets_line forty
octets-forty word s h l =
    let f : forty_from (length word) (folded (length word) s ++ (10 ∷ [])) ≡ true = folded-forty (length word) s (omega arith) in
    rw (append_assoc word (folded (length word) s) (10 ∷ [])) (behind 0 word (folded (length word) s ++ (10 ∷ [])) h (rw zero-add f))
