-- What is written in pieces is one writing, and how long it is.
use Prim.Native.Nat.{ℕ, suc, ◌+◌, ◌≤◌}
use mathlib.Core.Path.{◌≡◌, refl, sym, ap, ◌∙◌, subst}
use mathlib.Core.List.{List, [], ◌∷◌, ◌++◌, append_assoc}
use native.Mathlib.Omega.{arith}
use lib.ListN.{length, length-append}
use lib.IntN.{ℤ}
use mathlib.Core.Bool.{Bool, true, false, cond}
use lib.Dec.{eqb, eqb-suc-zero}
use Rattle.octets.specs.Splice.{splice}
use Rattle.codes.specs.Ids.{octet_of}
use Rattle.codes.proofs.IdLaws.{held-is}
use Rattle.octets.proofs.SpliceLaws.{splice-splice}
use Rattle.elements.specs.Element.{shortest, header, written}
use Rattle.elements.proofs.ElementLaws.{shortest-length}
use Rattle.components.specs.Written.{contents, component_octets, result_for, enclosed_length, coded_length, result_length, reject_length}
use Rattle.components.specs.Component.{invoke, error, reject}
use mathlib.Core.Option.{Option, none, some}

pub written-length : (tag : ℕ) (c : List ℕ) → length (written tag c) ≡ length (header tag (length c)) + length c
written-length tag c = length-append (header tag (length c)) c

pub pieces-length : (tag : ℕ) (head tail : List ℕ) → length (written tag (head ++ tail)) ≡ length (header tag (length head + length tail)) + length head + length tail
pieces-length tag head tail = let e = length-append head tail in rw (written-length tag (head ++ tail), e) (omega arith)

whole : (tag : ℕ) (head tail : List ℕ) → written tag (head ++ tail) ≡ header tag (length head + length tail) ++ (head ++ tail)
whole tag head tail = rw (length-append head tail)

-- a header, then the contents in two pieces
pub pieces : (b x y z : List ℕ) (at tag : ℕ) (head tail : List ℕ) (n m : ℕ) → at + length (written tag (head ++ tail)) ≤ length b
    → x ≡ splice b at (header tag (length head + length tail)) → n ≡ at + length (header tag (length head + length tail))
    → y ≡ splice x n head → z ≡ splice y m tail → m ≡ n + length head
    → z ≡ splice b at (written tag (head ++ tail))
pieces b x y z at tag head tail n m f p q r s t =
    let h : List ℕ = header tag (length head + length tail) in
    let l = pieces-length tag head tail in
    let e = length-append h head in
    let k : m ≡ at + length (h ++ head) = omega arith in
    let g : splice (splice (splice b at h) (at + length h) head) (at + length (h ++ head)) tail ≡ splice b at ((h ++ head) ++ tail) = rw (splice-splice b at h head (omega arith)) (splice-splice b at (h ++ head) tail (omega arith)) in
    let w : (h ++ head) ++ tail ≡ written tag (head ++ tail) = append_assoc h head tail ∙ sym (whole tag head tail) in
    s ∙ rw (r, p, q, k) (g ∙ ap (λ (j : List ℕ). splice b at j) w)

-- a place of one octet, and what stands behind it
pub place-length : (tag a b c : ℕ) (p : List ℕ) → length (written tag (a ∷ b ∷ c ∷ p)) ≡ enclosed_length (3 + length p)
place-length tag a b c p =
    let e : suc (suc (suc (length p))) ≡ 3 + length p = omega arith in
    let w = written-length tag (a ∷ b ∷ c ∷ p) in
    w ∙ rw e (omega arith)

-- two places of one octet, and what stands behind them
pub six-length : (tag a b c d e f : ℕ) (p : List ℕ) → length (written tag (a ∷ b ∷ c ∷ d ∷ e ∷ f ∷ p)) ≡ enclosed_length (6 + length p)
six-length tag a b c d e f p =
    let n : suc (suc (suc (suc (suc (suc (length p)))))) ≡ 6 + length p = omega arith in
    let w = written-length tag (a ∷ b ∷ c ∷ d ∷ e ∷ f ∷ p) in
    w ∙ rw n (omega arith)

-- what was written and where it ends, by another name of the same octets
pub as_written : {e : List ℕ} {r : ℕ} (b : List ℕ) (at : ℕ) {v w : List ℕ} → v ≡ w → (e ≡ splice b at v) × (r ≡ at + length v) → (e ≡ splice b at w) × (r ≡ at + length w)
as_written {e} {r} b at q h = subst (λ (x : List ℕ). (e ≡ splice b at x) × (r ≡ at + length x)) q h

pub fits-as : (at n : ℕ) {v w : List ℕ} → v ≡ w → at + length w ≤ n → at + length v ≤ n
fits-as at n q h = subst (λ (x : List ℕ). at + length x ≤ n) (sym q) h

-- the answer to an operation, without a parameter and with one; x is the id's octet
pub answer-bare : (id : ℤ) (x o : ℕ) (p : List ℕ) → x ≡ octet_of id → length p ≡ 0 → written 0xA2 (0x02 ∷ 0x01 ∷ x ∷ p) ≡ component_octets (result_for id o p)
unfolding contents result_for
answer-bare id x o [] e h = rw e
answer-bare id x o (a ∷ p) e h = absurd (omega arith)

pub answer-full : (id : ℤ) (x o : ℕ) (p : List ℕ) → x ≡ octet_of id → (length p ≡ 0 → ⊥)
    → written 0xA2 ((0x02 ∷ 0x01 ∷ x ∷ []) ++ written 0x30 (0x02 ∷ 0x01 ∷ o ∷ p)) ≡ component_octets (result_for id o p)
unfolding contents result_for
answer-full id x o [] e h = absurd (h refl)
answer-full id x o (a ∷ p) e h = rw e

-- how long each is
pub inner-length : (o : ℕ) (p : List ℕ) → length p ≤ 255 → (length (written 0x30 (0x02 ∷ 0x01 ∷ o ∷ p)) ≡ enclosed_length (3 + length p)) × (enclosed_length (3 + length p) ≤ 262)
inner-length o p h = (place-length 0x30 0x02 0x01 o p, omega (arith, (shortest-length (3 + length p)).1))

-- how long each component is
pub invoke-octets : (id : ℤ) (o : ℕ) (p : List ℕ) → length (component_octets (invoke id none o p)) ≡ coded_length (length p)
unfolding contents
invoke-octets id o p = six-length 0xA1 0x02 0x01 (octet_of id) 0x02 0x01 o p

pub error-octets : (id : ℤ) (o : ℕ) (p : List ℕ) → length (component_octets (error id o p)) ≡ coded_length (length p)
unfolding contents
error-octets id o p = six-length 0xA3 0x02 0x01 (octet_of id) 0x02 0x01 o p

pub answer-octets : (id : ℤ) (o : ℕ) (p : List ℕ) → length (component_octets (result_for id o p)) ≡ result_length (length p)
unfolding contents result_for
answer-octets id o [] = place-length 0xA2 0x02 0x01 (octet_of id) []
answer-octets id o (a ∷ p) =
    let e = place-length 0x30 0x02 0x01 o (a ∷ p) in
    rw (eqb-suc-zero (length p))
    (place-length 0xA2 0x02 0x01 (octet_of id) (written 0x30 (0x02 ∷ 0x01 ∷ o ∷ a ∷ p)) ∙ ap (λ (n : ℕ). enclosed_length (3 + n)) e)

pub reject-octets : (id : Option ℤ) (tag problem : ℕ) → length (component_octets (reject id tag problem)) ≡ reject_length id
unfolding contents shortest
reject-octets none tag problem = refl
reject-octets (some id) tag problem = refl

-- a bound on each length that leaves room for what stands around it
pub answer-bound : (n : ℕ) → n ≤ 255 → result_length n ≤ 300
answer-bound n h = go (eqb n 0)
  where
    go : (b : Bool) → cond b (enclosed_length 3) (enclosed_length (3 + enclosed_length (3 + n))) ≤ 300
    go true = omega (arith, (shortest-length 3).1)
    go false = omega (arith, (shortest-length (3 + n)).1, (shortest-length (3 + enclosed_length (3 + n))).1)

pub reject-bound : (id : Option ℤ) → reject_length id ≤ 8
reject-bound none = omega arith
reject-bound (some id) = omega arith

-- an id as the code holds it is the id; a header takes two to four octets
pub ruleset held = (held-is)

pub ruleset sizes = (shortest-length)

pub ruleset answers = (answer-octets, place-length, shortest-length)
