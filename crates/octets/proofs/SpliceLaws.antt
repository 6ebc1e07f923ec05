-- Octets written at a place: the copying loop, one writing after another, and what is read afterwards.
use mathlib.Core.Path.{◌≡◌, sym, ap, ◌∙◌}
use mathlib.Core.List.{List, ◌++◌, append_assoc}
use Prim.Native.Nat.{ℕ, ◌+◌, ◌-◌, ◌<◌, ◌≤◌}
use native.Mathlib.Nat.{zero-add}
use native.Mathlib.Numerals.{add-one}
use native.Mathlib.Omega.{arith}
use lib.ListN.{length, take, drop, set, get_or, length-append, get_or-append}
use lib.Seq.{paste, paste-suc, take-length, length-take-le, length-paste, drop-drop, take_at, drop-append-add, get_or-append-add, get_or-take, get_or-drop}
use Rattle.octets.specs.Splice.{splice}

-- a turn of the copying loop
pub turn : (d : List ℕ) (at : ℕ) (s l : List ℕ) (j : ℕ) → l ≡ paste d at s j → at + j < length d → j < length s
    → set l (at + j) (get_or s j 0) ≡ paste d at s (j + 1)
turn d at s l j e p q = rw (e, add-one j) (paste-suc d at s j 0 p q)

-- the whole was copied
pub whole : (d : List ℕ) (at : ℕ) (s : List ℕ) (j : ℕ) → j ≡ length s → paste d at s j ≡ splice d at s
unfolding splice
whole d at s j e = rw (e, take-length s)

pub length-splice : (d : List ℕ) (at : ℕ) (s : List ℕ) → at + length s ≤ length d → length (splice d at s) ≡ length d
unfolding splice
length-splice d at s h = rw take-length at (length-paste d at s (length s) h (omega arith))

-- written at the front
pub splice_front : (d s : List ℕ) → splice d 0 s ≡ s ++ drop (length s) d
unfolding splice
splice_front d s = rw zero-add

-- what stands before and with the writing
head-length : (d : List ℕ) (at : ℕ) (s : List ℕ) → at ≤ length d → length (take at d ++ s) ≡ at + length s
head-length d at s h = length-append (take at d) s ∙ ap (λ (k : ℕ). k + length s) (length-take-le at d h)

-- one writing directly after another is one writing
pub splice-splice : (d : List ℕ) (at : ℕ) (a b : List ℕ) → at + length a + length b ≤ length d
    → splice (splice d at a) (at + length a) b ≡ splice d at (a ++ b)
unfolding splice
splice-splice d at a b h =
    let n : length (take at d ++ a) ≡ at + length a = head-length d at a (omega arith) in
    let q : at + length a + length b ≡ length (take at d ++ a) + length b = ap (λ (k : ℕ). k + length b) (sym n) in
    let r : at + length (a ++ b) ≡ at + length a + length b = ap (λ (k : ℕ). at + k) (length-append a b) ∙ omega arith in
    rw (take_at (take at d ++ a) (drop (at + length a) d) (at + length a) n, r)
    (rw (q, drop-append-add (take at d ++ a) (drop (at + length a) d) (length b), drop-drop (length b) (at + length a) d, ← q) (simp append_assoc))

-- read within what was written, before it, behind it
pub get_or-within : (d : List ℕ) (at : ℕ) (s : List ℕ) (i : ℕ) → at ≤ length d → i < length s → get_or (splice d at s) (at + i) 0 ≡ get_or s i 0
unfolding splice
get_or-within d at s i h l =
    let n = head-length d at s h in
    let e : at + i ≡ length (take at d) + i = ap (λ (k : ℕ). k + i) (sym (length-take-le at d h)) in
    get_or-append (take at d ++ s) (drop (at + length s) d) 0 (at + i) (rw n (omega arith))
    ∙ rw e (get_or-append-add (take at d) s i 0)

pub get_or-before : (d : List ℕ) (at : ℕ) (s : List ℕ) (i : ℕ) → at ≤ length d → i < at → get_or (splice d at s) i 0 ≡ get_or d i 0
unfolding splice
get_or-before d at s i h l =
    let n = head-length d at s h in
    get_or-append (take at d ++ s) (drop (at + length s) d) 0 i (rw n (omega arith))
    ∙ get_or-append (take at d) s 0 i (rw (length-take-le at d h) l)
    ∙ get_or-take at d i 0 l

pub get_or-behind : (d : List ℕ) (at : ℕ) (s : List ℕ) (i : ℕ) → at ≤ length d → at + length s ≤ i → get_or (splice d at s) i 0 ≡ get_or d i 0
unfolding splice
get_or-behind d at s i h l =
    let n = head-length d at s h in
    let e : i ≡ at + length s + (i - (at + length s)) = omega arith in
    let f : i ≡ length (take at d ++ s) + (i - (at + length s)) = e ∙ ap (λ (k : ℕ). k + (i - (at + length s))) (sym n) in
    ap (λ (k : ℕ). get_or (take at d ++ s ++ drop (at + length s) d) k 0) f
    ∙ get_or-append-add (take at d ++ s) (drop (at + length s) d) (i - (at + length s)) 0
    ∙ get_or-drop (at + length s) d (i - (at + length s)) 0
    ∙ ap (λ (k : ℕ). get_or d k 0) (sym e)
