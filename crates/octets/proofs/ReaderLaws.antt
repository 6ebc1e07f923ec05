-- A reader looks only at what it takes. From that: what was read, followed by anything else, reads the same.
use Prim.Native.Nat.{ℕ, suc, ◌+◌, ◌-◌, ◌≤◌, ◌<◌}
use mathlib.Core.Path.{◌≡◌, refl, sym, ap, ◌∙◌, subst}
use mathlib.Core.List.{List, [], ◌∷◌, ◌++◌, append_assoc}
use mathlib.Core.Bool.{Bool, true, false, cond}
use native.Mathlib.Omega.{arith}
use lib.ListN.{length, get_or, take, drop, length-append, length-drop, take-append-drop, drop_of_length-le}
use lib.Seq.{take_at, drop_at, length-take-le, drop-cons, drop-drop}
use lib.Dec.{leb}
use borrow.Author.Tests.{leb-true, le-leb, lt-leb}
use Rattle.octets.specs.Octets.{Octets}
use Rattle.octets.specs.Reader.{Answer, fault, sound, Taken, took, Reader, and_then, seq, done, check, need, octet, front, is_empty, alone}
use Rattle.octets.proofs.OctetsLaws.{octets-drop}

pub sound-inj : {A : Type 0} {a b : A} → sound a ≡ sound b → a ≡ b
sound-inj e = cc

pub fault-inj : {A : Type 0} {n k : ℕ} → ◌≡◌ {A = Answer A} (fault n) (fault k) → n ≡ k
fault-inj e = cc

pub not_sound : {A C : Type 0} {n : ℕ} {a : A} → fault n ≡ sound a → C
not_sound e = let z : ◌≡◌ {A = ℕ} 0 1 = cc in absurd (omega arith)

-- a sound answer of two steps: what the first found goes on to `next`
pub through : {A B C : Type 0} (o : Answer A) (k : A → Answer B) (b : B) → and_then o k ≡ sound b → ((a : A) → o ≡ sound a → k a ≡ sound b → C) → C
through (fault n) k b e next = not_sound e
through (sound a) k b e next = next a refl e

-- a sound answer behind a test: the test held
pub passed : {A C : Type 0} (t : Bool) (n : ℕ) (o : Answer A) (a : A) → check t n o ≡ sound a → (t ≡ true → o ≡ sound a → C) → C
passed true n o a e next = next refl e
passed false n o a e next = not_sound e

-- a sound answer of one reader or another: which of them it was
pub either : {A C : Type 0} (b : Bool) (p q : Reader A) (s : List ℕ) (g : Taken A) → cond b p q s ≡ sound g → (b ≡ true → p s ≡ sound g → C) → (b ≡ false → q s ≡ sound g → C) → C
either true p q s g e this other = this refl e
either false p q s g e this other = other refl e

pub empty-is : (l : List ℕ) → is_empty l ≡ true → l ≡ []
empty-is [] e = refl
empty-is (a ∷ l) e = cc

pub alone-is : {A : Type 0} (n : ℕ) (o : Answer (Taken A)) (a : A) → alone n o ≡ sound a → o ≡ took a []
alone-is n o a e =
    through o _ a e λ g p q.
    passed (is_empty g.rest) n (sound g.value) a q λ t r.
    p ∙ λ i. took (sound-inj r i) (empty-is g.rest t i)

-- what was taken stood at the front, and it is read so whatever follows
pub record Local {A : Type 0} (p : Reader A) (s : List ℕ) (g : Taken A) : Type 0 where
  pub taken : List ℕ
  pub split : s ≡ taken ++ g.rest
  pub again : (y : List ℕ) → p (taken ++ y) ≡ took g.value y

abbrev pub IsLocal : {A : Type 0} → Reader A → Type 0
IsLocal {A} p = (s : List ℕ) (g : Taken A) → p s ≡ sound g → Local p s g

pub done-local : {A : Type 0} (a : A) → IsLocal (done a)
done-local a s g e = record { taken = []; split = ap (λ h. h.rest) (sound-inj e); again = λ y. ap (λ h. took h.value y) (sound-inj e) }

seq-glue : {A B : Type 0} (p : Reader A) (q : A → Reader B) (s : List ℕ) (h : Taken A) (g : Taken B) → Local p s h → Local (q h.value) h.rest g
    → Local (seq p q) s g
seq-glue p q s h g f k =
    record {
      taken = f.taken ++ k.taken;
      split = rw append_assoc (f.split ∙ ap (λ (r : List ℕ). f.taken ++ r) k.split);
      again = λ y. rw (append_assoc, f.again) (k.again y);
    }

pub seq-local : {A B : Type 0} (p : Reader A) (q : A → Reader B) → IsLocal p → ((a : A) → IsLocal (q a)) → IsLocal (seq p q)
seq-local p q lp lq s g e = through (p s) _ g e λ h a b. seq-glue p q s h g (lp s h a) (lq h.value h.rest g b)

pub need-local : {A : Type 0} (b : Bool) (n : ℕ) (p : Reader A) → IsLocal p → IsLocal (need b n p)
need-local true n p l s g e = l s g e
need-local false n p l s g e = not_sound e

pub cond-local : {A : Type 0} (b : Bool) (p q : Reader A) → IsLocal p → IsLocal q → IsLocal (cond b p q)
cond-local true p q lp lq = lp
cond-local false p q lp lq = lq

pub octet-local : (n : ℕ) → IsLocal (octet n)
octet-local n [] g e = not_sound e
octet-local n (a ∷ s) g e = record { taken = a ∷ []; split = ap (λ h. a ∷ h.rest) (sound-inj e); again = λ y. ap (λ h. took h.value y) (sound-inj e) }

-- so many octets with anything behind them
pub front-back : (n : ℕ) (c y : List ℕ) (k : ℕ) → length c ≡ k → front n k (c ++ y) ≡ took c y
front-back n c y k l = rw (le-leb k (length (c ++ y)) (simp length-append (omega arith)), take_at c y k l, drop_at c y k l)

front-glue : (n k : ℕ) (s : List ℕ) → k ≤ length s → Local (front n k) s (record { value = take k s; rest = drop k s })
front-glue n k s h =
    record {
      taken = take k s;
      split = sym (take-append-drop k s);
      again = λ y. front-back n (take k s) y k (length-take-le k s h);
    }

pub front-local : (n k : ℕ) → IsLocal (front n k)
front-local n k s g e =
    passed (leb k (length s)) n (took (take k s) (drop k s)) g e λ t r.
    subst (λ h. Local (front n k) s h) (sound-inj r) (front-glue n k s (leb-true k (length s) t))

-- what was read, followed by anything else, reads the same
pub stays : {A : Type 0} (p : Reader A) → IsLocal p → (s x : List ℕ) (g : Taken A) → p s ≡ sound g → p (s ++ x) ≡ took g.value (g.rest ++ x)
stays p l s x g e = let f = l s g e in rw (f.split, append_assoc) (f.again (g.rest ++ x))

-- one reading: lists that begin with what was taken give the same value and their own rest
pub one-reading : {A : Type 0} (p : Reader A) → IsLocal p → (s x : List ℕ) (g h : Taken A) → p s ≡ sound g → p (s ++ x) ≡ sound h
    → (h.value ≡ g.value) × (h.rest ≡ g.rest ++ x)
one-reading p l s x g h e k =
    let q = sound-inj (sym k ∙ stays p l s x g e) in
    (ap (λ j. j.value) q, ap (λ j. j.rest) q)

-- what was taken, as the octets that are not left
pub taken_is : (s a r : List ℕ) → s ≡ a ++ r → take (length s - length r) s ≡ a
taken_is s a r e = rw e (take_at a r (length (a ++ r) - length r) (simp length-append (omega arith)))

-- what is left of octets is octets
pub rest-octets : {A : Type 0} (p : Reader A) → IsLocal p → (s : List ℕ) (g : Taken A) → p s ≡ sound g → Octets s → Octets g.rest
rest-octets p l s g e h = let f = l s g e in rw (← drop_at f.taken g.rest (length f.taken) refl, ← f.split) (octets-drop (length f.taken) s h)

-- the readers at a place of a list, as the code sees them
pub octet-at : (n k : ℕ) (s : List ℕ) → k < length s → octet n (drop k s) ≡ took (get_or s k 0) (drop (suc k) s)
octet-at n k s h = rw (drop-cons s k 0 h)

pub octet-cut : (n k : ℕ) (s : List ℕ) → length s ≤ k → octet n (drop k s) ≡ fault n
octet-cut n k s h = rw (drop_of_length-le s h)

pub front_at : (n j k : ℕ) (s : List ℕ) → k + j ≤ length s → front n j (drop k s) ≡ took (take j (drop k s)) (drop (k + j) s)
front_at n j k s h = rw (le-leb j (length (drop k s)) (simp length-drop (omega arith)), drop-drop)

pub front_cut : (n j k : ℕ) (s : List ℕ) → k ≤ length s → length s < k + j → front n j (drop k s) ≡ fault n
front_cut n j k s g h = rw (lt-leb j (length (drop k s)) (simp length-drop (omega arith)))

-- what stood at the front is what was taken
pub front-was : (n k : ℕ) (s : List ℕ) (g : Taken (List ℕ)) → front n k s ≡ sound g → (s ≡ g.value ++ g.rest) × (length g.value ≡ k)
front-was n k s g e =
    passed (leb k (length s)) n (took (take k s) (drop k s)) g e λ t r.
    rw (← sound-inj r) (sym (take-append-drop k s), length-take-le k s (leb-true k (length s) t))

-- a sound answer on one branch or the other
pub branch : {A C : Type 0} (b : Bool) (o p : Answer A) (a : A) → cond b o p ≡ sound a → (b ≡ true → o ≡ sound a → C) → (b ≡ false → p ≡ sound a → C) → C
branch true o p a e this other = this refl e
branch false o p a e this other = other refl e
