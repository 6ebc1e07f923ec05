-- Which faults an answer can have: whatever holds of each number that a reader may refuse with holds of its fault.
use Prim.Native.Nat.{ℕ}
use mathlib.Core.List.{List, [], ◌∷◌}
use mathlib.Core.Bool.{Bool, true, false, cond}
use lib.ListN.{length, take, drop}
use lib.Dec.{leb}
use Rattle.octets.specs.Reader.{Answer, fault, sound, took, Reader, and_then, check, octet, front}

module _ (P : ℕ → Type 0) where
  abbrev pub Faults : {A : Type 0} → Answer A → Type 0
  Faults (fault n) = P n
  Faults (sound a) = Unit {0}

  pub then-faults : {A B : Type 0} (o : Answer A) (k : A → Answer B) → Faults o → ((a : A) → Faults (k a)) → Faults (and_then o k)
  then-faults (fault n) k h f = h
  then-faults (sound a) k h f = f a

  pub check-faults : {A : Type 0} (b : Bool) (n : ℕ) (o : Answer A) → P n → Faults o → Faults (check b n o)
  check-faults true n o h f = f
  check-faults false n o h f = h

  pub cond-faults : {A : Type 0} (b : Bool) (x y : Answer A) → Faults x → Faults y → Faults (cond b x y)
  cond-faults true x y h k = h
  cond-faults false x y h k = k

  pub read-faults : {A : Type 0} (b : Bool) (p q : Reader A) (s : List ℕ) → Faults (p s) → Faults (q s) → Faults (cond b p q s)
  read-faults true p q s h k = h
  read-faults false p q s h k = k

  pub octet-faults : (n : ℕ) (s : List ℕ) → P n → Faults (octet n s)
  octet-faults n [] h = h
  octet-faults n (a ∷ s) h = tt

  pub front-faults : (n k : ℕ) (s : List ℕ) → P n → Faults (front n k s)
  front-faults n k s h = check-faults (leb k (length s)) n (took (take k s) (drop k s)) h tt
