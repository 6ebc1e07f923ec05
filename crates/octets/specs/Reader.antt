-- The shape of every definition that reads. A reader takes octets from the front of a list; it answers with a value and
-- the rest, or with the number of the first fault. Readers in a row read from left to right, as 01 does.
use Rattle.std.specs.Prelude.{ℕ, List, [], ◌∷◌, Bool, true, false, length, take, drop, leb}

pub data Answer (A : Type 0) : Type 0 where
  fault : ℕ → Answer A
  sound : A → Answer A

-- what was taken from the front, and what is left
pub record Taken (A : Type 0) : Type 0 where
  pub value : A
  pub rest : List ℕ

abbrev pub took : {A : Type 0} → A → List ℕ → Answer (Taken A)
took a s = sound (record { value = a; rest = s })

abbrev pub Reader : Type 0 → Type 0
Reader A = List ℕ → Answer (Taken A)

-- the first fault decides; what follows a sound answer may look at it
abbrev pub and_then : {A B : Type 0} → Answer A → (A → Answer B) → Answer B
and_then (fault n) next = fault n
and_then (sound a) next = next a

-- one reader, and the next on what is left
abbrev pub seq : {A B : Type 0} → Reader A → (A → Reader B) → Reader B
seq p next s = and_then (p s) (λ g. next g.value g.rest)

-- takes nothing and answers a
abbrev pub done : {A : Type 0} → A → Reader A
done a s = took a s

-- a fault with the number n unless the test holds
abbrev pub check : {A : Type 0} → Bool → ℕ → Answer A → Answer A
check true n o = o
check false n o = fault n

abbrev pub need : {A : Type 0} → Bool → ℕ → Reader A → Reader A
need test n p s = check test n (p s)

-- one octet; where none is left, the fault n
abbrev pub octet : ℕ → Reader ℕ
octet n [] = fault n
octet n (a ∷ s) = took a s

-- the k octets at the front; where fewer are left, the fault n
abbrev pub front : ℕ → ℕ → Reader (List ℕ)
front n k s = check (leb k (length s)) n (took (take k s) (drop k s))

abbrev pub is_empty : List ℕ → Bool
is_empty [] = true
is_empty (a ∷ s) = false

-- what was read, if nothing is left behind it; else the fault n
abbrev pub alone : {A : Type 0} → ℕ → Answer (Taken A) → Answer A
alone n o = and_then o (λ g. check (is_empty g.rest) n (sound g.value))
