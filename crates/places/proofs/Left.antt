-- What is left behind a place, the parameter as the last octets, and a place where no element stands.
use Prim.Native.Nat.{ℕ, ◌+◌, ◌-◌, ◌≤◌}
use mathlib.Core.Path.{◌≡◌, refl, ap, ◌∙◌}
use mathlib.Core.List.{List, [], ◌∷◌}
use native.Mathlib.Omega.{arith}
use lib.ListN.{length, take, drop, length-take, length-drop}
use lib.Seq.{drop-drop}
use Rattle.octets.specs.Part.{between}
use Rattle.octets.specs.Reader.{fault, is_empty}
use Rattle.octets.proofs.PartLaws.{from-taken}
use Rattle.elements.specs.Element.{element}
use Rattle.elements.specs.Found.{seen}
use Rattle.elements.specs.declared.Fault.{Fault}
use Rattle.places.specs.Problems.{number_of, problem_of}
use Rattle.places.specs.Seen.{last}
use Rattle.std.specs.Prelude.{Err}
use mathlib.Core.Bool.{true, false}

-- where no whole element stands, the problem that the code hands on has the fault's number
pub problem-is : (f : Fault) (s : List ℕ) → seen s (Err f) ≡ element s → fault (number_of (problem_of f)) ≡ element s
problem-is Fault.Missing s e = e
problem-is Fault.Unreadable s e = e

pub nothing_left : (s : List ℕ) → length s ≡ 0 → is_empty s ≡ true
nothing_left [] e = refl
nothing_left (a ∷ s) e = absurd (omega arith)

pub something-left : (s : List ℕ) → (length s ≡ 0 → ⊥) → is_empty s ≡ false
something-left [] e = absurd (e refl)
something-left (a ∷ s) e = refl

-- what is left behind a place: nothing at the end, something before it
pub left-none : (s : List ℕ) (e : ℕ) → e ≡ length s → is_empty (drop e s) ≡ true
left-none s e h = nothing_left (drop e s) (simp length-drop (omega arith))

pub left_some : (s : List ℕ) (e : ℕ) → e ≤ length s → (e ≡ length s → ⊥) → is_empty (drop e s) ≡ false
left_some s e l h = something-left (drop e s) (λ z. h (omega (arith, simp length-drop at z)))

-- the parameter behind a place is the last octets
pub last-is : (s : List ℕ) (e : ℕ) → e ≤ length s → last (length s - e) s ≡ drop e s
last-is s e l = let h : length s - (length s - e) ≡ e = omega arith in rw h

-- the last octets of a part that goes on to the end
pub last_end : (s : List ℕ) (a n : ℕ) → a ≤ length s → n ≤ length (drop a s) → last n (drop a s) ≡ last n s
last_end s a n k l =
    let h : a + (length (drop a s) - n) ≡ length s - n = omega (arith, length-drop a s) in
    drop-drop (length (drop a s) - n) a s ∙ ap (λ (j : ℕ). drop j s) h

-- the last octets of a part are the last up to its end
pub last-part : (s : List ℕ) (a e n : ℕ) → a ≤ e → e ≤ length s → n ≤ length (between a e s) → last n (between a e s) ≡ last n (take e s)
last-part s a e n h l k =
    let b : a ≤ length (take e s) = rw (length-take e s) (omega arith) in
    rw (from-taken a e s) (last_end (take e s) a n b (rw (from-taken a e s) at k))

-- and they are a part
pub last_taken : (s : List ℕ) (e n : ℕ) → n ≤ e → e ≤ length s → between (e - n) e s ≡ last n (take e s)
last_taken s e n h l =
    let b : length (take e s) ≡ e = rw (length-take e s) (omega arith) in
    rw b (from-taken (e - n) e s)
