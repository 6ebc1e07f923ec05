-- The contracts leave one answer: two that say the same of a part, and lie within it, are equal.
use Prim.Native.Nat.{ℕ, zero, suc, ◌≤◌}
use mathlib.Core.Path.{◌≡◌, refl, sym, ap, ◌∙◌}
use mathlib.Core.List.{List, []}
use native.Mathlib.Omega.{arith}
use mathlib.Core.Option.{Option as Maybe}
use lib.IntN.{ℤ}
use lib.ListN.{length, drop, length-drop}
use Rattle.std.specs.Prelude.{Option, None, Some, Result, Ok, Err}
use Rattle.octets.specs.Reader.{Taken}
use Rattle.octets.proofs.ReaderLaws.{sound-inj}
use Rattle.places.specs.Places.{InvokePlaces, Coded as CodedParts}
use Rattle.places.specs.Problems.{number_of, IsGeneral}
use Rattle.places.specs.Seen.{id_seen, octet_seen, OctetWithin, single_seen, SingleWithin, calls_seen, CallsWithin, last_seen, LastWithin, coded_seen, CodedWithin, rejected_seen, RejectedWithin}
use Rattle.places.specs.declared.problems.Problem.{Problem}
use Rattle.places.specs.declared.Single.{Single}
use Rattle.places.specs.declared.Calls.{Calls}
use Rattle.places.specs.declared.Coded.{Coded}
use Rattle.places.specs.declared.Rejected.{Rejected}

-- the general problem with a number
abbrev general_of : ℕ → Problem
general_of zero = Problem.UnrecognizedComponent
general_of (suc zero) = Problem.MistypedComponent
general_of (suc (suc n)) = Problem.BadlyStructured

general-is : (p : Problem) → IsGeneral p → general_of (number_of p) ≡ p
general-is Problem.UnrecognizedComponent h = refl
general-is Problem.MistypedComponent h = refl
general-is Problem.BadlyStructured h = refl
general-is Problem.DuplicateInvoke h = absurd (omega arith)
general-is Problem.UnrecognizedOperation h = absurd (omega arith)
general-is Problem.MistypedInvoke h = absurd (omega arith)
general-is Problem.ResourceLimit h = absurd (omega arith)
general-is Problem.UnrecognizedLinked h = absurd (omega arith)
general-is Problem.UnexpectedLinkedResponse h = absurd (omega arith)
general-is Problem.UnexpectedLinkedOperation h = absurd (omega arith)
general-is Problem.UnrecognizedResult h = absurd (omega arith)
general-is Problem.MistypedResult h = absurd (omega arith)
general-is Problem.UnrecognizedErrorId h = absurd (omega arith)
general-is Problem.UnrecognizedError h = absurd (omega arith)
general-is Problem.UnexpectedError h = absurd (omega arith)

pub general-determined : (p q : Problem) → IsGeneral p → IsGeneral q → number_of p ≡ number_of q → p ≡ q
general-determined p q a b e = sym (general-is p a) ∙ ap general_of e ∙ general-is q b

pub id-determined : (a b : Option ℤ) → id_seen a ≡ id_seen b → a ≡ b
id-determined None None e = refl
id-determined None (Some j) e = cc
id-determined (Some i) None e = cc
id-determined (Some i) (Some j) e = cc

-- a place is told by what is left behind it
same_end : (s : List ℕ) (i j : ℕ) → i ≤ length s → j ≤ length s → drop i s ≡ drop j s → i ≡ j
same_end s i j h k e = omega (arith, simp length-drop at (ap length e))

pub octet-determined : (r q : Result ℕ Problem) → OctetWithin r → OctetWithin q → octet_seen [] r ≡ octet_seen [] q → r ≡ q
octet-determined (Err p) (Err q) a b e = ap Err (general-determined p q a b (cc))
octet-determined (Err p) (Ok y) a b e = cc
octet-determined (Ok x) (Err q) a b e = cc
octet-determined (Ok x) (Ok y) a b e = ap (λ (h : Taken ℕ). Ok h.value) (sound-inj e)

pub single-determined : (s : List ℕ) (r q : Result Single Problem) → SingleWithin s r → SingleWithin s q → single_seen s r ≡ single_seen s q → r ≡ q
single-determined s (Err p) (Err q) a b e = ap Err (general-determined p q a b (cc))
single-determined s (Err p) (Ok y) a b e = cc
single-determined s (Ok x) (Err q) a b e = cc
single-determined s (Ok x) (Ok y) a b e =
    let g = sound-inj e in
    let z = same_end s x.end y.end a b (ap (λ (h : Taken ℕ). h.rest) g) in
    λ n. Ok (record { octet = (g n).value; end = z n })

pub calls-determined : (s : List ℕ) (r q : Result Calls Problem) → CallsWithin s r → CallsWithin s q → calls_seen s r ≡ calls_seen s q → r ≡ q
calls-determined s (Err p) (Err q) a b e = ap Err (general-determined p q a b (cc))
calls-determined s (Err p) (Ok y) a b e = cc
calls-determined s (Ok x) (Err q) a b e = cc
calls-determined s (Ok x) (Ok y) a b e =
    let g = sound-inj e in
    let z = same_end s x.end y.end a b (ap (λ (h : Taken InvokePlaces). h.rest) g) in
    let w = id-determined x.linked y.linked (ap (λ (h : Taken InvokePlaces). h.value.linked) g) in
    λ n. Ok (record { linked = w n; operation = (g n).value.operation; end = z n })

pub last-determined : (s : List ℕ) (r q : Result (Unit {0}) Problem) → LastWithin s r → LastWithin s q → last_seen s r ≡ last_seen s q → r ≡ q
last-determined s (Err p) (Err q) a b e = ap Err (general-determined p q a b (cc))
last-determined s (Err p) (Ok y) a b e = cc
last-determined s (Ok x) (Err q) a b e = cc
last-determined s (Ok x) (Ok y) a b e = refl

pub coded-determined : (s : List ℕ) (r q : Result Coded Problem) → CodedWithin s r → CodedWithin s q → coded_seen s r ≡ coded_seen s q → r ≡ q
coded-determined s (Err p) (Err q) a b e = ap Err (general-determined p q a b (cc))
coded-determined s (Err p) (Ok y) a b e = cc
coded-determined s (Ok x) (Err q) a b e = cc
coded-determined s (Ok x) (Ok y) a b e =
    let g = sound-inj e in
    let z : x.parameter ≡ y.parameter = omega (arith, simp length-drop at (ap (λ (h : CodedParts). length h.parameter) g)) in
    λ n. Ok (record { octet = (g n).code; parameter = z n })

pub rejected-determined : (s : List ℕ) (r q : Result Rejected Problem) → RejectedWithin s r → RejectedWithin s q → rejected_seen s r ≡ rejected_seen s q → r ≡ q
rejected-determined s (Err p) (Err q) a b e = ap Err (general-determined p q a b (cc))
rejected-determined s (Err p) (Ok y) a b e = cc
rejected-determined s (Ok x) (Err q) a b e = cc
rejected-determined s (Ok x) (Ok y) a b e =
    let g = sound-inj e in
    let z = same_end s x.end y.end a b (ap (λ (h : Taken (Maybe ℤ)). h.rest) g) in
    let w = id-determined x.id y.id (ap (λ (h : Taken (Maybe ℤ)). h.value) g) in
    λ n. Ok (record { id = w n; end = z n })
