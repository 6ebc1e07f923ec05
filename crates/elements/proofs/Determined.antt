-- The contracts leave one answer: two that say the same of a part, and lie within it, are equal.
use Prim.Native.Nat.{ℕ}
use mathlib.Core.Path.{◌≡◌, refl, ap}
use mathlib.Core.List.{List}
use native.Mathlib.Omega.{arith}
use lib.ListN.{length, length-take, length-drop}
use Rattle.octets.specs.Reader.{Taken}
use Rattle.octets.proofs.ReaderLaws.{sound-inj, fault-inj}
use Rattle.elements.specs.Element.{Element}
use Rattle.elements.specs.Found.{length_seen, LengthWithin, fault_number, seen, Within}
use Rattle.std.specs.Prelude.{Option, None, Some, Result, Ok, Err}
use Rattle.elements.specs.declared.Length.{Length}
use Rattle.elements.specs.declared.Element.{Element as Places}
use Rattle.elements.specs.declared.Fault.{Fault}

pub length-determined : (s : List ℕ) (r q : Option Length) → LengthWithin s r → LengthWithin s q → length_seen s r ≡ length_seen s q → r ≡ q
length-determined s None None a b e = refl
length-determined s None (Some q) a b e = cc
length-determined s (Some p) None a b e = cc
length-determined s (Some p) (Some q) a b e =
    let g = sound-inj e in
    let x : p.taken ≡ q.taken = omega (arith, simp length-drop at (ap (λ (h : Taken ℕ). length h.rest) g)) in
    λ i. Some (record { octets = (g i).value; taken = x i })

-- the two faults have two numbers
one_fault : (f g : Fault) → fault_number f ≡ fault_number g → f ≡ g
one_fault Fault.Missing Fault.Missing e = refl
one_fault Fault.Missing Fault.Unreadable e = absurd (omega arith)
one_fault Fault.Unreadable Fault.Missing e = absurd (omega arith)
one_fault Fault.Unreadable Fault.Unreadable e = refl

pub found-determined : (s : List ℕ) (r q : Result Places Fault) → Within s r → Within s q → seen s r ≡ seen s q → r ≡ q
found-determined s (Err f) (Err g) a b e = ap (λ (h : Fault). Err h) (one_fault f g (fault-inj e))
found-determined s (Err f) (Ok q) a b e = cc
found-determined s (Ok p) (Err g) a b e = cc
found-determined s (Ok p) (Ok q) a b e =
    let g = sound-inj e in
    let x : p.end ≡ q.end = omega (arith, simp length-drop at (ap (λ (h : Taken Element). length h.rest) g)) in
    let y : p.start ≡ q.start = omega (arith, simp (length-take, length-drop) at (ap (λ (h : Taken Element). length h.value.contents) g)) in
    λ n. Ok (record { tag = (g n).value.tag; start = y n; end = x n })
