-- A part is told by what it says of the octets, if it lies within them.
use Prim.Native.Nat.{ℕ}
use mathlib.Core.Path.{◌≡◌, refl, ap}
use mathlib.Core.List.{List}
use mathlib.Core.Option.{some}
use Rattle.std.specs.Prelude.{Option, None, Some}
use native.Mathlib.Omega.{arith}
use lib.ListN.{length, length-take, length-drop}
use Rattle.octets.specs.Reader.{Taken}
use Rattle.octets.specs.Seen.{part_found, part_read, PartWithin}
use Rattle.octets.specs.declared.Span.{Span}
use Rattle.octets.proofs.ReaderLaws.{sound-inj}

some_inj : {a b : Taken (List ℕ)} → some a ≡ some b → a ≡ b
some_inj e = cc

pub found-determined : (s : List ℕ) (r q : Option Span) → PartWithin s r → PartWithin s q → part_found s r ≡ part_found s q → r ≡ q
found-determined s None None a b e = refl
found-determined s None (Some p) a b e = cc
found-determined s (Some p) None a b e = cc
found-determined s (Some p) (Some q) a b e =
    let g = some_inj e in
    let x : p.end ≡ q.end = omega (arith, simp length-drop at (ap (λ (h : Taken (List ℕ)). length h.rest) g)) in
    let y : p.start ≡ q.start = omega (arith, simp (length-take, length-drop) at (ap (λ (h : Taken (List ℕ)). length h.value) g)) in
    λ n. Some (record { start = y n; end = x n })

-- what was read was found
pub read-determined : (n : ℕ) (s : List ℕ) (r q : Option Span) → PartWithin s r → PartWithin s q → part_read n s r ≡ part_read n s q → r ≡ q
read-determined n s None None a b e = refl
read-determined n s None (Some p) a b e = cc
read-determined n s (Some p) None a b e = cc
read-determined n s (Some p) (Some q) a b e = found-determined s (Some p) (Some q) a b (ap some (sound-inj e))
