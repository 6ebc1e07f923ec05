-- The contracts leave one answer: two that say the same of a part, and lie within it, are equal.
use Prim.Native.Nat.{ℕ, ◌≤◌}
use mathlib.Core.Path.{◌≡◌, refl, ap}
use mathlib.Core.List.{List}
use native.Mathlib.Omega.{arith}
use Rattle.std.specs.Prelude.{Option, None, Some}
use lib.ListN.{length, drop, length-drop}
use Rattle.octets.specs.Part.{between}
use Rattle.octets.specs.Reader.{Taken}
use Rattle.octets.proofs.PartLaws.{length-between}
use Rattle.octets.proofs.ReaderLaws.{sound-inj}
use Rattle.parameters.specs.Parameter.{mistyped, Text}
use Rattle.parameters.specs.Seen.{contents_seen, ContentsWithin, StringWithin, ussd_seen, UssdWithin}
use Rattle.octets.specs.Seen.{part_read, PartWithin}
use Rattle.octets.specs.declared.Span.{Span}
use Rattle.octets.proofs.Determined.{read-determined}
use Rattle.parameters.specs.declared.text.Ussd.{Ussd}

-- the same octets left: the same place
same_end : (s : List ℕ) (e f : ℕ) → e ≤ length s → f ≤ length s → drop e s ≡ drop f s → e ≡ f
same_end s e f h k q = omega (arith, simp length-drop at (ap (λ (r : List ℕ). length r) q))

-- and the same octets up to there: the same start
same_start : (s : List ℕ) (a e b f : ℕ) → a ≤ e → b ≤ f → e ≤ length s → f ≤ length s → e ≡ f → between a e s ≡ between b f s → a ≡ b
same_start s a e b f h k l m p q = omega (arith, length-between a e s l, length-between b f s m, ap (λ (r : List ℕ). length r) q)

pub contents-determined : (s : List ℕ) (r q : Option ℕ) → ContentsWithin s r → ContentsWithin s q → contents_seen s r ≡ contents_seen s q → r ≡ q
contents-determined s None None a b e = refl
contents-determined s None (Some j) a b e = cc
contents-determined s (Some i) None a b e = cc
contents-determined s (Some i) (Some j) a b e = ap Some (same_end s i j a b (sound-inj e))

pub string-determined : (low : ℕ) (s : List ℕ) (r q : Option Span) → StringWithin low s r → StringWithin low s q → part_read mistyped s r ≡ part_read mistyped s q → r ≡ q
string-determined low s r q a b e = read-determined mistyped s r q (within r a) (within q b) e
  where
    within : (p : Option Span) → StringWithin low s p → PartWithin s p
    within None h = tt
    within (Some p) h = (omega arith, h.1)

pub ussd-determined : (s : List ℕ) (r q : Option Ussd) → UssdWithin s r → UssdWithin s q → ussd_seen s r ≡ ussd_seen s q → r ≡ q
ussd-determined s None None a b e = refl
ussd-determined s None (Some u) a b e = cc
ussd-determined s (Some t) None a b e = cc
ussd-determined s (Some t) (Some u) a b e =
    let g = sound-inj e in
    let x = same_end s t.end u.end a.1 b.1 (ap (λ (h : Taken Text). h.rest) g) in
    let y = same_start s t.start t.end u.start u.end a.0 b.0 a.1 b.1 x (ap (λ (h : Taken Text). h.value.string) g) in
    λ n. Some (record { scheme = (g n).value.scheme; start = y n; end = x n })
