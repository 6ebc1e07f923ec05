-- What stands at the end of a list, and a part by what follows it.
use Prim.Native.Nat.{ℕ, ◌+◌, ◌-◌}
use mathlib.Core.Path.{◌≡◌, sym, ap, ◌∙◌}
use mathlib.Core.List.{List, ◌++◌, append_assoc}
use native.Mathlib.Omega.{arith}
use lib.ListN.{length, take, drop, length-append}
use lib.Seq.{take-append_seam, drop-append_seam}
use Rattle.octets.specs.Part.{between}

-- e stands at the end of s
abbrev pub Ends : List ℕ → List ℕ → Type 0
Ends e s = (before : List ℕ) × (s ≡ before ++ e)

pub further-ends : (e s u : List ℕ) → Ends e s → Ends s u → Ends e u
further-ends e s u x y = (y.0 ++ x.0, y.1 ∙ ap (λ (l : List ℕ). y.0 ++ l) x.1 ∙ sym (append_assoc y.0 x.0 e))

pub behind-ends : (e s r : List ℕ) → Ends e s → Ends (e ++ r) (s ++ r)
behind-ends e s r x = (x.0, ap (λ (l : List ℕ). l ++ r) x.1 ∙ append_assoc x.0 e r)

-- a part that is followed by r up to the end
pub part_at : (m p r : List ℕ) → Ends (p ++ r) m → between (length m - length r - length p) (length m - length r) m ≡ p
part_at m p r x =
    let a = x.0 in
    let l : length m ≡ length a + (length p + length r) = ap length x.1 ∙ length-append a (p ++ r) ∙ ap (λ (n : ℕ). length a + n) (length-append p r) in
    let f : length m - length r - length p ≡ length a = omega arith in
    let t : length m - length r - length a ≡ length p = omega arith in
    rw (f, t) (ap (λ (s : List ℕ). take (length p) (drop (length a) s)) x.1 ∙ ap (λ (s : List ℕ). take (length p) s) (drop-append_seam a (p ++ r)) ∙ take-append_seam p r)
