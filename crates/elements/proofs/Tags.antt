-- Tags by ranges of the number: of each thirty-two all but the last are read, and 00 is not.
use Prim.Native.Nat.{ℕ, ◌+◌, ◌-◌, ◌*◌, ◌%◌, ◌≤◌, ◌<◌}
use native.Mathlib.Nat.{mul-add-mod_self_left, mod-eq_of_lt}
use native.Mathlib.Omega.{arith}
use mathlib.Core.Path.{◌≡◌, ap, ◌∙◌}
use mathlib.Core.Bool.{false}
use borrow.Author.Tests.{ne_eqb}
use Rattle.elements.specs.Element.{refused_tag}

pub not-refused : (q tag : ℕ) → 32 * q ≤ tag → tag < 32 * q + 31 → 0 < tag → refused_tag tag ≡ false
not-refused q tag p r n =
    let e : tag ≡ 32 * q + (tag - 32 * q) = omega arith in
    let d : tag % 32 ≡ tag - 32 * q = ap (λ (x : ℕ). x % 32) e ∙ mul-add-mod_self_left 32 q (tag - 32 * q) ∙ mod-eq_of_lt (omega arith) in
    rw (ne_eqb tag 0 (λ z. omega arith), ne_eqb (tag % 32) 31 (λ z. omega arith))
