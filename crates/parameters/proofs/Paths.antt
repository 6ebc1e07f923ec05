-- What the definitions say on two paths through the code that the check doesn't follow alone.
use Prim.Native.Nat.{ℕ, zero, suc, ◌≤◌}
use mathlib.Core.Path.{◌≡◌, refl, sym, ◌∙◌}
use mathlib.Core.List.{List, [], ◌∷◌}
use native.Mathlib.Nat.{le_of_suc-le-suc}
use native.Mathlib.Omega.{arith}
use lib.ListN.{length, drop}
use lib.Dec.{eqb, eqb-zero-suc, eqb-suc-suc}
use Rattle.octets.specs.Reader.{fault, is_empty}
use Rattle.elements.specs.Element.{element}
use Rattle.parameters.specs.Parameter.{mistyped, ussd}
use Rattle.parameters.specs.Seen.{refusal}

-- nothing is left behind the end, and only there
pub at_end : (s : List ℕ) (e : ℕ) → e ≤ length s → is_empty (drop e s) ≡ eqb e (length s)
at_end [] zero h = refl
at_end [] (suc e) h = absurd (omega arith)
at_end (a ∷ s) zero h = sym (eqb-zero-suc (length s))
at_end (a ∷ s) (suc e) h = at_end s e (le_of_suc-le-suc h) ∙ sym (eqb-suc-suc e (length s))

-- no parameter is no text
pub no_text : (p : List ℕ) → length p ≡ 0 → refusal (ussd p) ≡ fault mistyped
unfolding ussd element
no_text [] h = refl
no_text (a ∷ p) h = absurd (omega arith)
