-- A part that is no element is a fault of the definition. The code's `let .. else` leaves it so.
use Prim.Native.Nat.{ℕ}
use mathlib.Core.Path.{◌≡◌, sym}
use mathlib.Core.List.{List}
use Rattle.std.specs.Prelude.{Err}
use Rattle.octets.specs.Reader.{fault}
use Rattle.elements.specs.Element.{element}
use Rattle.elements.specs.Found.{fault_number, seen}
use Rattle.elements.specs.declared.Fault.{Fault}

pub not-whole : (f : Fault) (s : List ℕ) → seen s (Err f) ≡ element s → (n : ℕ) × (element s ≡ fault n)
not-whole f s e = (fault_number f, sym e)
