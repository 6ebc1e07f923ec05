-- A later edition of a component: octets appended inside its parameter, and every length around them written anew.
-- Each piece can be seen: what stays, each enclosing length as it was (any form that reads) and as it becomes (shortest).
use Rattle.std.specs.Prelude.{ℕ, ◌≡◌, List, [], ◌∷◌, ◌++◌, length}
use Rattle.octets.specs.Reader.{took}
use Rattle.elements.specs.Element.{length_of, written}
use Rattle.places.specs.Places.{single}
use Rattle.components.specs.Component.{Component, invoke, result, error, reject, invoke_tag, result_tag}

-- an element as it stood: its length in any form that reads
pub record Encloses (tag : ℕ) (contents s : List ℕ) : Type 0 where
  pub form : List ℕ
  pub reads : length_of form ≡ took (length contents) []
  pub is : s ≡ tag ∷ (form ++ contents)

-- the parameter: a 30, whose contents are followed by x
pub record LaterParameter (p x q : List ℕ) : Type 0 where
  pub contents : List ℕ
  pub was : Encloses 0x30 contents p
  pub becomes : q ≡ written 0x30 (contents ++ x)

-- the Facility value around the parameter p, and around q in its place
pub data LaterFacility (p q : List ℕ) : List ℕ → List ℕ → Type 0 where
  -- an Invoke: what stands before the parameter stays
  in_invoke : {s : List ℕ} (before : List ℕ) → Encloses invoke_tag (before ++ p) s → LaterFacility p q s (written invoke_tag (before ++ q))
  -- a Return result: the id stays, and in the 30 the operation
  in_result : {s : List ℕ} (id : List ℕ) (octet : ℕ) (operation thirty : List ℕ) → single 0x02 id ≡ took octet []
      → Encloses 0x30 (operation ++ p) thirty → Encloses result_tag (id ++ thirty) s
      → LaterFacility p q s (written result_tag (id ++ written 0x30 (operation ++ q)))

-- the same component with another parameter
abbrev pub with_parameter : List ℕ → Component → Component
with_parameter q (invoke id linked operation p) = invoke id linked operation q
with_parameter q (result id operation p) = result id operation q
with_parameter q (error id code p) = error id code q
with_parameter q (reject id tag problem) = reject id tag problem
