-- How a component is written: lengths in shortest form, a caller's parameter copied as given.
use Rattle.std.specs.Prelude.{ℕ, ◌+◌, List, [], ◌∷◌, ◌++◌, ◌≡◌, true, cond, ℤ, length, eqb}
use Rattle.std.proofs.Math.Option.{Option, none, some}
use Rattle.std.specs.Int.{w8}
use Rattle.std.proofs.Common.{SFits}
use Rattle.octets.specs.Reader.{sound, is_empty}
use Rattle.elements.specs.Element.{shortest, written}
use Rattle.codes.specs.Ids.{octet_of}
use Rattle.codes.specs.Problems.{problem_tag}
use Rattle.places.specs.Places.{parameter}
use Rattle.components.specs.Component.{Component, invoke, result, error, reject, invoke_tag, result_tag, error_tag, reject_tag}

-- a place of one octet
abbrev pub octet_place : ℕ → ℕ → List ℕ
octet_place tag octet = tag ∷ 0x01 ∷ octet ∷ []

abbrev pub linked_place : Option ℤ → List ℕ
linked_place none = []
linked_place (some id) = octet_place 0x80 (octet_of id)

-- "Without a parameter we write no 30": an absent operation has no 30 to stand in
abbrev pub result_place : Option ℕ → List ℕ → List ℕ
result_place none p = []
result_place (some operation) p = written 0x30 (octet_place 0x02 operation ++ p)

-- "the invoke id if it was read, else 05 00"
abbrev pub reject_place : Option ℤ → List ℕ
reject_place none = 0x05 ∷ 0x00 ∷ []
reject_place (some id) = octet_place 0x02 (octet_of id)

unfoldable pub contents : Component → List ℕ
contents (invoke id linked operation p) = octet_place 0x02 (octet_of id) ++ linked_place linked ++ octet_place 0x02 operation ++ p
contents (result id operation p) = octet_place 0x02 (octet_of id) ++ result_place operation p
contents (error id code p) = octet_place 0x02 (octet_of id) ++ octet_place 0x02 code ++ p
contents (reject id tag problem) = reject_place id ++ octet_place tag problem

abbrev pub tag_of : Component → ℕ
tag_of (invoke id linked operation p) = invoke_tag
tag_of (result id operation p) = result_tag
tag_of (error id code p) = error_tag
tag_of (reject id tag problem) = reject_tag

-- the Facility value that holds the component
abbrev pub component_octets : Component → List ℕ
component_octets c = written (tag_of c) (contents c)

-- the Return result that answers an operation: "Without a parameter we write no 30"
unfoldable pub result_for : ℤ → ℕ → List ℕ → Component
result_for id operation p = cond (is_empty p) (result id none []) (result id (some operation) p)

-- how long an element is, by the length of its contents
abbrev pub enclosed_length : ℕ → ℕ
enclosed_length n = 1 + length (shortest n) + n

-- how long a component is, by the length of its parameter: an Invoke or a Return error, and a Return result
abbrev pub coded_length : ℕ → ℕ
coded_length n = enclosed_length (6 + n)

abbrev pub result_length : ℕ → ℕ
result_length n = cond (eqb n 0) (enclosed_length 3) (enclosed_length (3 + enclosed_length (3 + n)))

-- "optional one parameter": none, or one element
abbrev pub IsParameter : List ℕ → Type 0
IsParameter p = parameter p ≡ sound p

-- an id from -128 to 127, where there is one
abbrev pub IsSomeId : Option ℤ → Type 0
IsSomeId none = Unit {0}
IsSomeId (some id) = SFits w8 id

-- an operation that is absent has no 30 for a parameter to stand in
abbrev pub HoldsResult : Option ℕ → List ℕ → Type 0
HoldsResult none p = p ≡ []
HoldsResult (some operation) p = IsParameter p

-- the components that can be written
abbrev pub Writable : Component → Type 0
Writable (invoke id linked operation p) = SFits w8 id × (IsSomeId linked × IsParameter p)
Writable (result id operation p) = SFits w8 id × HoldsResult operation p
Writable (error id code p) = SFits w8 id × IsParameter p
Writable (reject id tag problem) = IsSomeId id × (problem_tag tag ≡ true)

-- and a Reject
abbrev pub reject_length : Option ℤ → ℕ
reject_length none = 7
reject_length (some id) = 8
