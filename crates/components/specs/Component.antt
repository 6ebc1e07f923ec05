-- 01, "Elements and components": the four kinds of component, and their places read from left to right.
use Rattle.std.specs.Prelude.{ℕ, List, [], cond, length, get_or, ℤ, eqb}
use Rattle.std.proofs.Math.Option.{Option, none, some}
use Rattle.octets.specs.Reader.{Answer, sound, and_then, check, is_empty, alone}
use Rattle.elements.specs.Element.{element}
use Rattle.codes.specs.Problems.{problem_tag}
use Rattle.places.specs.Places.{misplaced, parameter, invoke_places, coded, rejected}

-- A parameter is its octets, "its tag and length included"; no parameter is no octets.
pub data Component : Type 0 where
  -- "02 invoke id; optional 80 linked id; 02 operation; optional one parameter element"
  invoke : (id : ℤ) (linked : Option ℤ) (operation : ℕ) (parameter : List ℕ) → Component
  -- "02 invoke id; optional 30 holding 02 operation and optional one parameter"
  result : (id : ℤ) (operation : Option ℕ) (parameter : List ℕ) → Component
  -- "02 invoke id; 02 error code; optional one parameter"
  error : (id : ℤ) (code : ℕ) (parameter : List ℕ) → Component
  -- "02 invoke id, or 05 with length 0; then one of 80, 81, 82, 83 with one octet"
  reject : (id : Option ℤ) (tag : ℕ) (problem : ℕ) → Component

abbrev pub parameter_of : Component → List ℕ
parameter_of (invoke id linked operation p) = p
parameter_of (result id operation p) = p
parameter_of (error id code p) = p
parameter_of (reject id tag problem) = []

abbrev pub invoke_tag : ℕ
invoke_tag = 0xA1

abbrev pub result_tag : ℕ
result_tag = 0xA2

abbrev pub error_tag : ℕ
error_tag = 0xA3

abbrev pub reject_tag : ℕ
reject_tag = 0xA4

-- what follows the id of an Invoke
unfoldable pub invoke_of : ℤ → List ℕ → Answer Component
invoke_of id s = and_then (invoke_places s) (λ c. and_then (parameter c.rest) (λ p. sound (invoke id c.value.linked c.value.operation p)))

-- what follows the id of a Return result: nothing, or the 30 and nothing behind it
unfoldable pub result_of : ℤ → List ℕ → Answer Component
result_of id s =
    cond (is_empty s) (sound (result id none []))
    (and_then (element s) (λ e.
    check (eqb e.value.tag 0x30) misplaced
    (and_then (coded e.value.contents) (λ c.
    check (is_empty e.rest) misplaced
    (sound (result id (some c.code) c.parameter))))))

-- what follows the id of a Return error
unfoldable pub error_of : ℤ → List ℕ → Answer Component
error_of id s = and_then (coded s) (λ c. sound (error id c.code c.parameter))

-- the contents of a Reject: "A Reject that we read may carry any problem octet"
unfoldable pub reject_of : List ℕ → Answer Component
reject_of s =
    and_then (rejected s) (λ i.
    and_then (alone misplaced (element i.rest)) (λ e.
    check (problem_tag e.tag) misplaced
    (check (eqb (length e.contents) 1) misplaced
    (sound (reject i.value e.tag (get_or e.contents 0 0))))))
