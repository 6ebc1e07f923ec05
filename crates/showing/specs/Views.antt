-- What C gets to see of a component: its numbers, and its parts as places in the message.
use Rattle.std.specs.Prelude.{ℕ, ◌-◌, ◌≤◌, List, ◌++◌, Bool, true, false, ℤ, pos, length}
use Rattle.std.proofs.Math.Option.{Option, none, some}
use Rattle.octets.specs.Part.{between}
use Rattle.octets.specs.Reader.{Taken}
use Rattle.parameters.specs.Parameter.{Text}
use Rattle.components.specs.Component.{Component, invoke, result, error, reject, parameter_of, invoke_tag, result_tag, error_tag, reject_tag}
use Rattle.components.specs.Shows.{Shows}
use Rattle.components.specs.Texts.{text_of}
use Rattle.octets.specs.declared.Span.{Span}
use Rattle.showing.specs.declared.ComponentView.{ComponentView}
use Rattle.showing.specs.declared.TextView.{TextView}
use Rattle.showing.specs.declared.CauseView.{CauseView}

-- "Parts are given as places in the message": octets that are followed by `behind`, in a message of n octets
abbrev pub span_of : ℕ → List ℕ → List ℕ → Span
span_of n octets behind = record { start = n - length behind - length octets; end = n - length behind }

abbrev pub nowhere : Span
nowhere = record { start = 0; end = 0 }

-- what stands at a place of the message
abbrev pub standing : List ℕ → Span → List ℕ
standing m place = between place.start place.end m

abbrev pub LiesIn : List ℕ → Span → Type 0
LiesIn m place = (place.start ≤ place.end) × (place.end ≤ length m)

abbrev pub is_present : {A : Type 0} → Option A → Bool
is_present none = false
is_present (some a) = true

abbrev pub id_or0 : Option ℤ → ℤ
id_or0 none = pos 0
id_or0 (some id) = id

abbrev pub number_or0 : Option ℕ → ℕ
number_or0 none = 0
number_or0 (some n) = n

-- "kind, id, linked id, operation, error code, problem, the parameter as a part": a number that is not there is 0, a parameter
-- that is not there is empty at its place
abbrev pub view_of : Component → Span → ComponentView
view_of (invoke id linked operation p) span =
    record {
      kind = invoke_tag;
      has_id = true;
      id = id;
      has_linked = is_present linked;
      linked = id_or0 linked;
      has_operation = true;
      operation = operation;
      code = 0;
      tag = 0;
      problem = 0;
      parameter = span;
    }
view_of (result id operation p) span =
    record {
      kind = result_tag;
      has_id = true;
      id = id;
      has_linked = false;
      linked = pos 0;
      has_operation = is_present operation;
      operation = number_or0 operation;
      code = 0;
      tag = 0;
      problem = 0;
      parameter = span;
    }
view_of (error id code p) span =
    record {
      kind = error_tag;
      has_id = true;
      id = id;
      has_linked = false;
      linked = pos 0;
      has_operation = false;
      operation = 0;
      code = code;
      tag = 0;
      problem = 0;
      parameter = span;
    }
view_of (reject id tag problem) span =
    record {
      kind = reject_tag;
      has_id = is_present id;
      id = id_or0 id;
      has_linked = false;
      linked = pos 0;
      has_operation = false;
      operation = 0;
      code = 0;
      tag = tag;
      problem = problem;
      parameter = span;
    }

abbrev pub no_component : ComponentView
no_component =
    record {
      kind = 0;
      has_id = false;
      id = pos 0;
      has_linked = false;
      linked = pos 0;
      has_operation = false;
      operation = 0;
      code = 0;
      tag = 0;
      problem = 0;
      parameter = nowhere;
    }

unfoldable pub component_view : ℕ → Shows → ComponentView
component_view n none = no_component
component_view n (some t) = view_of t.component (span_of n (parameter_of t.component) t.behind)

abbrev pub no_text : TextView
no_text = record { is_there = false; scheme = 0; string = nowhere; tail = nowhere }

-- the string is followed by the tail, and the tail by what stands behind the Facility value
abbrev pub text_in : ℕ → List ℕ → Option (Taken Text) → TextView
text_in n behind none = no_text
text_in n behind (some g) =
    record {
      is_there = true;
      scheme = g.value.scheme;
      string = span_of n g.value.string (g.rest ++ behind);
      tail = span_of n g.rest behind;
    }

unfoldable pub text_view : ℕ → Shows → TextView
text_view n none = no_text
text_view n (some t) = text_in n t.behind (text_of t.component)

-- "The contents of the 08 are handed back as a part, unread"
unfoldable pub cause_view : ℕ → Option (Taken (List ℕ)) → CauseView
cause_view n none = record { is_there = false; contents = nowhere }
cause_view n (some t) = record { is_there = true; contents = span_of n t.value t.rest }
