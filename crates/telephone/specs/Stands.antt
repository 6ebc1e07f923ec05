-- "The parameter is handed back as a part of the caller's own message": C gets places, and what stands there is what is shown.
use Rattle.std.specs.Prelude.{ℕ, ◌≤◌, ◌≡◌, List, [], true, length}
use Rattle.std.proofs.Math.Option.{Option, none, some}
use Rattle.octets.specs.Part.{start_of}
use Rattle.octets.specs.Reader.{Taken}
use Rattle.parameters.specs.Parameter.{Text}
use Rattle.components.specs.Component.{parameter_of}
use Rattle.components.specs.Shows.{Shows}
use Rattle.components.specs.Texts.{text_of}
use Rattle.showing.specs.Views.{standing, LiesIn}
use Rattle.octets.specs.declared.Span.{Span}
use Rattle.telephone.specs.Outcome.{Outcome}
use Rattle.telephone.specs.Receive.{receive}
use Rattle.telephone.specs.FromC.{received_of}
use Rattle.telephone.specs.declared.receive.Received.{Received}

-- what a message shows: the parameter, the text with its string and tail, the cause; no octets where there is none
abbrev pub parameter_shown : Shows → List ℕ
parameter_shown none = []
parameter_shown (some w) = parameter_of w.component

abbrev pub text_shown : Shows → Option (Taken Text)
text_shown none = none
text_shown (some w) = text_of w.component

abbrev pub string_of : Option (Taken Text) → List ℕ
string_of none = []
string_of (some g) = g.value.string

abbrev pub tail_of : Option (Taken Text) → List ℕ
tail_of none = []
tail_of (some g) = g.rest

abbrev pub cause_shown : Option (Taken (List ℕ)) → List ℕ
cause_shown none = []
cause_shown (some t) = t.value

-- the string, and the tail directly behind it, up to the end of the parameter
abbrev pub InOrder : (parameter string tail : Span) → Type 0
InOrder parameter string tail = (parameter.start ≤ string.start) × ((string.end ≡ tail.start) × (tail.end ≡ parameter.end))

-- each place lies within the message, and what stands there is what is shown
pub record Stands (m : List ℕ) (o : Outcome) (r : Received) : Type 0 where
  pub parameter : standing m r.shown.parameter ≡ parameter_shown o.shown
  pub string : standing m r.text.string ≡ string_of (text_shown o.shown)
  pub tail : standing m r.text.tail ≡ tail_of (text_shown o.shown)
  pub cause : standing m r.cause.contents ≡ cause_shown o.cause
  pub parameter_lies : LiesIn m r.shown.parameter
  pub string_lies : LiesIn m r.text.string
  pub tail_lies : LiesIn m r.text.tail
  pub cause_lies : LiesIn m r.cause.contents
  pub order : r.text.is_there ≡ true → InOrder r.shown.parameter r.text.string r.text.tail

-- the octets at the place of a parameter; of a received message, the parameter that it shows
abbrev pub IsShownParameter : List ℕ → Received → List ℕ → Type 0
IsShownParameter m received octets =
    (octets ≡ standing m received.shown.parameter)
    × ((table buffer : List ℕ) → received ≡ received_of (length m) (receive table m buffer) → octets ≡ parameter_shown (receive table m buffer).shown)

-- and the place of its first octet
abbrev pub shown_start : List ℕ → Received → ℕ
shown_start m received = start_of received.shown.parameter.start received.shown.parameter.end m
