-- What the code's answers say of the octets that were read, and what is promised of them. A parameter stands last, so it is told by its length.
use Rattle.std.specs.Prelude.{ℕ, ◌≤◌, ◌≡◌, List, cond, length, eqb, Option, None, Some, Result, Ok, Err}
use Rattle.std.proofs.Math.Option.{Option as Maybe, none, some}
use Rattle.octets.specs.Reader.{Answer, fault, sound}
use Rattle.parameters.specs.Seen.{TextSeen}
use Rattle.parameters.specs.declared.text.Ussd.{Ussd}
use Rattle.places.specs.Problems.{number_of, IsGeneral}
use Rattle.places.specs.Seen.{id_seen, last}
use Rattle.places.specs.declared.problems.Problem.{Problem}
use Rattle.components.specs.Component.{Component, invoke, result, error, reject, parameter_of, reject_tag}
use Rattle.components.specs.Facility.{Finding, empty, shows, general, left_over, faulty_reject}
use Rattle.components.specs.Texts.{extensible}
use Rattle.components.specs.declared.shown.Shown.{Shown}
use Rattle.components.specs.declared.facility.Unread.{Unread}

abbrev pub operation_seen : Option ℕ → Maybe ℕ
operation_seen None = none
operation_seen (Some operation) = some operation

abbrev pub shown_seen : List ℕ → Shown → Component
shown_seen s (Shown.Invoke id linked operation n) = invoke id (id_seen linked) operation (last n s)
shown_seen s (Shown.Result id operation n) = result id (operation_seen operation) (last n s)
shown_seen s (Shown.Error id code n) = error id code (last n s)
shown_seen s (Shown.Reject id tag problem) = reject (id_seen id) tag problem

-- the text that a component is told with: that of its parameter, where it carries one
abbrev pub TextTold : Component → Option Ussd → Type 0
TextTold c text = TextSeen (extensible c) (parameter_of c) text

-- how many octets of the part the parameter takes
abbrev pub parameter_length : Shown → ℕ
parameter_length (Shown.Invoke id linked operation n) = n
parameter_length (Shown.Result id operation n) = n
parameter_length (Shown.Error id code n) = n
parameter_length (Shown.Reject id tag problem) = 0

abbrev pub kind_seen : List ℕ → Result Shown Problem → Answer Component
kind_seen s (Err p) = fault (number_of p)
kind_seen s (Ok shown) = sound (shown_seen s shown)

abbrev pub KindWithin : List ℕ → Result Shown Problem → Type 0
KindWithin s (Err p) = IsGeneral p
KindWithin s (Ok shown) = parameter_length shown ≤ length s

-- the definition's component or fault
abbrev pub ReadsKind : Answer Component → List ℕ → Result Shown Problem → Type 0
ReadsKind definition s kind = (kind_seen s kind ≡ definition) × KindWithin s kind

abbrev pub unread_seen : Unread → Finding
unread_seen (Unread.General p id) = general (number_of p) (id_seen id)
unread_seen Unread.LeftOver = left_over
unread_seen Unread.FaultyReject = faulty_reject

abbrev pub UnreadWithin : Unread → Type 0
UnreadWithin (Unread.General p id) = IsGeneral p
UnreadWithin Unread.LeftOver = Unit {0}
UnreadWithin Unread.FaultyReject = Unit {0}

abbrev pub reading_seen : List ℕ → Result (Option Shown) Unread → Finding
reading_seen s (Ok None) = empty
reading_seen s (Ok (Some shown)) = shows (shown_seen s shown)
reading_seen s (Err u) = unread_seen u

abbrev pub ReadingWithin : List ℕ → Result (Option Shown) Unread → Type 0
ReadingWithin s (Ok None) = Unit {0}
ReadingWithin s (Ok (Some shown)) = parameter_length shown ≤ length s
ReadingWithin s (Err u) = UnreadWithin u

-- the definition's finding
abbrev pub ReadsFinding : Finding → List ℕ → Result (Option Shown) Unread → Type 0
ReadsFinding definition s reading = (reading_seen s reading ≡ definition) × ReadingWithin s reading

-- and where it is not empty
abbrev pub inside_seen : List ℕ → Result Shown Unread → Finding
inside_seen s (Ok shown) = shows (shown_seen s shown)
inside_seen s (Err u) = unread_seen u

abbrev pub InsideWithin : List ℕ → Result Shown Unread → Type 0
InsideWithin s (Ok shown) = parameter_length shown ≤ length s
InsideWithin s (Err u) = UnreadWithin u

abbrev pub ReadsInside : Finding → List ℕ → Result Shown Unread → Type 0
ReadsInside definition s reading = (inside_seen s reading ≡ definition) × InsideWithin s reading

-- the answer where the outer length can't be read
abbrev pub outer_fault : ℕ → Unread
outer_fault tag = cond (eqb tag reject_tag) Unread.FaultyReject (Unread.General Problem.BadlyStructured None)
