-- What the code's answers say of the octets behind the type, and what is promised of them. A component that is shown tells where its Facility value ends.
use Rattle.std.specs.Prelude.{ℕ, ◌≤◌, ◌<◌, ◌≡◌, List, Bool, true, false, cond, not, Option, None, Some, Result, Ok, Err, length, take, drop, eqb}
use Rattle.std.proofs.Math.Option.{none, some}
use Rattle.octets.specs.Part.{between}
use Rattle.octets.specs.Unless.{unless}
use Rattle.places.specs.Problems.{tag_of, number_of}
use Rattle.places.specs.Seen.{id_seen}
use Rattle.components.specs.Seen.{shown_seen, TextTold, parameter_length}
use Rattle.components.specs.Facility.{facility}
use Rattle.messages.specs.Layout.{value, flag}
use Rattle.messages.specs.Scan.{first_taken}
use Rattle.octets.specs.Seen.{part_found, PartWithin}
use Rattle.table.specs.Table.{Entry, entry_at, valid, holds}
use Rattle.table.specs.Change.{changed}
use Rattle.table.specs.Seen.{change_seen}
use Rattle.components.specs.Shows.{Shows}
use Rattle.deciding.specs.Decision.{shown_by, silent, with_cause, with_reject, on_reject, released, taken}
use Rattle.deciding.specs.Decision as spec
use Rattle.deciding.specs.Numbers.{silence_number, cause_number}
use Rattle.deciding.specs.Steps.{first_octet, type_octet, picked_entry, not_open, step_three, five_and_six, except_invoke, by_type}
use Rattle.deciding.specs.declared.Told.{Told}
use Rattle.deciding.specs.declared.Act.{Act}
use Rattle.deciding.specs.declared.Course.{Course}
use Rattle.deciding.specs.declared.Decision.{Decision}

abbrev pub told_seen : List ℕ → Option Told → Shows
told_seen s None = none
told_seen s (Some t) = some (record { component = shown_seen (take t.end s) t.shown; behind = drop t.end s })

abbrev pub ToldWithin : List ℕ → Option Told → Type 0
ToldWithin s None = Unit {0}
ToldWithin s (Some t) = ((parameter_length t.shown ≤ t.end) × (t.end ≤ length s)) × TextTold (shown_seen (take t.end s) t.shown) t.text

abbrev pub act_seen : List ℕ → Act → Shows → spec.Decision
act_seen s (Act.Silent silence) shown = silent (silence_number silence)
act_seen s (Act.WithCause cause) shown = with_cause (cause_number cause)
act_seen s (Act.WithReject id p) shown = with_reject (id_seen id) (tag_of p) (number_of p)
act_seen s Act.OnReject shown = on_reject shown
act_seen s (Act.Released cause) shown = released shown (part_found s cause)
act_seen s (Act.Taken change) shown = taken (change_seen change) shown

abbrev pub decision_seen : List ℕ → Decision → spec.Decision
decision_seen s d = act_seen s d.act (told_seen s d.told)

-- where a case shows nothing, nothing is told
abbrev pub ActWithin : List ℕ → Act → Option Told → Type 0
ActWithin s (Act.Silent silence) told = told ≡ None
ActWithin s (Act.WithCause cause) told = (told ≡ None) × (cause_number cause < 128)
ActWithin s (Act.WithReject id p) told = told ≡ None
ActWithin s Act.OnReject told = Unit {0}
ActWithin s (Act.Released cause) told = PartWithin s cause
ActWithin s (Act.Taken change) told = Unit {0}

abbrev pub DecisionWithin : List ℕ → Decision → Type 0
DecisionWithin s d = ToldWithin s d.told × ActWithin s d.act d.told

-- a decision from what the Facility value was weighed to be: a RELEASE COMPLETE only shows it
abbrev pub on_weighed : Bool → List ℕ → spec.Decision → spec.Decision
on_weighed false s d = d
on_weighed true s d = released (except_invoke (shown_by d)) (first_taken 0x08 s)

-- an end that shows nothing
abbrev pub EndsAs : List ℕ → Act → spec.Decision → Type 0
EndsAs s act d = (act_seen s act none ≡ d) × ActWithin s act None

-- what is left to do leads to this decision
abbrev pub CourseSeen : Entry → List ℕ → Result Course Act → spec.Decision → Type 0
CourseSeen e s (Err act) d = EndsAs s act d
CourseSeen e s (Ok c) d =
    ((c.value.start ≤ c.value.end) × (c.value.end ≤ length s))
    × (on_weighed c.release s (five_and_six e (facility (between c.value.start c.value.end s)) (drop c.value.end s)) ≡ d)

abbrev pub shows_nothing : Act → Decision
shows_nothing act = record { act = act; told = None }

-- nothing is sent and nothing changes
abbrev pub acts_not : Act → Bool
acts_not (Act.Silent silence) = true
acts_not (Act.WithCause cause) = false
acts_not (Act.WithReject id p) = false
acts_not Act.OnReject = false
acts_not (Act.Released cause) = false
acts_not (Act.Taken change) = false

abbrev pub is_silent : Decision → Bool
is_silent d = acts_not d.act

-- steps 2 to 6 of a message whose value is not 7
unfoldable pub from_type : Entry → ℕ → ℕ → List ℕ → spec.Decision
from_type e flag type s =
    cond e.is_open (step_three e type (by_type e type s))
    (not_open flag type (step_three e type (by_type e type s)))

-- steps 2 to 6 of a whole message
abbrev pub from_entry : List ℕ → List ℕ → spec.Decision
from_entry table m =
    unless (not (eqb (value (first_octet m)) 7)) (silent 1)
    (from_type (entry_at table (picked_entry m)) (flag (first_octet m)) (type_octet m) (drop 2 m))

-- whoever acts otherwise finds a sound image, room for any reply, and one of the fourteen entries
abbrev pub Ready : List ℕ → List ℕ → ℕ → Type 0
Ready table m room = (valid table ≡ true) × ((12 ≤ room) × ((2 ≤ length m) × (value (first_octet m) < 7)))

-- a decision that says what the definition does
abbrev pub Decides : spec.Decision → List ℕ → Decision → Type 0
Decides definition s d = (decision_seen s d ≡ definition) × DecisionWithin s d

-- the change of what is taken leaves an open entry, which an image can hold
abbrev pub Keeps : Entry → spec.Decision → Type 0
Keeps e (silent code) = Unit {0}
Keeps e (with_cause number) = Unit {0}
Keeps e (with_reject id tag number) = Unit {0}
Keeps e (on_reject shown) = Unit {0}
Keeps e (released shown cause) = Unit {0}
Keeps e (taken change shown) = (holds (changed e change) ≡ true) × ((changed e change).is_open ≡ true)
