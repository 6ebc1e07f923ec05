-- What the code's answers say of the octets that were read, and what is promised of them. A parameter stands last, so it is told by its length.
use Rattle.std.specs.Prelude.{ℕ, ◌-◌, ◌≤◌, ◌≡◌, List, ℤ, Option, None, Some, Result, Ok, Err, length, drop}
use Rattle.std.proofs.Math.Option.{Option as Maybe, none, some}
use Rattle.octets.specs.Reader.{Answer, fault, sound, Taken, took}
use Rattle.places.specs.Places.{octet_in, single, parameter, InvokePlaces, invoke_places, Coded as CodedParts, coded, rejected}
use Rattle.places.specs.Problems.{number_of, IsGeneral}
use Rattle.places.specs.declared.problems.Problem.{Problem}
use Rattle.places.specs.declared.Single.{Single}
use Rattle.places.specs.declared.Calls.{Calls}
use Rattle.places.specs.declared.Coded.{Coded}
use Rattle.places.specs.declared.Rejected.{Rejected}

abbrev pub id_seen : Option ℤ → Maybe ℤ
id_seen None = none
id_seen (Some id) = some id

-- the last n octets
abbrev pub last : ℕ → List ℕ → List ℕ
last n s = drop (length s - n) s

-- the octet of a place, with what stands behind the element
abbrev pub octet_seen : List ℕ → Result ℕ Problem → Answer (Taken ℕ)
octet_seen rest (Err p) = fault (number_of p)
octet_seen rest (Ok octet) = took octet rest

abbrev pub OctetWithin : Result ℕ Problem → Type 0
OctetWithin (Err p) = IsGeneral p
OctetWithin (Ok octet) = Unit {0}

-- whatever stands behind it
abbrev pub ReadsOctet : ℕ → ℕ → List ℕ → Result ℕ Problem → Type 0
ReadsOctet wanted tag contents octet =
    ((rest : List ℕ) → octet_seen rest octet ≡ octet_in wanted (record { tag = tag; contents = contents }) rest) × OctetWithin octet

abbrev pub single_seen : List ℕ → Result Single Problem → Answer (Taken ℕ)
single_seen s (Err p) = fault (number_of p)
single_seen s (Ok r) = took r.octet (drop r.end s)

abbrev pub SingleWithin : List ℕ → Result Single Problem → Type 0
SingleWithin s (Err p) = IsGeneral p
SingleWithin s (Ok r) = r.end ≤ length s

abbrev pub ReadsSingle : ℕ → List ℕ → Result Single Problem → Type 0
ReadsSingle tag s place = (single_seen s place ≡ single tag s) × SingleWithin s place

abbrev pub calls_seen : List ℕ → Result Calls Problem → Answer (Taken InvokePlaces)
calls_seen s (Err p) = fault (number_of p)
calls_seen s (Ok r) = took (record { linked = id_seen r.linked; operation = r.operation }) (drop r.end s)

abbrev pub CallsWithin : List ℕ → Result Calls Problem → Type 0
CallsWithin s (Err p) = IsGeneral p
CallsWithin s (Ok r) = r.end ≤ length s

abbrev pub ReadsCalls : List ℕ → Result Calls Problem → Type 0
ReadsCalls s places = (calls_seen s places ≡ invoke_places s) × CallsWithin s places

-- all that is left is the parameter
abbrev pub last_seen : List ℕ → Result (Unit {0}) Problem → Answer (List ℕ)
last_seen s (Err p) = fault (number_of p)
last_seen s (Ok r) = sound s

abbrev pub LastWithin : List ℕ → Result (Unit {0}) Problem → Type 0
LastWithin s (Err p) = IsGeneral p
LastWithin s (Ok r) = Unit {0}

abbrev pub ReadsLast : List ℕ → Result (Unit {0}) Problem → Type 0
ReadsLast s last = (last_seen s last ≡ parameter s) × LastWithin s last

abbrev pub coded_seen : List ℕ → Result Coded Problem → Answer CodedParts
coded_seen s (Err p) = fault (number_of p)
coded_seen s (Ok r) = sound (record { code = r.octet; parameter = last r.parameter s })

abbrev pub CodedWithin : List ℕ → Result Coded Problem → Type 0
CodedWithin s (Err p) = IsGeneral p
CodedWithin s (Ok r) = r.parameter ≤ length s

abbrev pub ReadsCoded : List ℕ → Result Coded Problem → Type 0
ReadsCoded s places = (coded_seen s places ≡ coded s) × CodedWithin s places

abbrev pub rejected_seen : List ℕ → Result Rejected Problem → Answer (Taken (Maybe ℤ))
rejected_seen s (Err p) = fault (number_of p)
rejected_seen s (Ok r) = took (id_seen r.id) (drop r.end s)

abbrev pub RejectedWithin : List ℕ → Result Rejected Problem → Type 0
RejectedWithin s (Err p) = IsGeneral p
RejectedWithin s (Ok r) = r.end ≤ length s

abbrev pub ReadsRejected : List ℕ → Result Rejected Problem → Type 0
ReadsRejected s place = (rejected_seen s place ≡ rejected s) × RejectedWithin s place
