-- What the code's answers say of the part that was read, places turned into what stands there, and what is promised of them.
use Rattle.std.specs.Prelude.{ℕ, ◌≤◌, ◌<◌, ◌≡◌, List, Option, None, Some, Result, Ok, Err, length, drop}
use Rattle.octets.specs.Part.{between}
use Rattle.octets.specs.Reader.{Answer, fault, Taken, took}
use Rattle.elements.specs.Element.{missing, unreadable, length_of, Element, element}
use Rattle.elements.specs.declared.Length.{Length}
use Rattle.elements.specs.declared.Element.{Element as Places}
use Rattle.elements.specs.declared.Fault.{Fault}

abbrev pub length_seen : List ℕ → Option Length → Answer (Taken ℕ)
length_seen s None = fault unreadable
length_seen s (Some l) = took l.octets (drop l.taken s)

abbrev pub LengthWithin : List ℕ → Option Length → Type 0
LengthWithin s None = Unit {0}
LengthWithin s (Some l) = (1 ≤ l.taken) × ((l.taken ≤ 3) × ((l.taken ≤ length s) × (l.octets < 65536)))

abbrev pub ReadsLength : List ℕ → Option Length → Type 0
ReadsLength s length = (length_seen s length ≡ length_of s) × LengthWithin s length

-- the number of a fault: 01's general problem
abbrev pub fault_number : Fault → ℕ
fault_number Fault.Missing = missing
fault_number Fault.Unreadable = unreadable

abbrev pub seen : List ℕ → Result Places Fault → Answer (Taken Element)
seen s (Err f) = fault (fault_number f)
seen s (Ok e) = took (record { tag = e.tag; contents = between e.start e.end s }) (drop e.end s)

-- the header has two to four octets, and nothing lies past the end
abbrev pub Within : List ℕ → Result Places Fault → Type 0
Within s (Err f) = Unit {0}
Within s (Ok e) = (2 ≤ e.start) × ((e.start ≤ 4) × ((e.start ≤ e.end) × (e.end ≤ length s)))

abbrev pub ReadsElement : List ℕ → Result Places Fault → Type 0
ReadsElement s found = (seen s found ≡ element s) × Within s found
