-- What the code's answers say of the octets that were read, and what is promised of them.
use Rattle.std.specs.Prelude.{ℕ, ◌≤◌, ◌<◌, ◌≡◌, List, Option, Result, Ok, Err, length, drop}
use Rattle.octets.specs.Part.{between}
use Rattle.octets.specs.Reader.{Answer, fault, Taken, took}
use Rattle.octets.specs.Seen.{part_found, part_read, PartWithin}
use Rattle.octets.specs.declared.Span.{Span}
use Rattle.messages.specs.Layout.{mandatory_missing, sized, mandatory}
use Rattle.messages.specs.Scan.{Information, absent, cut, information, required, first_taken}
use Rattle.messages.specs.declared.scan.Item.{Item}
use Rattle.messages.specs.declared.scan.Ending.{Ending}

-- both that nothing is there and that it is cut are told by the octets that are left
abbrev pub item_seen : List ℕ → Result Item Ending → Answer (Taken Information)
item_seen s (Err Ending.End) = fault absent
item_seen s (Err Ending.Cut) = fault cut
item_seen s (Ok i) = took (record { identifier = i.identifier; contents = between i.start i.end s }) (drop i.end s)

abbrev pub ItemWithin : List ℕ → Result Item Ending → Type 0
ItemWithin s (Err Ending.End) = length s ≤ 0
ItemWithin s (Err Ending.Cut) = 0 < length s
ItemWithin s (Ok i) = (1 ≤ i.start) × ((i.start ≤ i.end) × (i.end ≤ length s))

abbrev pub ReadsItem : List ℕ → Result Item Ending → Type 0
ReadsItem s item = (item_seen s item ≡ information s) × ItemWithin s item

-- the Facility value's places; what is left goes on behind it
abbrev pub ReadsSized : List ℕ → Option Span → Type 0
ReadsSized s value = (part_read mandatory_missing s value ≡ sized s) × PartWithin s value

abbrev pub ReadsMandatory : ℕ → List ℕ → Option Span → Type 0
ReadsMandatory type s value = (part_read mandatory_missing s value ≡ mandatory type s) × PartWithin s value

abbrev pub ReadsRequired : ℕ → List ℕ → Option Span → Type 0
ReadsRequired type s value = (part_read mandatory_missing s value ≡ required type s) × PartWithin s value

-- the contents of the first whole element with this identifier
abbrev pub FindsFirst : ℕ → List ℕ → Option Span → Type 0
FindsFirst identifier s contents = (part_found s contents ≡ first_taken identifier s) × PartWithin s contents
