-- What the code's answer says of the octets that were looked through: a part's octets and what stands behind it, or none.
use Rattle.std.specs.Prelude.{ℕ, ◌≤◌, List, Option, None, Some, length, drop}
use Rattle.std.proofs.Math.Option.{Option as Maybe, none, some}
use Rattle.octets.specs.Part.{between}
use Rattle.octets.specs.Reader.{Answer, fault, Taken, took}
use Rattle.octets.specs.declared.Span.{Span}

-- as what was found, if anything was
abbrev pub part_found : List ℕ → Option Span → Maybe (Taken (List ℕ))
part_found s None = none
part_found s (Some p) = some (record { value = between p.start p.end s; rest = drop p.end s })

-- as what was read, with the fault n where nothing was
abbrev pub part_read : ℕ → List ℕ → Option Span → Answer (Taken (List ℕ))
part_read n s None = fault n
part_read n s (Some p) = took (between p.start p.end s) (drop p.end s)

abbrev pub PartWithin : List ℕ → Option Span → Type 0
PartWithin s None = Unit {0}
PartWithin s (Some p) = (p.start ≤ p.end) × (p.end ≤ length s)
