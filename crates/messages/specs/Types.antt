-- "Octet 2, compared whole: 2A RELEASE COMPLETE, 3A FACILITY, 3B REGISTER (hex)."
use Rattle.std.specs.Prelude.{ℕ, ◌≡◌, Bool, cond, ◌||◌, eqb}
use Rattle.std.proofs.Math.Option.{Option, none, some}
use Rattle.messages.specs.Layout.{release_type, facility_type, register_type}
use Rattle.messages.specs.declared.layout.MessageType.{MessageType}
use Rattle.messages.specs.declared.layout.MessageType.TheVariants.{ReleaseComplete, Facility, Register, Unknown}

abbrev pub is_known : ℕ → Bool
is_known octet = eqb octet release_type || eqb octet facility_type || eqb octet register_type

-- the type that an octet tells, if it is known
abbrev pub type_told : ℕ → Option ℕ
type_told octet = cond (is_known octet) (some octet) none

-- 01's number for each case of the code's answer
abbrev pub number_of : MessageType → Option ℕ
number_of ReleaseComplete = some release_type
number_of Facility = some facility_type
number_of Register = some register_type
number_of Unknown = none

-- what the making of a type from an octet promises
abbrev pub TellsType : ℕ → MessageType → Type 0
TellsType octet type = number_of type ≡ type_told octet
