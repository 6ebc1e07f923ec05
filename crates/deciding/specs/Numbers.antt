-- 01's numbers for the cases of the code's answers: verdicts and refusals, and causes.
use Rattle.std.specs.Prelude.{ℕ}
use Rattle.codes.specs.Refusals.{number_of}
use Rattle.deciding.specs.declared.Silence.{Silence}
use Rattle.deciding.specs.declared.Cause.{Cause}

abbrev pub silence_number : Silence → ℕ
silence_number Silence.Ignored = 1
silence_number Silence.TooLong = 6
silence_number Silence.OtherProtocol = 7
silence_number (Silence.Refused refusal) = number_of refusal

abbrev pub cause_number : Cause → ℕ
cause_number Cause.FacilityRejected = 29
cause_number Cause.InvalidTransaction = 81
cause_number Cause.InvalidMandatory = 96
cause_number Cause.UnknownType = 97
cause_number Cause.WrongState = 98
