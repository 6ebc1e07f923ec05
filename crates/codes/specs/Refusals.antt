-- The numbers of the refusals: 01, "Local calls", and 02, "Recorded messages".
use Rattle.std.specs.Prelude.{ℕ}
use Rattle.codes.specs.declared.refusals.Refusal.{Refusal}

abbrev pub number_of : Refusal → ℕ
number_of Refusal.NotListed = 20
number_of Refusal.NoValueFree = 21
number_of Refusal.NotOpen = 22
number_of Refusal.StillWaiting = 23
number_of Refusal.NoSuchInvoke = 24
number_of Refusal.WrongParameter = 25
number_of Refusal.MessageTooLong = 26
number_of Refusal.BufferTooShort = 27
number_of Refusal.TableDamaged = 28
number_of Refusal.BadRecord = 30
number_of Refusal.OutputTooShort = 31
