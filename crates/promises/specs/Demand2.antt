-- Demand 2: "What is written for a component reads back as that component"; with it read the errors that each operation may
-- return, and the digits of a Password.
use Rattle.promises.specs.ReadBack.{ComponentReadsBack, CallReadsBack, RejectReadsBack}
use Rattle.promises.specs.ErrorLists.{ErrorLists}
use Rattle.promises.specs.Passwords.{Passwords}

abbrev pub Demand2 : Type 0
Demand2 = ComponentReadsBack × (CallReadsBack × (RejectReadsBack × (ErrorLists × Passwords)))
