-- The numbers of the faults: "32 short block, 33 sum, 34 use count, 35 record or rest, 36 number not the block's place".
use Rattle.std.specs.Prelude.{ℕ, cond, ◌==◌, Result, Ok, Err, ⊤}
use Rattle.trace.specs.declared.faults.Fault.{Fault}

abbrev pub number_of : Fault → ℕ
number_of Fault.WrongLength = 32
number_of Fault.WrongSum = 33
number_of Fault.TooMuchUsed = 34
number_of Fault.BadRecords = 35
number_of Fault.WrongNumber = 36

-- the number of the fault, if there is one; 0 stands for none
abbrev pub code_of : Result ⊤ Fault → ℕ
code_of (Ok u) = 0
code_of (Err f) = number_of f

-- the fault that a number names
abbrev pub fault_named : ℕ → Fault
fault_named n =
    cond (n == 32) Fault.WrongLength
    (cond (n == 33) Fault.WrongSum
    (cond (n == 34) Fault.TooMuchUsed
    (cond (n == 35) Fault.BadRecords
    Fault.WrongNumber)))
