-- "problems general 80, invoke 81, result 82, error 83" (hex): the tag under which a Reject tells its problem.
use Rattle.std.specs.Prelude.{ℕ, Bool, ◌&&◌, ◌||◌, leb, eqb}

abbrev pub general_problem : ℕ
general_problem = 0x80

abbrev pub invoke_problem : ℕ
invoke_problem = 0x81

abbrev pub result_problem : ℕ
result_problem = 0x82

abbrev pub error_problem : ℕ
error_problem = 0x83

-- "then one of 80, 81, 82, 83"
abbrev pub problem_tag : ℕ → Bool
problem_tag tag = leb general_problem tag && leb tag error_problem

-- "A Reject that we read may carry any problem octet; we write only those below": the problems of steps 5 and 6, general 0 to
-- 2; invoke 0 to 3 and 5 to 7; result 0 and 2; error 0, 2 and 3
abbrev pub is_problem : ℕ → ℕ → Bool
is_problem tag number =
    (eqb tag general_problem && leb number 2)
    || (eqb tag invoke_problem && (leb number 3 || (leb 5 number && leb number 7)))
    || (eqb tag result_problem && (eqb number 0 || eqb number 2))
    || (eqb tag error_problem && (eqb number 0 || eqb number 2 || eqb number 3))
