-- The tags and numbers that 01 gives the problems in step 5 ("general 0", "general 1", "general 2") and step 6.
use Rattle.std.specs.Prelude.{ℕ, ◌≡◌}
use Rattle.codes.specs.Problems.{general_problem, invoke_problem, result_problem, error_problem}
use Rattle.elements.specs.declared.Fault.{Fault}
use Rattle.places.specs.declared.problems.Problem.{Problem}

abbrev pub tag_of : Problem → ℕ
tag_of Problem.UnrecognizedComponent = general_problem
tag_of Problem.MistypedComponent = general_problem
tag_of Problem.BadlyStructured = general_problem
tag_of Problem.DuplicateInvoke = invoke_problem
tag_of Problem.UnrecognizedOperation = invoke_problem
tag_of Problem.MistypedInvoke = invoke_problem
tag_of Problem.ResourceLimit = invoke_problem
tag_of Problem.UnrecognizedLinked = invoke_problem
tag_of Problem.UnexpectedLinkedResponse = invoke_problem
tag_of Problem.UnexpectedLinkedOperation = invoke_problem
tag_of Problem.UnrecognizedResult = result_problem
tag_of Problem.MistypedResult = result_problem
tag_of Problem.UnrecognizedErrorId = error_problem
tag_of Problem.UnrecognizedError = error_problem
tag_of Problem.UnexpectedError = error_problem

abbrev pub number_of : Problem → ℕ
number_of Problem.UnrecognizedComponent = 0
number_of Problem.MistypedComponent = 1
number_of Problem.BadlyStructured = 2
number_of Problem.DuplicateInvoke = 0
number_of Problem.UnrecognizedOperation = 1
number_of Problem.MistypedInvoke = 2
number_of Problem.ResourceLimit = 3
number_of Problem.UnrecognizedLinked = 5
number_of Problem.UnexpectedLinkedResponse = 6
number_of Problem.UnexpectedLinkedOperation = 7
number_of Problem.UnrecognizedResult = 0
number_of Problem.MistypedResult = 2
number_of Problem.UnrecognizedErrorId = 0
number_of Problem.UnrecognizedError = 2
number_of Problem.UnexpectedError = 3

-- the general problem of a place where no whole element stands
abbrev pub problem_of : Fault → Problem
problem_of Fault.Missing = Problem.MistypedComponent
problem_of Fault.Unreadable = Problem.BadlyStructured

abbrev pub Becomes : Fault → Problem → Type 0
Becomes f p = p ≡ problem_of f

-- a problem of the kind that is given for a Facility value that can't be read: "general 0", "general 1", "general 2"
abbrev pub IsGeneral : Problem → Type 0
IsGeneral p = tag_of p ≡ general_problem
