-- The contracts leave one answer: two that say the same are equal.
use mathlib.Core.Path.{◌≡◌, refl, sym, ap, ◌∙◌}
use mathlib.Core.Bool.{cond}
use Prim.Native.Nat.{ℕ}
use lib.Dec.{eqb}
use Rattle.std.specs.Prelude.{Result, Ok, Err}
use Rattle.std.proofs.Math.Option.{some}
use Rattle.codes.specs.Problems.{general_problem, result_problem, error_problem}
use Rattle.places.specs.Problems.{tag_of, number_of}
use Rattle.places.specs.declared.problems.Problem.{Problem}
use Rattle.components.specs.Component.{Component}
use Rattle.components.proofs.Determined.{text-determined}
use Rattle.table.specs.Change.{Change}
use Rattle.table.proofs.Determined.{change-determined}
use Rattle.judging.specs.StepSix.{problem, accepted}
use Rattle.judging.specs.Seen.{judgement_seen, JudgementText, linked_seen, LinkedWithin}
use Rattle.judging.specs.declared.Accepted.{Accepted}

-- a problem is told by its tag and its number
abbrev general_back : ℕ → Problem
general_back n = cond (eqb n 0) Problem.UnrecognizedComponent (cond (eqb n 1) Problem.MistypedComponent Problem.BadlyStructured)

abbrev result_back : ℕ → Problem
result_back n = cond (eqb n 0) Problem.UnrecognizedResult Problem.MistypedResult

abbrev error_back : ℕ → Problem
error_back n = cond (eqb n 0) Problem.UnrecognizedErrorId (cond (eqb n 2) Problem.UnrecognizedError Problem.UnexpectedError)

abbrev invoke_back : ℕ → Problem
invoke_back n =
    cond (eqb n 0) Problem.DuplicateInvoke
    (cond (eqb n 1) Problem.UnrecognizedOperation
    (cond (eqb n 2) Problem.MistypedInvoke
    (cond (eqb n 3) Problem.ResourceLimit
    (cond (eqb n 5) Problem.UnrecognizedLinked
    (cond (eqb n 6) Problem.UnexpectedLinkedResponse Problem.UnexpectedLinkedOperation)))))

abbrev back : ℕ → ℕ → Problem
back t n =
    cond (eqb t general_problem) (general_back n)
    (cond (eqb t result_problem) (result_back n)
    (cond (eqb t error_problem) (error_back n)
    (invoke_back n)))

back_is : (p : Problem) → back (tag_of p) (number_of p) ≡ p
back_is Problem.UnrecognizedComponent = refl
back_is Problem.MistypedComponent = refl
back_is Problem.BadlyStructured = refl
back_is Problem.DuplicateInvoke = refl
back_is Problem.UnrecognizedOperation = refl
back_is Problem.MistypedInvoke = refl
back_is Problem.ResourceLimit = refl
back_is Problem.UnrecognizedLinked = refl
back_is Problem.UnexpectedLinkedResponse = refl
back_is Problem.UnexpectedLinkedOperation = refl
back_is Problem.UnrecognizedResult = refl
back_is Problem.MistypedResult = refl
back_is Problem.UnrecognizedErrorId = refl
back_is Problem.UnrecognizedError = refl
back_is Problem.UnexpectedError = refl

pub problem-determined : (p q : Problem) → tag_of p ≡ tag_of q → number_of p ≡ number_of q → p ≡ q
problem-determined p q t n = sym (back_is p) ∙ (λ i. back (t i) (n i)) ∙ back_is q

problem-inj : {t u n m : ℕ} → problem t n ≡ problem u m → (t ≡ u) × (n ≡ m)
problem-inj e = (cc, cc)

accepted-inj : {a b : Change} → accepted a ≡ accepted b → a ≡ b
accepted-inj e = cc

pub judgement-determined : (c : Component) (r q : Result Accepted Problem) → JudgementText c r → JudgementText c q → judgement_seen r ≡ judgement_seen q → r ≡ q
judgement-determined c (Err p) (Err q) a b e = let f = problem-inj e in ap Err (problem-determined p q f.0 f.1)
judgement-determined c (Err p) (Ok y) a b e = cc
judgement-determined c (Ok x) (Err q) a b e = cc
judgement-determined c (Ok x) (Ok y) a b e =
    let f = change-determined x.change y.change (accepted-inj e) in
    let g = text-determined c x.text y.text a b in
    λ n. Ok (record { change = f n; text = g n })

linked-inj : {n m : ℕ} → some n ≡ some m → n ≡ m
linked-inj e = cc

pub linked-determined : (r q : Result (Unit {0}) Problem) → LinkedWithin r → LinkedWithin q → linked_seen r ≡ linked_seen q → r ≡ q
linked-determined (Ok x) (Ok y) a b e = refl
linked-determined (Ok x) (Err q) a b e = cc
linked-determined (Err p) (Ok y) a b e = cc
linked-determined (Err p) (Err q) a b e = ap Err (problem-determined p q (a ∙ sym b) (linked-inj e))
