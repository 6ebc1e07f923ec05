-- What the code's answers mean, and what is promised of them.
use Rattle.std.specs.Prelude.{ℕ, ◌≡◌, List, ℤ, Result, Ok, Err}
use Rattle.std.proofs.Math.Option.{Option, none, some}
use Rattle.codes.specs.Problems.{invoke_problem}
use Rattle.places.specs.Problems.{tag_of, number_of}
use Rattle.places.specs.declared.problems.Problem.{Problem}
use Rattle.components.specs.Component.{Component, error}
use Rattle.components.specs.Seen.{TextTold}
use Rattle.table.specs.Seen.{change_seen}
use Rattle.judging.specs.StepSix.{Judged, problem, accepted}
use Rattle.judging.specs.declared.Accepted.{Accepted}

abbrev pub judgement_seen : Result Accepted Problem → Judged
judgement_seen (Err p) = problem (tag_of p) (number_of p)
judgement_seen (Ok a) = accepted (change_seen a.change)

-- a component that is accepted is told with its text
abbrev pub JudgementText : Component → Result Accepted Problem → Type 0
JudgementText c (Err p) = Unit {0}
JudgementText c (Ok a) = TextTold c a.text

abbrev pub Judges : Judged → Component → Result Accepted Problem → Type 0
Judges definition c judgement = (judgement_seen judgement ≡ definition) × JudgementText c judgement

-- an error carries no text, whatever its parameter is
abbrev pub JudgesError : Judged → ℤ → ℕ → Result Accepted Problem → Type 0
JudgesError definition id code judgement = (judgement_seen judgement ≡ definition) × ((p : List ℕ) → JudgementText (error id code p) judgement)

abbrev pub linked_seen : Result (Unit {0}) Problem → Option ℕ
linked_seen (Ok sound) = none
linked_seen (Err p) = some (number_of p)

-- what is told of a linked id is a problem of its Invoke
abbrev pub LinkedWithin : Result (Unit {0}) Problem → Type 0
LinkedWithin (Ok sound) = Unit {0}
LinkedWithin (Err p) = tag_of p ≡ invoke_problem

abbrev pub JudgesLinked : Option ℕ → Result (Unit {0}) Problem → Type 0
JudgesLinked definition linked = (linked_seen linked ≡ definition) × LinkedWithin linked
