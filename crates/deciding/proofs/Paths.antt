-- What the definitions say on each path through the code.
use Prim.Native.Nat.{ℕ, ◌≤◌}
use mathlib.Core.Path.{◌≡◌, refl}
use mathlib.Core.List.{List}
use mathlib.Core.Bool.{Bool, true, false, cond}
use lib.ListN.{length, take}
use borrow.Author.Tests.{eq-eqb, ne_eqb, le-leb, lt-leb}
use Rattle.std.specs.Prelude.{Option, Result, Ok, Err, ℤ}
use Rattle.octets.specs.Part.{between}
use Rattle.octets.proofs.PartLaws.{rest_part_lem, length-between}
use Rattle.codes.proofs.IdLaws.{held-is}
use Rattle.places.proofs.Left.{last-part, last_taken}
use Rattle.components.specs.Component.{error}
use Rattle.components.specs.Seen.{shown_seen, parameter_length}
use Rattle.components.specs.declared.shown.Shown.{Shown}
use Rattle.messages.specs.Types.{is_known}
use Rattle.messages.proofs.TypeLaws.{unknown, is-type}
use Rattle.table.specs.Table.{Entry}
use Rattle.places.specs.declared.problems.Problem.{Problem}
use Rattle.judging.specs.Seen.{JudgementText}
use Rattle.judging.specs.declared.Accepted.{Accepted}
use Rattle.deciding.specs.Decision.{with_cause, shown_by}
use Rattle.deciding.specs.Steps.{not_open, step_three, by_type}
use Rattle.deciding.specs.Seen.{told_seen, act_seen, ActWithin, decision_seen, DecisionWithin, from_type}
use Rattle.deciding.specs.declared.Told.{Told}
use Rattle.deciding.specs.declared.Act.{Act}
use Rattle.deciding.specs.declared.Decision.{Decision}

-- the component shown of a part is shown of what goes up to its end
pub shown-part : (r : Shown) (s : List ℕ) (a e : ℕ) → a ≤ e → e ≤ length s → parameter_length r ≤ length (between a e s)
    → shown_seen (between a e s) r ≡ shown_seen (take e s) r
shown-part (Shown.Invoke id linked operation n) s a e h l k = rw (last-part s a e n h l k)
shown-part (Shown.Result id operation n) s a e h l k = rw (last-part s a e n h l k)
shown-part (Shown.Error id code n) s a e h l k = rw (last-part s a e n h l k)
shown-part (Shown.Reject id tag problem) s a e h l k = refl

-- an error is told with no text, whatever its id and its parameter are
pub error-text : (v : Result Accepted Problem) (i j : ℤ) (code : ℕ) → ((p : List ℕ) → JudgementText (error i code p) v) → (p : List ℕ) → JudgementText (error j code p) v
error-text (Err problem) i j code h p = tt
error-text (Ok accepted) i j code h p = h p

-- where a case shows nothing, nothing is told
act-told : (s : List ℕ) (a : Act) (told : Option Told) → ActWithin s a told → told_seen s told ≡ shown_by (act_seen s a (told_seen s told))
act-told s (Act.Silent silence) told h = rw h
act-told s (Act.WithCause cause) told h = rw h.0
act-told s (Act.WithReject id problem) told h = rw h
act-told s Act.OnReject told h = refl
act-told s (Act.Released cause) told h = refl
act-told s (Act.Taken change) told h = refl

pub shown-told : (s : List ℕ) (d : Decision) → DecisionWithin s d → told_seen s d.told ≡ shown_by (decision_seen s d)
shown-told s d h = act-told s d.act d.told h.1

-- steps 2 and 3 of an unknown type
pub type-unknown : (e : Entry) (flag kind : ℕ) (s : List ℕ) → is_known kind ≡ false → with_cause 97 ≡ from_type e flag kind s
unfolding from_type
type-unknown e flag kind s u = let n = unknown kind u in go e.is_open
  where
    go : (o : Bool) → with_cause 97 ≡ cond o (step_three e kind (by_type e kind s)) (not_open flag kind (step_three e kind (by_type e kind s)))
    go true = rw u
    go false = let n = unknown kind u in rw (n.0, n.1, n.2)

pub ruleset weighing = (held-is, last_taken, length-between, shown-part)

pub ruleset steps = (eq-eqb, ne_eqb, le-leb, lt-leb, rest_part_lem, is-type, type-unknown, shown-told)
