-- Those that wait don't disturb each other: step 6 asks only what has the component's id, and whether four wait.
use Prim.Native.Nat.{ℕ}
use mathlib.Core.Path.{◌≡◌, refl, sym, ap, ◌∙◌}
use mathlib.Core.List.{List, [], ◌∷◌}
use mathlib.Core.Bool.{Bool, true, false, cond, ◌||◌, false≢true}
use mathlib.Core.Option.{Option}
use lib.IntN.{ℤ}
use lib.ListN.{drop}
use borrow.Author.Tests.{eq-eqb}
use Rattle.codes.specs.Ids.{octet_of}
use Rattle.components.specs.Component.{Component, invoke, result, error}
use Rattle.messages.specs.Scan.{first_taken}
use Rattle.sides.specs.Side.{Waiting, same_id, among, full, operation_of}
use Rattle.table.specs.Table.{Entry, entry_at}
use Rattle.judging.specs.StepSix.{judge_invoke, judge_result, judge_error}
use Rattle.deciding.specs.Decision.{Decision, silent, with_cause, with_reject, on_reject, released, taken, shown_by}
use Rattle.deciding.specs.Steps.{picked_entry, except_invoke, step_six}
use Rattle.telephone.specs.Receive.{act, receive}
use Rattle.promises.specs.Reaches.{fewer_than_four, Arrives, Passes, in_register, in_facility, ReachesStepSix, ReachesInRelease}
use Rattle.promises.specs.Four.{SameButTable, AlsoThere, InvokesApart, waiting_for, only, AnswersApart}
use Rattle.promises.proofs.Reached.{fares, room-left}

-- one decision in two tables
same-act : (t u m b : List ℕ) (d : Decision) → SameButTable (act t m b d) (act u m b d)
unfolding act
same-act t u m b (silent code) = (refl, (refl, (refl, (refl, (refl, λ n. refl)))))
same-act t u m b (with_cause number) = (refl, (refl, (refl, (refl, (refl, λ n. refl)))))
same-act t u m b (with_reject id tag number) = (refl, (refl, (refl, (refl, (refl, λ n. refl)))))
same-act t u m b (on_reject shown) = (refl, (refl, (refl, (refl, (refl, λ n. refl)))))
same-act t u m b (released shown cause) = (refl, (refl, (refl, (refl, (refl, λ n. refl)))))
same-act t u m b (taken change shown) = (refl, (refl, (refl, (refl, (refl, λ n. refl)))))

-- what reaches step 6 here reaches it there
module _ (t u m b : List ℕ) (h : AlsoThere t u m) where
  arrives-there : Arrives t m b → Arrives u m b
  arrives-there a = record { image = h.0; room = a.room; most = a.most; least = a.least; protocol = a.protocol; transaction = a.transaction }

  passes-there : (type : ℕ) → Passes t m type → Passes u m type
  passes-there type (in_register a f o) = in_register a f (h.1 ∙ o)
  passes-there type (in_facility a o) = in_facility a (h.1 ∙ o)

  module _ (c : Component) where
    abbrev reaches-there : ReachesStepSix t m b c → ReachesStepSix u m b c
    reaches-there r =
        record {
          arrives = arrives-there r.arrives;
          type = r.type;
          passes = passes-there r.type r.passes;
          facility_value = r.facility_value;
          behind = r.behind;
          facility_read = r.facility_read;
          component_read = r.component_read;
        }

    abbrev ends_there : ReachesInRelease t m b c → ReachesInRelease u m b c
    ends_there r =
        record {
          arrives = arrives-there r.arrives;
          is_release = r.is_release;
          is_open = h.1 ∙ r.is_open;
          facility_value = r.facility_value;
          behind = r.behind;
          facility_read = r.facility_read;
          component_read = r.component_read;
        }

    -- where step 6 makes the same of it, it fares alike
    alike : ((r : List ℕ) → step_six (entry_at t (picked_entry m)) c r ≡ step_six (entry_at u (picked_entry m)) c r)
        → (ReachesStepSix t m b c → SameButTable (receive t m b) (receive u m b)) × (ReachesInRelease t m b c → SameButTable (receive t m b) (receive u m b))
    alike e =
        let here = fares t m b c (λ r. step_six (entry_at u (picked_entry m)) c r) e in
        let there = fares u m b c (λ r. step_six (entry_at u (picked_entry m)) c r) (λ r. refl) in (
          λ r. rw (here.0 r, there.0 (reaches-there r)) (same-act t u m b (step_six (entry_at u (picked_entry m)) c r.behind)),
          λ r. rw (here.1 r, there.1 (ends_there r)) (same-act t u m b (released (except_invoke (shown_by (step_six (entry_at u (picked_entry m)) c r.behind))) (first_taken 0x08 (drop 2 m)))),
        )

-- an Invoke: no duplicate, and not four, on either side
invoke-alike : (e f : Entry) (id : ℤ) (linked : Option ℤ) (operation : ℕ) (p : List ℕ) → fewer_than_four e.peer ≡ true → among id e.peer ≡ false → f.own ≡ e.own → f.peer ≡ []
    → (r : List ℕ) → step_six e (invoke id linked operation p) r ≡ step_six f (invoke id linked operation p) r
unfolding step_six judge_invoke among full
invoke-alike e f id linked operation p l n o q r = rw (n, room-left e.peer l, q, o)

pub invokes-apart : InvokesApart
invokes-apart t u m b id linked operation p h l n o q =
    alike t u m b h (invoke id linked operation p) (invoke-alike (entry_at t (picked_entry m)) (entry_at u (picked_entry m)) id linked operation p l n o q)

-- the one with an id is asked for alone
only-among : (id : ℤ) (ws : List Waiting) → (b : Bool) → among id ws ≡ b → among id (cond b (waiting_for id (operation_of id ws) ∷ []) []) ≡ b
unfolding among
only-among id ws true e = rw (eq-eqb (octet_of id) (octet_of id) refl)
only-among id ws false e = refl

gone : (b z : Bool) (o n : ℕ) → (b || z) ≡ false → (z ≡ false → n ≡ 0) → cond b o n ≡ 0
gone true z o n k h = absurd (false≢true (sym k))
gone false z o n k h = h k

none-operation : (id : ℤ) (ws : List Waiting) → among id ws ≡ false → operation_of id ws ≡ 0
unfolding among operation_of
none-operation id [] h = refl
none-operation id (w ∷ ws) h = gone (same_id w.id id) (among id ws) w.operation (operation_of id ws) h (none-operation id ws)

only-operation : (id : ℤ) (ws : List Waiting) (b : Bool) → among id ws ≡ b → operation_of id (cond b (waiting_for id (operation_of id ws) ∷ []) []) ≡ operation_of id ws
unfolding operation_of
only-operation id ws true e = rw (eq-eqb (octet_of id) (octet_of id) refl)
only-operation id ws false e = sym (none-operation id ws e)

module _ (e f : Entry) (id : ℤ) (q : f.own ≡ only id e.own) where
  asked : among id f.own ≡ among id e.own
  asked = ap (among id) q ∙ only-among id e.own (among id e.own) refl

  asked-for : operation_of id f.own ≡ operation_of id e.own
  asked-for = ap (operation_of id) q ∙ only-operation id e.own (among id e.own) refl

  result-alike : (operation : Option ℕ) (p r : List ℕ) → step_six e (result id operation p) r ≡ step_six f (result id operation p) r
  unfolding step_six judge_result
  result-alike operation p r = rw (asked, asked-for)

  error-alike : (code : ℕ) (p r : List ℕ) → step_six e (error id code p) r ≡ step_six f (error id code p) r
  unfolding step_six judge_error
  error-alike code p r = rw (asked, asked-for)

pub answers-apart : AnswersApart
answers-apart t u m b id h q = (
  λ operation p. alike t u m b h (result id operation p) (result-alike (entry_at t (picked_entry m)) (entry_at u (picked_entry m)) id q operation p),
  λ code p. alike t u m b h (error id code p) (error-alike (entry_at t (picked_entry m)) (entry_at u (picked_entry m)) id q code p),
)
