-- What a message that shows a component tells of the table, of the room for a reply and of itself.
use Prim.Native.Nat.{ℕ}
use mathlib.Core.Path.{◌≡◌, refl, sym, ap, ◌∙◌}
use mathlib.Core.List.{List, ◌∷◌, ◌++◌}
use mathlib.Core.Bool.{Bool, true, false, cond}
use mathlib.Core.Option.{none, some}
use native.Mathlib.Omega.{arith}
use borrow.Author.Tests.{ne_eqb}
use lib.ListN.{length}
use lib.IntN.{ℤ}
use Rattle.octets.specs.Reader.{Answer, fault, sound, Taken}
use Rattle.octets.proofs.ReaderLaws.{stays}
use Rattle.parameters.specs.Parameter.{Text, ussd}
use Rattle.components.specs.Component.{Component, invoke, result, error, reject, parameter_of}
use Rattle.components.specs.Facility.{Finding, empty, shows, general, left_over, faulty_reject}
use Rattle.messages.specs.Scan.{information, first_taken}
use Rattle.messages.specs.LaterEdition.{Passed, nothing, another}
use Rattle.messages.proofs.ScanLaws.{information-local, information-back, taken_step}
use Rattle.table.specs.Table.{Entry}
use Rattle.judging.specs.StepSix.{Judged, problem, accepted, judge_invoke, judge_result, judge_error}
use Rattle.components.specs.Shows.{ShownComponent, Shows}
use Rattle.deciding.specs.Decision.{Decision, shown_by}
use Rattle.deciding.specs.Steps.{on_judged, is_invoke, except_invoke, step_six, five_and_six, decide}
use Rattle.deciding.proofs.StepLaws.{GoesOn, further, tested}
use Rattle.components.specs.Texts.{extensible, readable, text_of}
use Rattle.telephone.specs.Receive.{act, receive}

-- in RELEASE COMPLETE, the value of the first 1C and what stands behind it
pub first-is : {before : List ℕ} (v behind : List ℕ) → Passed 0x1C before
    → first_taken 0x1C (before ++ (0x1C ∷ length v ∷ (v ++ behind))) ≡ some (record { value = v; rest = behind })
first-is v behind nothing = taken_step 0x1C (0x1C ∷ length v ∷ (v ++ behind)) _ (information-back 0x1C v behind (omega arith))
first-is v behind (another {s = s} g e f p) =
    taken_step 0x1C (s ++ (0x1C ∷ length v ∷ (v ++ behind))) _ (stays information information-local s (0x1C ∷ length v ∷ (v ++ behind)) g e)
    ∙ rw (ne_eqb g.value.identifier 0x1C f) (first-is v behind p)

pub some_inj : {A : Type 0} {a b : A} → some a ≡ some b → a ≡ b
some_inj e = cc

pub nothing-shown : {A C : Type 0} {a : A} → none ≡ some a → C
nothing-shown e = let z : ◌≡◌ {A = ℕ} 0 1 = cc in absurd (omega arith)

-- something is shown behind a test, and nothing on its other branch
pub held : {C : Type 0} (b : Bool) (d o : Decision) (w : ShownComponent) → shown_by o ≡ none → shown_by (cond b d o) ≡ some w → (b ≡ true → shown_by d ≡ some w → C) → C
held true d o w n e next = next refl e
held false d o w n e next = nothing-shown (sym n ∙ e)

pub failed : {C : Type 0} (b : Bool) (o d : Decision) (w : ShownComponent) → shown_by o ≡ none → shown_by (cond b o d) ≡ some w → (b ≡ false → shown_by d ≡ some w → C) → C
failed true o d w n e next = nothing-shown (sym n ∙ e)
failed false o d w n e next = next refl e

pub decide-shows : (t m : List ℕ) (room : ℕ) (w : ShownComponent) → shown_by (decide t m room) ≡ some w → GoesOn t room m × (shown_by (further t m) ≡ some w)
decide-shows t m room w e =
    tested (λ d. shown_by d ≡ some w → GoesOn t room m × (shown_by (further t m) ≡ some w)) t m room nothing-shown nothing-shown nothing-shown nothing-shown nothing-shown (λ g k. (g, k)) e

pub receive-shows : (t m b : List ℕ) (w : ShownComponent) → (receive t m b).shown ≡ some w → GoesOn t (length b) m × (shown_by (further t m) ≡ some w)
unfolding receive act
receive-shows t m b w e = decide-shows t m (length b) w e

-- step 6 shows the component that it is given
judged-shows : (v : Judged) (id : ℤ) (c : Component) (behind : List ℕ) (w : ShownComponent) → shown_by (on_judged v id c behind) ≡ some w → w ≡ record { component = c; behind = behind }
judged-shows (problem tag number) id c behind w e = nothing-shown e
judged-shows (accepted e) id c behind w k = sym (some_inj k)

pub six-shows : (e : Entry) (c : Component) (behind : List ℕ) (w : ShownComponent) → shown_by (step_six e c behind) ≡ some w → w ≡ record { component = c; behind = behind }
unfolding step_six
six-shows e (invoke id linked operation p) behind w k = judged-shows (judge_invoke e id linked operation p) id _ behind w k
six-shows e (result id operation p) behind w k = judged-shows (judge_result e id operation p) id _ behind w k
six-shows e (error id code p) behind w k = judged-shows (judge_error e id code) id _ behind w k
six-shows e (reject id tag number) behind w k = sym (some_inj k)

-- what is shown was found in the Facility value
pub five-shows : (e : Entry) (f : Finding) (behind : List ℕ) (c : Component) (r : List ℕ) → shown_by (five_and_six e f behind) ≡ some (record { component = c; behind = r })
    → (f ≡ shows c) × (shown_by (step_six e c behind) ≡ some (record { component = c; behind = r }))
unfolding five_and_six
five-shows e empty behind c r k = nothing-shown k
five-shows e (shows d) behind c r k = let q : c ≡ d = ap (λ (w : ShownComponent). w.component) (six-shows e d behind _ k) in (ap shows (sym q), rw q (rw q at k))
five-shows e (general number id) behind c r k = nothing-shown k
five-shows e left_over behind c r k = nothing-shown k
five-shows e faulty_reject behind c r k = nothing-shown k

-- in a release, what is shown is no Invoke
pub except-shows : (o : Shows) (w : ShownComponent) → except_invoke o ≡ some w → (o ≡ some w) × (is_invoke w.component ≡ false)
except-shows none w k = nothing-shown k
except-shows (some v) w k = go (is_invoke v.component) refl k
  where
    go : (b : Bool) → is_invoke v.component ≡ b → cond b none (some v) ≡ some w → (some v ≡ some w) × (is_invoke w.component ≡ false)
    go true i h = nothing-shown h
    go false i h = let z : v ≡ w = cc in (h, rw (← z) i)

-- a text is shown of an extensible component whose parameter reads
pub text-is : (c : Component) (g : Taken Text) → text_of c ≡ some g → (extensible c ≡ true) × (ussd (parameter_of c) ≡ sound g)
unfolding text_of
text-is c g e = go (extensible c) (ussd (parameter_of c)) e
  where
    go : (b : Bool) (o : Answer (Taken Text)) → cond b (readable o) none ≡ some g → (b ≡ true) × (o ≡ sound g)
    go true (fault n) k = nothing-shown k
    go true (sound h) k = (refl, cc)
    go false o k = nothing-shown k
