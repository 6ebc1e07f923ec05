-- Where a received message gets no answer, and what is known where it gets one.
use Prim.Native.Nat.{ℕ, ◌<◌}
use mathlib.Core.Path.{◌≡◌, refl}
use mathlib.Core.List.{List}
use mathlib.Core.Bool.{Bool, true, false, false≢true}
use native.Mathlib.Omega.{arith}
use lib.ListN.{length}
use borrow.Author.Tests.{leb-true, eqb-false}
use Rattle.octets.specs.Reader.{Answer, fault, sound, Taken}
use Rattle.components.specs.Component.{Component, invoke, result, error, reject}
use Rattle.components.specs.Facility.{Finding, empty, shows, general, left_over, faulty_reject, facility}
use Rattle.messages.specs.Layout.{value}
use Rattle.messages.specs.Scan.{required}
use Rattle.table.specs.Table.{Entry, entry_at}
use Rattle.judging.specs.StepSix.{Judged, problem, accepted, judge_invoke, judge_result, judge_error}
use Rattle.deciding.specs.Decision.{Decision, silent, with_cause, with_reject, on_reject, released, taken}
use Rattle.deciding.specs.Steps.{first_octet, picked_entry, on_judged, step_four, step_six, five_and_six, four_to_six, decide}
use Rattle.deciding.specs.Seen.{Ready}
use Rattle.deciding.proofs.StepLaws.{tested}
use Rattle.promises.specs.OneVerdict.{sends_nothing}
use Rattle.promises.proofs.Walk.{walk}

-- a decision that answers, or keeps silent with one of 01's numbers
abbrev pub Says : Decision → Bool
Says (silent code) = sends_nothing code
Says (with_cause number) = true
Says (with_reject id tag number) = true
Says (on_reject shown) = true
Says (released shown cause) = true
Says (taken entry shown) = true

-- whether a decision is no silence
abbrev pub is_loud : Decision → Bool
is_loud (silent code) = false
is_loud (with_cause number) = true
is_loud (with_reject id tag number) = true
is_loud (on_reject shown) = true
is_loud (released shown cause) = true
is_loud (taken change shown) = true

loud-says : (d : Decision) → is_loud d ≡ true → Says d ≡ true
loud-says (silent code) h = absurd (false≢true h)
loud-says (with_cause number) h = refl
loud-says (with_reject id tag number) h = refl
loud-says (on_reject shown) h = refl
loud-says (released shown cause) h = refl
loud-says (taken change shown) h = refl

-- steps 4 to 6 always answer
six-loud : (e : Entry) (c : Component) (r : List ℕ) → is_loud (step_six e c r) ≡ true
unfolding step_six
six-loud e (invoke i l o p) r = go (judge_invoke e i l o p)
  where
    go : (j : Judged) → is_loud (on_judged j i (invoke i l o p) r) ≡ true
    go (problem t n) = refl
    go (accepted x) = refl
six-loud e (result i o p) r = go (judge_result e i o p)
  where
    go : (j : Judged) → is_loud (on_judged j i (result i o p) r) ≡ true
    go (problem t n) = refl
    go (accepted x) = refl
six-loud e (error i k p) r = go (judge_error e i k)
  where
    go : (j : Judged) → is_loud (on_judged j i (error i k p) r) ≡ true
    go (problem t n) = refl
    go (accepted x) = refl
six-loud e (reject i t n) r = refl

five-loud : (e : Entry) (f : Finding) (r : List ℕ) → is_loud (five_and_six e f r) ≡ true
unfolding five_and_six
five-loud e empty r = refl
five-loud e (shows c) r = six-loud e c r
five-loud e (general n i) r = refl
five-loud e left_over r = refl
five-loud e faulty_reject r = refl

pub four-loud : (e : Entry) (type : ℕ) (s : List ℕ) → is_loud (four_to_six e type s) ≡ true
unfolding four_to_six
four-loud e type s = go (required type s)
  where
    go : (o : Answer (Taken (List ℕ))) → is_loud (step_four o (λ v behind. five_and_six e (facility v) behind)) ≡ true
    go (fault n) = refl
    go (sound g) = five-loud e (facility g.value) g.rest

pub decide-says : (t m : List ℕ) (room : ℕ) → Says (decide t m room) ≡ true
decide-says t m room = walk (λ d. Says d ≡ true) (λ code h. h) (λ n h. refl) (λ shown cause. refl) t m room (λ v n type g q. loud-says (five_and_six (entry_at t (picked_entry m)) (facility g.value) g.rest) (five-loud (entry_at t (picked_entry m)) (facility g.value) g.rest))

silent-not : {C : Type 0} → false ≡ true → C
silent-not h = absurd (false≢true h)

-- whoever is answered has passed 28 and 27, and step 1
pub loud-ready : (t m : List ℕ) (room : ℕ) → is_loud (decide t m room) ≡ true → Ready t m room
loud-ready t m room h =
    tested (λ d. is_loud d ≡ true → Ready t m room) t m room silent-not silent-not silent-not silent-not silent-not
    (λ g _.
    let x = eqb-false (value (first_octet m)) 7 g.transaction in
    let y : value (first_octet m) < 7 = omega arith in
    (g.table, (leb-true 12 room g.room, (leb-true 2 (length m) g.least, y))))
    h
