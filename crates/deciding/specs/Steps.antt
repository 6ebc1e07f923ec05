-- 01, "Verdicts on a received message, in order". Each step is a refusal after the other, and then what comes next; `decide`
-- puts the steps in a row.
use Rattle.std.specs.Prelude.{ℕ, List, Bool, true, false, cond, not, ◌&&◌, ◌||◌, ℤ, length, get_or, drop, leb, eqb}
use Rattle.std.proofs.Math.Option.{Option, none, some}
use Rattle.octets.specs.Reader.{Answer, fault, sound, Taken}
use Rattle.octets.specs.Unless.{unless}
use Rattle.codes.specs.Problems.{general_problem}
use Rattle.components.specs.Component.{Component, invoke, result, error, reject}
use Rattle.components.specs.Facility.{Finding, empty, shows, general, left_over, faulty_reject, facility}
use Rattle.messages.specs.Layout.{discriminator, value, flag, sent_first, release_type, facility_type, register_type}
use Rattle.messages.specs.Types.{is_known}
use Rattle.messages.specs.Scan.{required, first_taken}
use Rattle.table.specs.Table.{Entry, entry_number, entry_at, valid}
use Rattle.table.specs.Change.{opens}
use Rattle.judging.specs.StepSix.{Judged, problem, accepted, judge_invoke, judge_result, judge_error}
use Rattle.components.specs.Shows.{Shows}
use Rattle.deciding.specs.Decision.{Decision, silent, with_cause, with_reject, on_reject, released, taken, shown_by}

abbrev pub first_octet : List ℕ → ℕ
first_octet m = get_or m 0 0

abbrev pub type_octet : List ℕ → ℕ
type_octet m = get_or m 1 0

-- "Flag and value pick the entry"; "What we send carries the opposite flag."
unfoldable pub picked_entry : List ℕ → ℕ
picked_entry m = entry_number (flag (first_octet m)) (value (first_octet m))

unfoldable pub reply_first : List ℕ → ℕ
reply_first m = sent_first (flag (first_octet m)) (value (first_octet m))

-- "First 28, then 27 (reply buffer under 12 octets), then:"
abbrev pub before_steps : List ℕ → ℕ → Decision → Decision
before_steps table room next =
    unless (valid table) (silent 28)
    (unless (leb 12 room) (silent 27)
    next)

-- "1. Over 255 octets: verdict 6. Under 2: verdict 1. Discriminator not 11: verdict 7."
abbrev pub step_one : List ℕ → Decision → Decision
step_one m next =
    unless (leb (length m) 255) (silent 6)
    (unless (leb 2 (length m)) (silent 1)
    (unless (eqb (discriminator (first_octet m)) 11) (silent 7)
    next))

-- "Entry not open: RELEASE COMPLETE, or REGISTER with flag 1, verdict 1; FACILITY, cause 81 (002, 3.7.3)."
abbrev pub not_open : ℕ → ℕ → Decision → Decision
not_open flag type next =
    unless (not (eqb type release_type || (eqb type register_type && eqb flag 1))) (silent 1)
    (unless (not (eqb type facility_type)) (with_cause 81)
    next)

-- "2. Value 7: verdict 1. Entry not open: .."
abbrev pub step_two : Entry → List ℕ → Decision → Decision
step_two e m next =
    unless (not (eqb (value (first_octet m)) 7)) (silent 1)
    (cond e.is_open next (not_open (flag (first_octet m)) (type_octet m) next))

-- "3. Unknown type: cause 97. REGISTER on an open entry: cause 98."
abbrev pub step_three : Entry → ℕ → Decision → Decision
step_three e type next =
    unless (is_known type) (with_cause 97)
    (unless (not (eqb type register_type && e.is_open)) (with_cause 98)
    next)

-- "4. Mandatory part missing or cut, or the comprehension rule: cause 96." What comes next is given the Facility value and
-- what stands behind it.
abbrev pub step_four : Answer (Taken (List ℕ)) → (List ℕ → List ℕ → Decision) → Decision
step_four (fault number) next = with_cause number
step_four (sound g) next = next g.value g.rest

-- "5. An empty Facility value is taken with nothing shown. Otherwise: .." "Octets left after it: cause 29" "Under outer tag A4
-- every fault but the cause 29 gives verdict 4." What comes next is given the component.
abbrev pub step_five : Finding → (Component → Decision) → Decision
step_five empty next = taken opens none
step_five (shows c) next = next c
step_five (general number id) next = with_reject id general_problem number
step_five left_over next = with_cause 29
step_five faulty_reject next = on_reject none

abbrev pub shown : Component → List ℕ → Shows
shown c behind = some (record { component = c; behind = behind })

-- "6." A problem is told with the invoke's id.
abbrev pub on_judged : Judged → ℤ → Component → List ℕ → Decision
on_judged (problem tag number) id c behind = with_reject (some id) tag number
on_judged (accepted change) id c behind = taken change (shown c behind)

unfoldable pub step_six : Entry → Component → List ℕ → Decision
step_six e (invoke id linked operation p) behind = on_judged (judge_invoke e id linked operation p) id (invoke id linked operation p) behind
step_six e (result id operation p) behind = on_judged (judge_result e id operation p) id (result id operation p) behind
step_six e (error id code p) behind = on_judged (judge_error e id code) id (error id code p) behind
step_six e (reject id tag number) behind = on_reject (shown (reject id tag number) behind)

-- steps 5 and 6, and 4 to 6
unfoldable pub five_and_six : Entry → Finding → List ℕ → Decision
five_and_six e found behind = step_five found (λ c. step_six e c behind)

unfoldable pub four_to_six : Entry → ℕ → List ℕ → Decision
four_to_six e type s = step_four (required type s) (λ v behind. five_and_six e (facility v) behind)

-- "Steps 5 and 6 run for RELEASE COMPLETE too, always with verdict 5; on a fault, or an Invoke, nothing is shown."
abbrev pub is_invoke : Component → Bool
is_invoke (invoke id linked operation p) = true
is_invoke (result id operation p) = false
is_invoke (error id code p) = false
is_invoke (reject id tag number) = false

abbrev pub except_invoke : Shows → Shows
except_invoke none = none
except_invoke (some t) = cond (is_invoke t.component) none (some t)

abbrev pub in_release : Entry → Option (Taken (List ℕ)) → Shows
in_release e none = none
in_release e (some t) = except_invoke (shown_by (five_and_six e (facility t.value) t.rest))

unfoldable pub on_release : Entry → List ℕ → Decision
on_release e s = released (in_release e (first_taken 0x1C s)) (first_taken 0x08 s)

-- "RELEASE COMPLETE skips this": it has no step 4
abbrev pub by_type : Entry → ℕ → List ℕ → Decision
by_type e type s = cond (eqb type release_type) (on_release e s) (four_to_six e type s)

-- the steps in a row
abbrev pub steps : Entry → List ℕ → Decision
steps e m = step_one m (step_two e m (step_three e (type_octet m) (by_type e (type_octet m) (drop 2 m))))

unfoldable pub decide : List ℕ → List ℕ → ℕ → Decision
decide table m room = before_steps table room (steps (entry_at table (picked_entry m)) m)
