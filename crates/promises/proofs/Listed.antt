-- Every problem and every cause that is told is one of 01's.
use Prim.Native.Nat.{ℕ}
use mathlib.Core.Path.{◌≡◌, refl, ap}
use mathlib.Core.List.{List}
use mathlib.Core.Bool.{Bool, true, false, cond, not, ◌&&◌, ◌||◌}
use mathlib.Core.Option.{none}
use lib.ListN.{length, get_or}
use lib.IntN.{ℤ}
use lib.Dec.{ltb, leb, eqb}
use Rattle.octets.specs.Reader.{Answer, fault, sound, Taken, octet, front, is_empty, alone}
use Rattle.octets.proofs.FaultLaws.{Faults, then-faults, check-faults, cond-faults, read-faults, octet-faults}
use Rattle.elements.specs.Element.{missing, unreadable, refused_tag, length_of, two_octets, Element, element}
use Rattle.codes.specs.Problems.{problem_tag, is_problem}
use Rattle.places.specs.Places.{misplaced, octet_in, single, parameter, invoke_places, coded, rejected}
use Rattle.components.specs.Component.{Component, invoke, result, error, reject, invoke_tag, result_tag, reject_tag, invoke_of, result_of, error_of, reject_of}
use Rattle.components.specs.Facility.{Finding, empty, shows, general, left_over, faulty_reject, after_tag, component, found, inside, outer, facility}
use Rattle.table.specs.Table.{Entry, entry_at}
use Rattle.judging.specs.StepSix.{Judged, problem, accepted, judge_invoke, judge_result, judge_error}
use Rattle.deciding.specs.Decision.{Decision, silent, with_cause, with_reject, on_reject, released, taken}
use Rattle.deciding.specs.Steps.{picked_entry, on_judged, step_six, five_and_six, decide}
use Rattle.promises.specs.OneVerdict.{is_cause}
use Rattle.promises.proofs.Walk.{walk}
use Rattle.judging.proofs.Walk.{walk-invoke, walk-result, walk-error}

-- the faults of step 5 are 0, 1 and 2
abbrev IsLow : ℕ → Type 0
IsLow n = leb n 2 ≡ true

two-low : (s : List ℕ) → Faults IsLow (two_octets s)
two-low s = then-faults IsLow (octet unreadable s) _ (octet-faults IsLow unreadable s refl) λ g. then-faults IsLow (octet unreadable g.rest) _ (octet-faults IsLow unreadable g.rest refl) λ k. tt

length-low : (s : List ℕ) → Faults IsLow (length_of s)
unfolding length_of
length-low s =
    then-faults IsLow (octet unreadable s) _ (octet-faults IsLow unreadable s refl) λ g.
    read-faults IsLow (ltb g.value 0x80) _ _ g.rest tt
    (read-faults IsLow (eqb g.value 0x81) _ _ g.rest (octet-faults IsLow unreadable g.rest refl)
    (check-faults IsLow (eqb g.value 0x82) unreadable _ refl (two-low g.rest)))

element-low : (s : List ℕ) → Faults IsLow (element s)
unfolding element
element-low s =
    then-faults IsLow (octet missing s) _ (octet-faults IsLow missing s refl) λ g.
    check-faults IsLow (not (refused_tag g.value)) unreadable _ refl
    (then-faults IsLow (length_of g.rest) _ (length-low g.rest) λ n.
    then-faults IsLow (front unreadable n.value n.rest) _ (check-faults IsLow (leb n.value (length n.rest)) unreadable _ refl tt) λ c. tt)

alone-low : (s : List ℕ) → Faults IsLow (alone misplaced (element s))
alone-low s = then-faults IsLow (element s) _ (element-low s) λ g. check-faults IsLow (is_empty g.rest) misplaced _ refl tt

octet_in-low : (tag : ℕ) (e : Element) (s : List ℕ) → Faults IsLow (octet_in tag e s)
octet_in-low tag e s = check-faults IsLow (eqb e.tag tag) misplaced _ refl (check-faults IsLow (eqb (length e.contents) 1) misplaced _ refl tt)

single-low : (tag : ℕ) (s : List ℕ) → Faults IsLow (single tag s)
unfolding single
single-low tag s = then-faults IsLow (element s) _ (element-low s) λ g. octet_in-low tag g.value g.rest

parameter-low : (s : List ℕ) → Faults IsLow (parameter s)
unfolding parameter
parameter-low s = cond-faults IsLow (is_empty s) _ _ tt (then-faults IsLow (alone misplaced (element s)) _ (alone-low s) λ e. tt)

called-low : (s : List ℕ) → Faults IsLow (invoke_places s)
unfolding invoke_places
called-low s =
    then-faults IsLow (element s) _ (element-low s) λ e.
    read-faults IsLow (eqb e.value.tag 0x80) _ _ e.rest
    (then-faults IsLow (octet_in 0x80 e.value e.rest) _ (octet_in-low 0x80 e.value e.rest) λ l. then-faults IsLow (single 0x02 l.rest) _ (single-low 0x02 l.rest) λ o. tt)
    (then-faults IsLow (octet_in 0x02 e.value e.rest) _ (octet_in-low 0x02 e.value e.rest) λ o. tt)

coded-low : (s : List ℕ) → Faults IsLow (coded s)
unfolding coded
coded-low s = then-faults IsLow (single 0x02 s) _ (single-low 0x02 s) λ c. then-faults IsLow (parameter c.rest) _ (parameter-low c.rest) λ p. tt

rejected-low : (s : List ℕ) → Faults IsLow (rejected s)
unfolding rejected
rejected-low s =
    then-faults IsLow (element s) _ (element-low s) λ e.
    read-faults IsLow (eqb e.value.tag 0x05) _ _ e.rest
    (check-faults IsLow (is_empty e.value.contents) misplaced _ refl tt)
    (then-faults IsLow (octet_in 0x02 e.value e.rest) _ (octet_in-low 0x02 e.value e.rest) λ i. tt)

component-low : (tag : ℕ) (s : List ℕ) → Faults IsLow (component tag s)
unfolding component after_tag invoke_of result_of error_of reject_of
component-low tag s =
    cond-faults IsLow (eqb tag reject_tag) _ _
    (then-faults IsLow (rejected s) _ (rejected-low s) λ i.
    then-faults IsLow (alone misplaced (element i.rest)) _ (alone-low i.rest) λ e.
    check-faults IsLow (problem_tag e.tag) misplaced _ refl (check-faults IsLow (eqb (length e.contents) 1) misplaced _ refl tt))
    (then-faults IsLow (single 0x02 s) _ (single-low 0x02 s) λ i.
    cond-faults IsLow (eqb tag invoke_tag) _ _
    (then-faults IsLow (invoke_places i.rest) _ (called-low i.rest) λ c. then-faults IsLow (parameter c.rest) _ (parameter-low c.rest) λ p. tt)
    (cond-faults IsLow (eqb tag result_tag) _ _
    (cond-faults IsLow (is_empty i.rest) _ _ tt
    (then-faults IsLow (element i.rest) _ (element-low i.rest) λ e.
    check-faults IsLow (eqb e.value.tag 0x30) misplaced _ refl
    (then-faults IsLow (coded e.value.contents) _ (coded-low e.value.contents) λ c.
    check-faults IsLow (is_empty e.rest) misplaced _ refl tt)))
    (then-faults IsLow (coded i.rest) _ (coded-low i.rest) λ c. tt)))

abbrev FindingLow : Finding → Type 0
FindingLow empty = Unit {0}
FindingLow (shows c) = Unit {0}
FindingLow (general n id) = leb n 2 ≡ true
FindingLow left_over = Unit {0}
FindingLow faulty_reject = Unit {0}

finding-low : (b : Bool) (x y : Finding) → FindingLow x → FindingLow y → FindingLow (cond b x y)
finding-low true x y h k = h
finding-low false x y h k = k

inside-low : (tag : ℕ) (s : List ℕ) → FindingLow (inside tag s)
unfolding inside
inside-low tag s = go (component tag s) (component-low tag s)
  where
    go : (o : Answer Component) → Faults IsLow o → FindingLow (found tag s o)
    go (fault n) h = finding-low (eqb tag reject_tag) faulty_reject _ tt h
    go (sound c) h = tt

facility-low : (s : List ℕ) → FindingLow (facility s)
unfolding facility
facility-low s =
    finding-low (is_empty s) empty _ tt
    (finding-low (leb invoke_tag (get_or s 0 0) && leb (get_or s 0 0) reject_tag) _ (general 0 none) (go (element s)) refl)
  where
    go : (o : Answer (Taken Element)) → FindingLow (outer (get_or s 0 0) o)
    go (fault n) = finding-low (eqb (get_or s 0 0) reject_tag) faulty_reject _ tt refl
    go (sound e) = finding-low (is_empty e.rest) _ left_over (inside-low (get_or s 0 0) e.value.contents) tt

abbrev Told : Judged → Type 0
Told (problem tag n) = is_problem tag n ≡ true
Told (accepted e) = Unit {0}

told : (tag number : ℕ) → is_problem tag number ≡ true → Told (problem tag number)
told tag number h = h

abbrev pub Tells : Decision → Type 0
Tells (silent code) = Unit {0}
Tells (with_cause n) = is_cause n ≡ true
Tells (with_reject id tag n) = is_problem tag n ≡ true
Tells (on_reject shown) = Unit {0}
Tells (released shown cause) = Unit {0}
Tells (taken e shown) = Unit {0}

judged-tells : (j : Judged) (id : ℤ) (c : Component) (r : List ℕ) → Told j → Tells (on_judged j id c r)
judged-tells (problem tag n) id c r h = h
judged-tells (accepted e) id c r h = tt

six-tells : (e : Entry) (c : Component) (r : List ℕ) → Tells (step_six e c r)
unfolding step_six
six-tells e (invoke id l o p) r = judged-tells (judge_invoke e id l o p) id (invoke id l o p) r (walk-invoke Told told e id l o p λ a f. tt)
six-tells e (result id o p) r = judged-tells (judge_result e id o p) id (result id o p) r (walk-result Told told e id o p λ a u. tt)
six-tells e (error id k p) r = judged-tells (judge_error e id k) id (error id k p) r (walk-error Told told e id k λ a r. tt)
six-tells e (reject id tag n) r = tt

general-listed : (n : ℕ) → leb n 2 ≡ true → is_problem 0x80 n ≡ true
general-listed n h = ap (λ (b : Bool). b || false || false || false) h

five-tells : (e : Entry) (f : Finding) (r : List ℕ) → FindingLow f → Tells (five_and_six e f r)
unfolding five_and_six
five-tells e empty r h = tt
five-tells e (shows c) r h = six-tells e c r
five-tells e (general n id) r h = general-listed n h
five-tells e left_over r h = refl
five-tells e faulty_reject r h = tt

pub decide-tells : (t m : List ℕ) (room : ℕ) → Tells (decide t m room)
decide-tells t m room = walk Tells (λ code h. tt) (λ n h. h) (λ shown cause. tt) t m room (λ v n type g q. five-tells (entry_at t (picked_entry m)) (facility g.value) g.rest (facility-low g.value))
