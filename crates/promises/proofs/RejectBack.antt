-- Every Reject that a verdict sends can be written: its id is one octet's, its problem has one of the four tags.
use Prim.Native.Nat.{ℕ, ◌<◌}
use mathlib.Core.Path.{◌≡◌, refl, ap, subst, ◌∙◌}
use mathlib.Core.List.{List, [], ◌∷◌, ◌++◌}
use mathlib.Core.Bool.{Bool, true, false, cond, not, ◌&&◌, ◌||◌, false≢true}
use native.Mathlib.Omega.{arith}
use lib.IntN.{ℤ}
use lib.ListN.{length, get_or, drop}
use lib.Dec.{leb, eqb}
use borrow.Author.Tests.{eqb-true}
use mir.Syntax.{w8}
use mir.Val.{SFits}
use Rattle.codes.proofs.IdLaws.{is-id}
use Rattle.octets.specs.Octets.{Octets}
use Rattle.octets.specs.Reader.{Answer, fault, sound, Taken, and_then, check, octet, front, is_empty, alone}
use Rattle.octets.proofs.OctetsLaws.{octets-take, octets-drop}
use Rattle.octets.proofs.ReaderLaws.{sound-inj, through, passed, rest-octets, octet-local}
use Rattle.elements.specs.Element.{Element, missing, unreadable, refused_tag, length_of, element}
use Rattle.elements.proofs.ElementLaws.{length-local}
use Rattle.codes.specs.Ids.{id_of}
use Rattle.codes.specs.Problems.{general_problem, invoke_problem, result_problem, error_problem, problem_tag, is_problem}
use Rattle.places.specs.Places.{misplaced, single, invoke_places, coded, rejected, parameter}
use Rattle.components.specs.Component.{Component, invoke, result, error, reject, reject_tag, invoke_tag, result_tag, invoke_of, result_of, error_of, reject_of}
use Rattle.components.specs.Facility.{Finding, empty, shows, general, left_over, faulty_reject, id_read, found, after_tag, component, inside, outer, facility}
use Rattle.components.specs.Written.{IsSomeId, component_octets}
use Rattle.components.proofs.ReadBack.{read_back}
use Rattle.messages.specs.Layout.{register_type, mandatory_missing, mandatory, release_facility}
use Rattle.messages.specs.Scan.{clear, required}
use Rattle.messages.proofs.ScanLaws.{mandatory-is}
use Rattle.sending.proofs.SentBack.{release-found}
use Rattle.table.specs.Table.{Entry, entry_at}
use Rattle.judging.specs.StepSix.{Judged, problem, accepted, judge_invoke, judge_result, judge_error}
use Rattle.deciding.specs.Decision.{Decision, silent, with_cause, with_reject, on_reject, released, taken}
use Rattle.deciding.specs.Steps.{picked_entry, reply_first, on_judged, step_six, five_and_six, decide}
use Rattle.telephone.specs.Receive.{verdict_of, act, receive}
use Rattle.telephone.proofs.OutcomeLaws.{front-is}
use Rattle.promises.specs.ReadBack.{CarriesReject, RejectReadsBack}
use Rattle.promises.proofs.Silence.{Says, decide-says}
use Rattle.promises.proofs.Walk.{walk}
use Rattle.codes.specs.Operations.{waits}
use Rattle.table.specs.Change.{peers, opens, adds}
use Rattle.table.proofs.ChangeLaws.{SaidIn}
use Rattle.judging.proofs.Walk.{walk-invoke, walk-result, walk-error}

-- the first octet of octets
first-octet : (s : List ℕ) → Octets s → get_or s 0 0 < 256
first-octet [] h = omega arith
first-octet (a ∷ s) h = h.0

contents-octets : (s : List ℕ) (g : Taken Element) → element s ≡ sound g → Octets s → Octets g.value.contents
unfolding element
contents-octets s g e h =
    through (octet missing s) _ g e λ a p q.
    passed (not (refused_tag a.value)) unreadable _ g q λ u v.
    through (length_of a.rest) _ g v λ n w x.
    through (front unreadable n.value n.rest) _ g x λ c y z.
    passed (leb n.value (length n.rest)) unreadable _ c y λ k l.
    let o = rest-octets length_of length-local a.rest n w (rest-octets (octet missing) (octet-local missing) s a p h) in
    let d : c.value ≡ g.value.contents = ap (λ (y : Taken Element). y.value.contents) (sound-inj z) in
    let r = ap (λ (y : Taken (List ℕ)). y.value) (sound-inj l) in
    subst Octets (r ∙ d) (octets-take n.value n.rest o)

-- an id that was read is one octet's
single-id : (s : List ℕ) (i : Taken ℕ) → single 0x02 s ≡ sound i → Octets s → SFits w8 (id_of i.value)
unfolding single
single-id s i e h =
    through (element s) _ i e λ g p q.
    passed (eqb g.value.tag 0x02) misplaced _ i q λ u v.
    passed (eqb (length g.value.contents) 1) misplaced _ i v λ w x.
    let d : get_or g.value.contents 0 0 ≡ i.value = ap (λ (y : Taken ℕ). y.value) (sound-inj x) in
    let f : i.value < 256 = rw (← d) (first-octet g.value.contents (contents-octets s g p h)) in
    is-id _ f

id-read : (o : Answer (Taken ℕ)) → ((i : Taken ℕ) → o ≡ sound i → SFits w8 (id_of i.value)) → IsSomeId (id_read o)
id-read (fault n) h = tt
id-read (sound i) h = h i refl

-- a component that is shown has such an id
abbrev HasId : Component → Type 0
HasId (invoke id linked operation p) = SFits w8 id
HasId (result id operation p) = SFits w8 id
HasId (error id code p) = SFits w8 id
HasId (reject id tag number) = Unit {0}

abbrev AnswerHasId : Answer Component → Type 0
AnswerHasId (fault n) = Unit {0}
AnswerHasId (sound c) = HasId c

abbrev FindingHasId : Finding → Type 0
FindingHasId empty = Unit {0}
FindingHasId (shows c) = HasId c
FindingHasId (general n id) = IsSomeId id
FindingHasId left_over = Unit {0}
FindingHasId faulty_reject = Unit {0}

then_id_lem : {A : Type 0} (o : Answer A) (k : A → Answer Component) → ((a : A) → AnswerHasId (k a)) → AnswerHasId (and_then o k)
then_id_lem (fault n) k h = tt
then_id_lem (sound a) k h = h a

check-id : (b : Bool) (n : ℕ) (o : Answer Component) → AnswerHasId o → AnswerHasId (check b n o)
check-id true n o h = h
check-id false n o h = tt

cond-id : (b : Bool) (x y : Answer Component) → AnswerHasId x → AnswerHasId y → AnswerHasId (cond b x y)
cond-id true x y h k = h
cond-id false x y h k = k

after-id : (tag : ℕ) (id : ℤ) (s : List ℕ) → SFits w8 id → AnswerHasId (after_tag tag id s)
unfolding after_tag invoke_of result_of error_of
after-id tag id s h =
    cond-id (eqb tag invoke_tag) _ _ (then_id_lem (invoke_places s) _ λ c. then_id_lem (parameter c.rest) _ λ p. h)
    (cond-id (eqb tag result_tag) _ _
    (cond-id (is_empty s) _ _ h (then_id_lem (element s) _ λ e. check-id (eqb e.value.tag 0x30) misplaced _ (then_id_lem (coded e.value.contents) _ λ c. check-id (is_empty e.rest) misplaced _ h)))
    (then_id_lem (coded s) _ λ c. h))

reject-id : (s : List ℕ) → AnswerHasId (reject_of s)
unfolding reject_of
reject-id s = then_id_lem (rejected s) _ λ i. then_id_lem (alone misplaced (element i.rest)) _ λ e. check-id (problem_tag e.tag) misplaced _ (check-id (eqb (length e.contents) 1) misplaced _ tt)

component-id : (tag : ℕ) (s : List ℕ) → Octets s → AnswerHasId (component tag s)
unfolding component
component-id tag s h = cond-id (eqb tag reject_tag) _ _ (reject-id s) (go (single 0x02 s) refl)
  where
    go : (o : Answer (Taken ℕ)) → single 0x02 s ≡ o → AnswerHasId (and_then o (λ i. after_tag tag (id_of i.value) i.rest))
    go (fault n) e = tt
    go (sound i) e = after-id tag (id_of i.value) i.rest (single-id s i e h)

-- what a Facility value says
finding-id : (b : Bool) (x y : Finding) → FindingHasId x → FindingHasId y → FindingHasId (cond b x y)
finding-id true x y h k = h
finding-id false x y h k = k

inside-id : (tag : ℕ) (s : List ℕ) → Octets s → FindingHasId (inside tag s)
unfolding inside
inside-id tag s h = go (component tag s) (component-id tag s h)
  where
    go : (o : Answer Component) → AnswerHasId o → FindingHasId (found tag s o)
    go (fault n) k = finding-id (eqb tag reject_tag) _ _ tt (id-read (single 0x02 s) (λ i e. single-id s i e h))
    go (sound c) k = k

facility-has-id : (s : List ℕ) → Octets s → FindingHasId (facility s)
unfolding facility
facility-has-id s h =
    finding-id (is_empty s) _ _ tt
    (finding-id (leb invoke_tag (get_or s 0 0) && leb (get_or s 0 0) reject_tag) _ _ (go (element s) refl) tt)
  where
    go : (o : Answer (Taken Element)) → element s ≡ o → FindingHasId (outer (get_or s 0 0) o)
    go (fault n) e = finding-id (eqb (get_or s 0 0) reject_tag) _ _ tt tt
    go (sound g) e = finding-id (is_empty g.rest) _ _ (inside-id (get_or s 0 0) g.value.contents (contents-octets s g e h)) tt

-- step 6 tells its problems under the four tags
abbrev Tagged : Judged → Type 0
Tagged (problem tag number) = problem_tag tag ≡ true
Tagged (accepted change) = SaidIn change

tagged : (tag number : ℕ) → is_problem tag number ≡ true → Tagged (problem tag number)
tagged tag number h = go (eqb tag general_problem) (eqb tag invoke_problem) (eqb tag result_problem) (eqb tag error_problem) _ _ _ _ refl refl refl refl h
  where
    go : (a b c d k l m n : Bool) → eqb tag general_problem ≡ a → eqb tag invoke_problem ≡ b → eqb tag result_problem ≡ c → eqb tag error_problem ≡ d
        → (a && k) || (b && l) || (c && m) || (d && n) ≡ true → problem_tag tag ≡ true
    go true b c d k l m n x y z w t = ap problem_tag (eqb-true tag general_problem x)
    go false true c d k l m n x y z w t = ap problem_tag (eqb-true tag invoke_problem y)
    go false false true d k l m n x y z w t = ap problem_tag (eqb-true tag result_problem z)
    go false false false true k l m n x y z w t = ap problem_tag (eqb-true tag error_problem w)
    go false false false false k l m n x y z w t = absurd (false≢true t)

-- the id that is kept is the invoke's
kept-said : (id : ℤ) (o : ℕ) (b : Bool) → SFits w8 id → SaidIn (cond b (adds peers id o) opens)
kept-said id o true h = h
kept-said id o false h = tt

-- a decision to send a Reject that can be written, or to keep an id that can be
abbrev pub Rejects : Decision → Type 0
Rejects (silent code) = Unit {0}
Rejects (with_cause number) = Unit {0}
Rejects (with_reject id tag number) = IsSomeId id × (problem_tag tag ≡ true)
Rejects (on_reject shown) = Unit {0}
Rejects (released shown cause) = Unit {0}
Rejects (taken change shown) = SaidIn change

judged-rejects : (j : Judged) (id : ℤ) (c : Component) (r : List ℕ) → SFits w8 id → Tagged j → Rejects (on_judged j id c r)
judged-rejects (problem tag n) id c r h k = (h, k)
judged-rejects (accepted change) id c r h k = k

six-rejects : (e : Entry) (c : Component) (r : List ℕ) → HasId c → Rejects (step_six e c r)
unfolding step_six
six-rejects e (invoke id linked o p) r h = judged-rejects (judge_invoke e id linked o p) id _ r h (walk-invoke Tagged tagged e id linked o p λ a f. kept-said id o (waits o) h)
six-rejects e (result id o p) r h = judged-rejects (judge_result e id o p) id _ r h (walk-result Tagged tagged e id o p λ a u. tt)
six-rejects e (error id code p) r h = judged-rejects (judge_error e id code) id _ r h (walk-error Tagged tagged e id code λ a r. tt)
six-rejects e (reject id tag n) r h = tt

five-rejects : (e : Entry) (f : Finding) (r : List ℕ) → FindingHasId f → Rejects (five_and_six e f r)
unfolding five_and_six
five-rejects e empty r h = tt
five-rejects e (shows c) r h = six-rejects e c r h
five-rejects e (general n id) r h = (h, refl)
five-rejects e left_over r h = tt
five-rejects e faulty_reject r h = tt

-- the Facility value of a message of octets is octets
split-octets : (a r : List ℕ) → Octets (a ++ r) → Octets a
split-octets [] r h = tt
split-octets (x ∷ a) r h = (h.0, split-octets a r h.1)

laid-octets : (b : Bool) (v r : List ℕ) → Octets (cond b (0x1C ∷ length v ∷ (v ++ r)) (length v ∷ (v ++ r))) → Octets v
laid-octets true v r h = split-octets v r h.1.1
laid-octets false v r h = split-octets v r h.1

value-octets : (type : ℕ) (s : List ℕ) (g : Taken (List ℕ)) → required type s ≡ sound g → Octets s → Octets g.value
unfolding required
value-octets type s g e h =
    through (mandatory type s) _ g e λ f p q.
    passed (clear f.rest) mandatory_missing (sound f) g q λ k z.
    let o = laid-octets (eqb type register_type) f.value f.rest (subst Octets (mandatory-is type s f.value f.rest p) h) in
    subst Octets (ap (λ (y : Taken (List ℕ)). y.value) (sound-inj z)) o

pub decide-rejects : (t m : List ℕ) (room : ℕ) → Octets m → Rejects (decide t m room)
decide-rejects t m room h =
    walk Rejects (λ code k. tt) (λ n k. tt) (λ shown cause. tt) t m room
    (λ v n type g q. five-rejects (entry_at t (picked_entry m)) (facility g.value) g.rest (facility-has-id g.value (value-octets type (drop 2 m) g q (octets-drop 2 m h))))

-- a decision that is told as verdict 3 sends a Reject
module _ (t m b : List ℕ) where
  rejected-back : (d : Decision) → Says d ≡ true → Rejects d → verdict_of d ≡ 3 → CarriesReject (reply_first m) (act t m b d)
  unfolding act release_facility
  rejected-back (silent code) s w e = absurd (false≢true (rw e at s))
  rejected-back (with_cause number) s w e = absurd (omega arith)
  rejected-back (with_reject id tag number) s w e =
      record {
        id = id;
        tag = tag;
        number = number;
        body = drop 2 (release_facility (reply_first m) (component_octets (reject id tag number)));
        front = front-is b (release_facility (reply_first m) (component_octets (reject id tag number)));
        found = release-found (reply_first m) (component_octets (reject id tag number));
        back = read_back (reject id tag number) w;
      }
  rejected-back (on_reject shown) s w e = absurd (omega arith)
  rejected-back (released shown cause) s w e = absurd (omega arith)
  rejected-back (taken change shown) s w e = absurd (omega arith)

pub reject-reads-back : RejectReadsBack
unfolding receive act
reject-reads-back t m b h e =
    let n = length b in
    rejected-back t m b (decide t m n) (decide-says t m n) (decide-rejects t m n h) e
