-- A later edition of a message that shows a text is decided as that message was: only the parameter that is shown is longer.
use Prim.Native.Nat.{ℕ, ◌≤◌}
use mathlib.Core.Path.{◌≡◌, refl, sym, ap, ◌∙◌}
use mathlib.Core.List.{List, ◌∷◌, ◌++◌}
use mathlib.Core.Bool.{Bool, true, false, cond, not, ◌&&◌, ◌||◌, or-true, false≢true}
use mathlib.Core.Option.{Option, none, some}
use native.Mathlib.Omega.{arith}
use borrow.Author.Tests.{eqb-true, ne_eqb, le-leb}
use lib.ListN.{length}
use lib.IntN.{ℤ}
use lib.Dec.{eqb}
use Rattle.octets.specs.Reader.{sound, Taken, took, check, is_empty}
use Rattle.octets.specs.Unless.{unless}
use Rattle.elements.specs.Element.{row}
use Rattle.parameters.specs.Parameter.{Text, ussd}
use Rattle.parameters.specs.Suits.{is_ussd, suits, suits_invoke_received, suits_result_received, InvokeReceived, ResultReceived}
use Rattle.components.specs.Component.{Component, invoke, result, error, reject, parameter_of}
use Rattle.components.specs.Facility.{facility}
use Rattle.components.specs.LaterEdition.{LaterParameter, LaterFacility, with_parameter}
use Rattle.components.proofs.LaterLaws.{later-text, later-edition}
use Rattle.messages.specs.Layout.{flag, mandatory_missing, register_type, facility_type, release_type}
use Rattle.messages.specs.Scan.{clear, required, first_taken, contents_of, first_whole}
use Rattle.messages.specs.LaterEdition.{Passed}
use Rattle.messages.proofs.ScanLaws.{mandatory-back, release-later, laid}
use Rattle.sides.specs.Side.{among, full, operation_of}
use Rattle.table.specs.Table.{Entry}
use Rattle.table.specs.Change.{Change}
use Rattle.judging.specs.StepSix.{Judged, problem, accepted, or_problem, linked_problem, is_ours, judge_invoke, judge_result}
use Rattle.codes.specs.Operations.{serves}
use Rattle.codes.specs.Problems.{invoke_problem, result_problem}
use Rattle.components.specs.Shows.{ShownComponent, Shows}
use Rattle.deciding.specs.Decision.{Decision, silent, with_cause, released, taken, shown_by}
use Rattle.deciding.specs.Steps.{shown, on_judged, step_four, step_six, five_and_six, four_to_six, is_invoke, except_invoke, on_release, picked_entry}
use Rattle.deciding.proofs.StepLaws.{on_type, GoesOn, decide-further}
use Rattle.components.specs.Texts.{extensible, text_of}
use Rattle.telephone.specs.Receive.{act, receive}
use Rattle.promises.specs.LaterEdition.{LaterMessage, in_register, in_facility, in_release, SameButTail, CannotAlter}
use Rattle.telephone.proofs.Shown.{first-is, some_inj, nothing-shown, receive-shows, five-shows, except-shows, text-is}

-- the first two octets stay, so the later message goes on to step 2 too
goes-on-later : (t : List ℕ) (space first type : ℕ) (s s' : List ℕ) → GoesOn t space (first ∷ type ∷ s) → length (first ∷ type ∷ s') ≤ 255 → GoesOn t space (first ∷ type ∷ s')
goes-on-later t space first type s s' h n =
    record {
      table = h.table;
      room = h.room;
      most = le-leb (length (first ∷ type ∷ s')) 255 n;
      least = le-leb 2 (length (first ∷ type ∷ s')) (omega arith);
      protocol = h.protocol;
      transaction = h.transaction;
    }

-- the text of a component with another parameter that reads
text-later : (c : Component) (q : List ℕ) (h : Taken Text) → extensible c ≡ true → ussd q ≡ sound h → text_of (with_parameter q c) ≡ some h
unfolding text_of
text-later (invoke id linked operation p) q h k u = rw (k, u)
text-later (result id none p) q h k u = cc
text-later (result id (some operation) p) q h k u = rw (k, u)
text-later (error id code p) q h k u = cc
text-later (reject id tag number) q h k u = cc

-- another USSD parameter suits where one is asked for
suits-invoke : (o : ℕ) (q : List ℕ) → eqb o 60 || eqb o 61 ≡ true → is_ussd q ≡ true → suits InvokeReceived o q ≡ true
unfolding suits suits_invoke_received
suits-invoke o q k u = rw (ne_eqb o 18 (λ z. false≢true (rw z at k)), k) u

suits-result : (q : List ℕ) → is_ussd q ≡ true → suits ResultReceived 59 q ≡ true
unfolding suits suits_result_received
suits-result q u = rw u (or-true (is_empty q))

-- step 6 looks at the parameter only to see whether it suits
invoke-accepted : (e : Entry) (f : Change) (id : ℤ) (linked : Option ℤ) (o : ℕ) (p q : List ℕ) → judge_invoke e id linked o p ≡ accepted f → suits InvokeReceived o q ≡ true
    → judge_invoke e id linked o q ≡ accepted f
unfolding judge_invoke
invoke-accepted e f id linked o p q k s = rw s (go (among id e.peer) (full e.peer) (serves o) (linked_problem e.own linked o) (suits InvokeReceived o p) _ k)
  where
    go : (a b c : Bool) (l : Option ℕ) (d : Bool) (y : Judged)
        → unless (not a) (problem invoke_problem 0) (unless (not b) (problem invoke_problem 3) (unless c (problem invoke_problem 1) (or_problem l (unless d (problem invoke_problem 2) y)))) ≡ accepted f
        → unless (not a) (problem invoke_problem 0) (unless (not b) (problem invoke_problem 3) (unless c (problem invoke_problem 1) (or_problem l y))) ≡ accepted f
    go true b c l d y h = cc
    go false true c l d y h = cc
    go false false false l d y h = cc
    go false false true (some n) d y h = cc
    go false false true none true y h = h
    go false false true none false y h = cc

result-accepted : (e : Entry) (f : Change) (id : ℤ) (o : ℕ) (p q : List ℕ) → judge_result e id (some o) p ≡ accepted f → eqb o 59 ≡ true → is_ussd q ≡ true
    → judge_result e id (some o) q ≡ accepted f
unfolding judge_result is_ours
result-accepted e f id o p q k h u =
    go (among id e.own) (eqb o (operation_of id e.own)) (suits ResultReceived (operation_of id e.own) p) (suits ResultReceived (operation_of id e.own) q) _ k
    (λ z. rw (sym (eqb-true o (operation_of id e.own) z) ∙ eqb-true o 59 h) (suits-result q u))
  where
    go : (a b d x : Bool) (y : Judged) → unless a (problem result_problem 0) (unless (b && d) (problem result_problem 2) y) ≡ accepted f → (b ≡ true → x ≡ true)
        → unless a (problem result_problem 0) (unless (b && x) (problem result_problem 2) y) ≡ accepted f
    go true true true x y h i = rw (i refl) h
    go true true false x y h i = cc
    go true false d x y h i = cc
    go false b d x y h i = cc

-- both are taken, with one change, and each shows its component
record BothTaken (c c' : Component) (d d' : Decision) : Type 0 where
  pub change : Change
  pub behind : List ℕ
  pub was : d ≡ taken change (shown c behind)
  pub becomes : d' ≡ taken change (shown c' behind)

both-judged : (id : ℤ) (c c' : Component) (behind : List ℕ) (v v' : Judged) (w : ShownComponent) → shown_by (on_judged v id c behind) ≡ some w
    → ((f : Change) → v ≡ accepted f → v' ≡ accepted f) → BothTaken c c' (on_judged v id c behind) (on_judged v' id c' behind)
both-judged id c c' behind (problem tag number) v' w k h = nothing-shown k
both-judged id c c' behind (accepted f) v' w k h = record { change = f; behind = behind; was = refl; becomes = rw (h f refl) }

six-later : (e : Entry) (c : Component) (q behind : List ℕ) (w : ShownComponent) → shown_by (step_six e c behind) ≡ some w → extensible c ≡ true → is_ussd q ≡ true
    → BothTaken c (with_parameter q c) (step_six e c behind) (step_six e (with_parameter q c) behind)
unfolding step_six
six-later e (invoke id linked o p) q behind w k h u = both-judged id _ _ behind _ _ w k (λ f z. invoke-accepted e f id linked o p q z (suits-invoke o q h u))
six-later e (result id none p) q behind w k h u = absurd (false≢true h)
six-later e (result id (some o) p) q behind w k h u = both-judged id _ _ behind _ _ w k (λ f z. result-accepted e f id o p q z h u)
six-later e (error id code p) q behind w k h u = absurd (false≢true h)
six-later e (reject id tag number) q behind w k h u = absurd (false≢true h)

-- both are released, with one cause, and each shows its component
record BothReleased (c c' : Component) (d d' : Decision) : Type 0 where
  pub behind : List ℕ
  pub cause : Option (Taken (List ℕ))
  pub cause' : Option (Taken (List ℕ))
  pub same : contents_of cause' ≡ contents_of cause
  pub was : d ≡ released (shown c behind) cause
  pub becomes : d' ≡ released (shown c' behind) cause'

-- the same decision but for the component that is shown
data Alike (c c' : Component) (d d' : Decision) : Type 0 where
  both_taken : BothTaken c c' d d' → Alike c c' d d'
  both_released : BothReleased c c' d d' → Alike c c' d d'

-- behind a test whose other branch shows nothing
alike-held : {c c' : Component} (b : Bool) (d d' o : Decision) (w : ShownComponent) → shown_by o ≡ none → shown_by (cond b d o) ≡ some w
    → (shown_by d ≡ some w → Alike c c' d d') → Alike c c' (cond b d o) (cond b d' o)
alike-held true d d' o w n k next = next k
alike-held false d d' o w n k next = nothing-shown (sym n ∙ k)

alike-failed : {c c' : Component} (b : Bool) (o d d' : Decision) (w : ShownComponent) → shown_by o ≡ none → shown_by (cond b o d) ≡ some w
    → (shown_by d ≡ some w → Alike c c' d d') → Alike c c' (cond b o d) (cond b o d')
alike-failed true o d d' w n k next = nothing-shown (sym n ∙ k)
alike-failed false o d d' w n k next = next k

-- whether a mandatory part is taken does not depend on its Facility value
required-is : (type : ℕ) (v behind : List ℕ) → required type (laid type v behind) ≡ check (clear behind) mandatory_missing (took v behind)
unfolding required
required-is type v behind = rw (mandatory-back type v behind)

same_kind : (q : List ℕ) (c : Component) → is_invoke (with_parameter q c) ≡ is_invoke c
same_kind q (invoke id linked operation p) = refl
same_kind q (result id operation p) = refl
same_kind q (error id code p) = refl
same_kind q (reject id tag number) = refl

-- from step 5 back to the whole message: c is shown with the text g, and q is its longer parameter
module _ (c : Component) (x q : List ℕ) (g : Taken Text) (h : text_of c ≡ some g) (r : row x ≡ true) (l : LaterParameter (parameter_of c) x q) where
  ussd-later : ussd q ≡ took g.value (g.rest ++ x)
  ussd-later = later-text (parameter_of c) x q g l (text-is c g h).1 r

  five-later : {s t : List ℕ} (e : Entry) (behind rest : List ℕ) → LaterFacility (parameter_of c) q s t
      → shown_by (five_and_six e (facility s) behind) ≡ some (record { component = c; behind = rest })
      → BothTaken c (with_parameter q c) (five_and_six e (facility s) behind) (five_and_six e (facility t) behind)
  unfolding five_and_six
  five-later {s} {t} e behind rest f k =
      let y = five-shows e (facility s) behind c rest k in
      let z = later-edition (parameter_of c) x q c g f l r y.0 refl (text-is c g h).1 in
      rw (y.0, z.0) (six-later e c q behind _ y.1 (text-is c g h).0 (rw ussd-later))

  four-later : {s t : List ℕ} (e : Entry) (type : ℕ) (behind rest : List ℕ) → LaterFacility (parameter_of c) q s t
      → shown_by (four_to_six e type (laid type s behind)) ≡ some (record { component = c; behind = rest })
      → BothTaken c (with_parameter q c) (four_to_six e type (laid type s behind)) (four_to_six e type (laid type t behind))
  unfolding four_to_six
  four-later {s} {t} e type behind rest f k = rw (required-is type s behind, required-is type t behind) (go (clear behind) (rw (required-is type s behind) at k))
    where
      go : (b : Bool) → shown_by (step_four (check b mandatory_missing (took s behind)) (λ v r. five_and_six e (facility v) r)) ≡ some (record { component = c; behind = rest })
          → BothTaken c (with_parameter q c) (step_four (check b mandatory_missing (took s behind)) (λ v r. five_and_six e (facility v) r)) (step_four (check b mandatory_missing (took t behind)) (λ v r. five_and_six e (facility v) r))
      go true w = five-later e behind rest f w
      go false w = nothing-shown w

  register-later : {s t : List ℕ} (e : Entry) (f : ℕ) (behind rest : List ℕ) → LaterFacility (parameter_of c) q s t
      → shown_by (on_type e f register_type (0x1C ∷ length s ∷ (s ++ behind))) ≡ some (record { component = c; behind = rest })
      → Alike c (with_parameter q c) (on_type e f register_type (0x1C ∷ length s ∷ (s ++ behind))) (on_type e f register_type (0x1C ∷ length t ∷ (t ++ behind)))
  unfolding on_type
  register-later e f behind rest y k =
      alike-failed e.is_open (with_cause 98) _ _ _ refl k λ k₁.
      alike-failed (eqb f 1) (silent 1) _ _ _ refl k₁ λ k₂.
      both_taken (four-later e register_type behind rest y k₂)

  facility-later : {s t : List ℕ} (e : Entry) (f : ℕ) (behind rest : List ℕ) → LaterFacility (parameter_of c) q s t
      → shown_by (on_type e f facility_type (length s ∷ (s ++ behind))) ≡ some (record { component = c; behind = rest })
      → Alike c (with_parameter q c) (on_type e f facility_type (length s ∷ (s ++ behind))) (on_type e f facility_type (length t ∷ (t ++ behind)))
  unfolding on_type
  facility-later e f behind rest y k = alike-held e.is_open _ _ (with_cause 81) _ refl k λ k₁. both_taken (four-later e facility_type behind rest y k₁)

  -- in a release, what steps 5 and 6 show is shown if it is no Invoke
  shown-later : (d d' : Decision) (rest : List ℕ) → (shown_by d ≡ some (record { component = c; behind = rest }) → BothTaken c (with_parameter q c) d d')
      → except_invoke (shown_by d) ≡ some (record { component = c; behind = rest })
      → except_invoke (shown_by d') ≡ some (record { component = with_parameter q c; behind = rest })
  shown-later d d' rest f k =
      let y = except-shows (shown_by d) _ k in
      let z = f y.0 in
      rw (z.becomes, same_kind q c, y.1) (ap (λ (w : ShownComponent). shown (with_parameter q c) w.behind) (some_inj (sym (ap shown_by z.was) ∙ y.0)))

  onward-later : {before s t : List ℕ} (e : Entry) (behind rest : List ℕ) → Passed 0x1C before → LaterFacility (parameter_of c) q s t
      → shown_by (on_release e (before ++ (0x1C ∷ length s ∷ (s ++ behind)))) ≡ some (record { component = c; behind = rest })
      → BothReleased c (with_parameter q c) (on_release e (before ++ (0x1C ∷ length s ∷ (s ++ behind)))) (on_release e (before ++ (0x1C ∷ length t ∷ (t ++ behind))))
  unfolding on_release first_whole
  onward-later {before} {s} {t} e behind rest p f k =
      let v = shown-later (five_and_six e (facility s) behind) (five_and_six e (facility t) behind) rest (five-later e behind rest f) (rw (first-is s behind p) at k) in
      record {
        behind = rest;
        cause = first_taken 0x08 (before ++ (0x1C ∷ length s ∷ (s ++ behind)));
        cause' = first_taken 0x08 (before ++ (0x1C ∷ length t ∷ (t ++ behind)));
        same = (release-later s t behind p).2;
        was = ap (λ (o : Shows). released o (first_taken 0x08 (before ++ (0x1C ∷ length s ∷ (s ++ behind))))) k;
        becomes = ap (λ (o : Shows). released o (first_taken 0x08 (before ++ (0x1C ∷ length t ∷ (t ++ behind))))) (rw (first-is t behind p) v);
      }

  complete-later : {before s t : List ℕ} (e : Entry) (f : ℕ) (behind rest : List ℕ) → Passed 0x1C before → LaterFacility (parameter_of c) q s t
      → shown_by (on_type e f release_type (before ++ (0x1C ∷ length s ∷ (s ++ behind)))) ≡ some (record { component = c; behind = rest })
      → Alike c (with_parameter q c) (on_type e f release_type (before ++ (0x1C ∷ length s ∷ (s ++ behind)))) (on_type e f release_type (before ++ (0x1C ∷ length t ∷ (t ++ behind))))
  unfolding on_type
  complete-later e f behind rest p y k = alike-held e.is_open _ _ (silent 1) _ refl k λ k₁. both_released (onward-later e behind rest p y k₁)

  -- what is sent and kept does not depend on what is shown
  outcome-later : (t b m m' : List ℕ) (d d' : Decision) → picked_entry m' ≡ picked_entry m → Alike c (with_parameter q c) d d'
      → SameButTail (act t m b d) (act t m' b d') c g x q
  unfolding act
  outcome-later t b m m' d d' e (both_taken y) =
      rw (y.was, y.becomes) (record {
        verdict = refl;
        written = refl;
        buffer = refl;
        table = rw e;
        cause = refl;
        behind = y.behind;
        was = refl;
        shown = refl;
        text = text-later c q _ (text-is c g h).0 ussd-later;
      })
  outcome-later t b m m' d d' e (both_released y) =
      rw (y.was, y.becomes) (record {
        verdict = refl;
        written = refl;
        buffer = refl;
        table = rw e;
        cause = y.same;
        behind = y.behind;
        was = refl;
        shown = refl;
        text = text-later c q _ (text-is c g h).0 ussd-later;
      })

  message-later : (t b : List ℕ) (first type : ℕ) (s s' : List ℕ) (rest : List ℕ) → (receive t (first ∷ type ∷ s) b).shown ≡ some (record { component = c; behind = rest })
      → length (first ∷ type ∷ s') ≤ 255
      → ((e : Entry) → shown_by (on_type e (flag first) type s) ≡ some (record { component = c; behind = rest }) → Alike c (with_parameter q c) (on_type e (flag first) type s) (on_type e (flag first) type s'))
      → SameButTail (receive t (first ∷ type ∷ s) b) (receive t (first ∷ type ∷ s') b) c g x q
  unfolding receive picked_entry
  message-later t b first type s s' rest k n step =
      let y = receive-shows t (first ∷ type ∷ s) b _ k in
      let z = goes-on-later t (length b) first type s s' y.0 n in
      rw (decide-further t (first ∷ type ∷ s) (length b) y.0, decide-further t (first ∷ type ∷ s') (length b) z)
      (outcome-later t b (first ∷ type ∷ s) (first ∷ type ∷ s') _ _ refl (step _ y.1))

  edition-later : (t b rest : List ℕ) {m m' : List ℕ} → LaterMessage (parameter_of c) q m m' → (receive t m b).shown ≡ some (record { component = c; behind = rest }) → length m' ≤ 255
      → SameButTail (receive t m b) (receive t m' b) c g x q
  edition-later t b rest (in_register first y behind) k n = message-later t b first register_type _ _ rest k n (λ e z. register-later e _ behind rest y z)
  edition-later t b rest (in_facility first y behind) k n = message-later t b first facility_type _ _ rest k n (λ e z. facility-later e _ behind rest y z)
  edition-later t b rest (in_release first p y behind) k n = message-later t b first release_type _ _ rest k n (λ e z. complete-later e _ behind rest p y z)

pub cannot-alter : CannotAlter
cannot-alter t b m m' x c g s r e n = edition-later c x e.parameter g s.text r e.becomes t b s.behind e.around s.shown n
