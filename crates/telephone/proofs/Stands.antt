-- Each part of what is shown is found again at its place.
use Prim.Native.Nat.{ℕ, ◌+◌}
use mathlib.Core.Path.{◌≡◌, refl, sym, ap, ◌∙◌, subst}
use mathlib.Core.List.{List, ◌++◌, append_assoc}
use mathlib.Core.Bool.{true, false≢true}
use mathlib.Core.Option.{Option, none, some}
use native.Mathlib.Omega.{arith}
use lib.ListN.{length, get_or, take, drop, take-append-drop, length-append}
use lib.IntN.{ℤ}
use Rattle.octets.specs.Reader.{Answer, fault, sound, Taken}
use Rattle.octets.proofs.EndLaws.{Ends, further-ends, behind-ends, part_at}
use Rattle.parameters.specs.Parameter.{Text}
use Rattle.parameters.proofs.ParameterLaws.{ussd-ends}
use Rattle.components.specs.Component.{Component, invoke, result, error, reject, parameter_of}
use Rattle.components.specs.Facility.{Finding, empty, shows, general, left_over, faulty_reject, facility}
use Rattle.components.specs.Shows.{ShownComponent, Shows}
use Rattle.components.specs.Texts.{text_of}
use Rattle.components.proofs.Was.{facility-ends}
use Rattle.messages.specs.Layout.{facility_type, register_type}
use Rattle.messages.specs.Scan.{required, first_taken}
use Rattle.messages.proofs.ScanLaws.{required-was, laid-ends, taken-ends}
use Rattle.table.specs.Table.{Entry}
use Rattle.judging.specs.StepSix.{Judged, problem, accepted, judge_invoke, judge_result, judge_error}
use Rattle.octets.specs.declared.Span.{Span}
use Rattle.showing.specs.Views.{span_of, standing, LiesIn, view_of, component_view, text_in, text_view, cause_view}
use Rattle.deciding.specs.Decision.{Decision, shown_by}
use Rattle.deciding.specs.Steps.{step_four, on_judged, step_six, five_and_six, four_to_six, in_release, on_release}
use Rattle.deciding.proofs.StepLaws.{by-type, tested}
use Rattle.telephone.specs.Outcome.{Outcome}
use Rattle.telephone.specs.Receive.{cause_by, act, receive}
use Rattle.telephone.specs.FromC.{received_of}
use Rattle.telephone.specs.Stands.{string_of, tail_of, cause_shown, InOrder, Stands}
use Rattle.telephone.proofs.Shown.{nothing-shown, receive-shows, six-shows, five-shows, except-shows, text-is}

-- from step 5 back to the whole message
five-ends : (e : Entry) (v r : List ℕ) (w : ShownComponent) → shown_by (five_and_six e (facility v) r) ≡ some w → Ends (parameter_of w.component ++ w.behind) (v ++ r)
five-ends e v r w k =
    let y = five-shows e (facility v) r w.component w.behind k in
    let z = six-shows e w.component r w y.1 in
    subst (λ (b : List ℕ). Ends (parameter_of w.component ++ b) (v ++ r)) (sym (ap (λ (u : ShownComponent). u.behind) z)) (behind-ends (parameter_of w.component) v r (facility-ends v w.component y.0))

module _ (e : Entry) (s : List ℕ) (w : ShownComponent) where
  four-ends : (type : ℕ) → shown_by (four_to_six e type s) ≡ some w → Ends (parameter_of w.component ++ w.behind) s
  unfolding four_to_six
  four-ends type k = go (required type s) refl k
    where
      go : (o : Answer (Taken (List ℕ))) → required type s ≡ o → shown_by (step_four o (λ v behind. five_and_six e (facility v) behind)) ≡ some w → Ends (parameter_of w.component ++ w.behind) s
      go (fault n) p z = nothing-shown z
      go (sound g) p z = further-ends _ (g.value ++ g.rest) s (five-ends e g.value g.rest w z) (laid-ends type g.value g.rest s (required-was type s g p))

  release-ends : shown_by (on_release e s) ≡ some w → Ends (parameter_of w.component ++ w.behind) s
  unfolding on_release
  release-ends k = go (first_taken 0x1C s) refl k
    where
      go : (o : Option (Taken (List ℕ))) → first_taken 0x1C s ≡ o → in_release e o ≡ some w → Ends (parameter_of w.component ++ w.behind) s
      go none p z = nothing-shown z
      go (some g) p z = further-ends _ (g.value ++ g.rest) s (five-ends e g.value g.rest w (except-shows _ w z).0) (taken-ends 0x1C s g p)

-- the two octets of the head stand before
whole-ends : (e m : List ℕ) → Ends e (drop 2 m) → Ends e m
whole-ends e m x = further-ends e (drop 2 m) m x (take 2 m, sym (take-append-drop 2 m))

shown-ends : (t m b : List ℕ) (w : ShownComponent) → (receive t m b).shown ≡ some w → Ends (parameter_of w.component ++ w.behind) m
shown-ends t m b w k =
    whole-ends _ m
    (by-type (λ d. shown_by d ≡ some w → Ends (parameter_of w.component ++ w.behind) (drop 2 m)) _ _ (get_or m 1 0) (drop 2 m) nothing-shown nothing-shown nothing-shown nothing-shown
    (λ _ _. release-ends _ (drop 2 m) w) (λ _ _. four-ends _ (drop 2 m) w facility_type) (λ _ _. four-ends _ (drop 2 m) w register_type)
    (receive-shows t m b w k).1)

-- a cause is told by a release alone
judged-no-cause : (j : Judged) (id : ℤ) (c : Component) (r : List ℕ) → cause_by (on_judged j id c r) ≡ none
judged-no-cause (problem tag n) id c r = refl
judged-no-cause (accepted e) id c r = refl

six-no-cause : (e : Entry) (c : Component) (r : List ℕ) → cause_by (step_six e c r) ≡ none
unfolding step_six
six-no-cause e (invoke id l o p) r = judged-no-cause (judge_invoke e id l o p) id _ r
six-no-cause e (result id o p) r = judged-no-cause (judge_result e id o p) id _ r
six-no-cause e (error id k p) r = judged-no-cause (judge_error e id k) id _ r
six-no-cause e (reject id tag n) r = refl

five-no-cause : (e : Entry) (f : Finding) (r : List ℕ) → cause_by (five_and_six e f r) ≡ none
unfolding five_and_six
five-no-cause e empty r = refl
five-no-cause e (shows c) r = six-no-cause e c r
five-no-cause e (general n id) r = refl
five-no-cause e left_over r = refl
five-no-cause e faulty_reject r = refl

four-no-cause : (e : Entry) (type : ℕ) (s : List ℕ) → cause_by (four_to_six e type s) ≡ none
unfolding four_to_six
four-no-cause e type s = go (required type s)
  where
    go : (o : Answer (Taken (List ℕ))) → cause_by (step_four o (λ v behind. five_and_six e (facility v) behind)) ≡ none
    go (fault n) = refl
    go (sound g) = five-no-cause e (facility g.value) g.rest

-- a cause that a decision tells stands in the octets behind the head
abbrev CauseEnds : List ℕ → Taken (List ℕ) → Decision → Type 0
CauseEnds s w d = cause_by d ≡ some w → Ends (w.value ++ w.rest) s

cause-ends : (t m b : List ℕ) (w : Taken (List ℕ)) → (receive t m b).cause ≡ some w → Ends (w.value ++ w.rest) m
unfolding receive act on_release
cause-ends t m b w k =
    whole-ends _ m
    (tested (CauseEnds (drop 2 m) w) t m (length b) nothing-shown nothing-shown nothing-shown nothing-shown nothing-shown
    (λ g. by-type (CauseEnds (drop 2 m) w) _ _ (get_or m 1 0) (drop 2 m) nothing-shown nothing-shown nothing-shown nothing-shown
    (λ _ _ z. taken-ends 0x08 (drop 2 m) w z)
    (λ _ _ z. nothing-shown (sym (four-no-cause _ facility_type (drop 2 m)) ∙ z))
    (λ _ _ z. nothing-shown (sym (four-no-cause _ register_type (drop 2 m)) ∙ z)))
    k)

-- a part that is followed by r up to the end lies within
lies : (m p r : List ℕ) → Ends (p ++ r) m → LiesIn m (span_of (length m) p r)
lies m p r x =
    let l : length m ≡ length x.0 + (length p + length r) = ap length x.1 ∙ length-append x.0 (p ++ r) ∙ ap (λ (n : ℕ). length x.0 + n) (length-append p r) in
    (omega arith, omega arith)

-- no component, no text, no cause: the empty place at the front
nowhere-lies : (m : List ℕ) → LiesIn m (record { start = 0; end = 0 })
nowhere-lies m = (omega arith, omega arith)

view-place : (c : Component) (place : Span) → (view_of c place).parameter ≡ place
view-place (invoke id linked operation p) place = refl
view-place (result id operation p) place = refl
view-place (error id code p) place = refl
view-place (reject id tag number) place = refl

module _ (m : List ℕ) where
  -- the parameter
  parameter-is : (w : ShownComponent) → Ends (parameter_of w.component ++ w.behind) m
      → (standing m (component_view (length m) (some w)).parameter ≡ parameter_of w.component) × LiesIn m (component_view (length m) (some w)).parameter
  unfolding component_view
  parameter-is w x =
      let p = parameter_of w.component in
      rw (view-place w.component (span_of (length m) p w.behind)) (part_at m p w.behind x, lies m p w.behind x)

  -- a string, and the tail behind it
  module _ (w : ShownComponent) (g : Taken Text) (x : Ends (parameter_of w.component ++ w.behind) m) (y : Ends (g.value.string ++ g.rest) (parameter_of w.component)) where
    string-ends : Ends (g.value.string ++ (g.rest ++ w.behind)) m
    string-ends =
        subst (λ (l : List ℕ). Ends l m) (append_assoc g.value.string g.rest w.behind)
        (further-ends _ (parameter_of w.component ++ w.behind) m (behind-ends (g.value.string ++ g.rest) (parameter_of w.component) w.behind y) x)

    tail-ends : Ends (g.rest ++ w.behind) m
    tail-ends = further-ends _ (g.value.string ++ (g.rest ++ w.behind)) m (g.value.string, refl) string-ends

    in_order_lem : InOrder (span_of (length m) (parameter_of w.component) w.behind) (span_of (length m) g.value.string (g.rest ++ w.behind)) (span_of (length m) g.rest w.behind)
    in_order_lem =
        let a = length-append g.rest w.behind in
        let b : length (parameter_of w.component) ≡ length y.0 + (length g.value.string + length g.rest)
        = ap length y.1 ∙ length-append y.0 (g.value.string ++ g.rest) ∙ ap (λ (n : ℕ). length y.0 + n) (length-append g.value.string g.rest) in
        let c : length m ≡ length x.0 + (length (parameter_of w.component) + length w.behind)
        = ap length x.1 ∙ length-append x.0 (parameter_of w.component ++ w.behind) ∙ ap (λ (n : ℕ). length x.0 + n) (length-append (parameter_of w.component) w.behind) in
        (omega arith, (omega arith, refl))

  abbrev TextStands : ShownComponent → Option (Taken Text) → Type 0
  TextStands w o =
      (standing m (text_in (length m) w.behind o).string ≡ string_of o)
      × ((standing m (text_in (length m) w.behind o).tail ≡ tail_of o)
      × (LiesIn m (text_in (length m) w.behind o).string
      × (LiesIn m (text_in (length m) w.behind o).tail
      × ((text_in (length m) w.behind o).is_there ≡ true
      → InOrder (component_view (length m) (some w)).parameter (text_in (length m) w.behind o).string (text_in (length m) w.behind o).tail))))

  text-stands : (w : ShownComponent) → Ends (parameter_of w.component ++ w.behind) m → (o : Option (Taken Text)) → text_of w.component ≡ o → TextStands w o
  unfolding component_view
  text-stands w x none e = (refl, (refl, (nowhere-lies m, (nowhere-lies m, λ h. absurd (false≢true h)))))
  text-stands w x (some g) e =
      let y = ussd-ends (parameter_of w.component) g (text-is w.component g e).1 in (
        part_at m g.value.string (g.rest ++ w.behind) (string-ends w g x y),
        (
          part_at m g.rest w.behind (tail-ends w g x y),
          (lies m g.value.string (g.rest ++ w.behind) (string-ends w g x y), (lies m g.rest w.behind (tail-ends w g x y), λ h. rw (view-place w.component (span_of (length m) (parameter_of w.component) w.behind)) (in_order_lem w g x y))),
        ),
      )

  cause-stands : (c : Option (Taken (List ℕ))) → ((w : Taken (List ℕ)) → c ≡ some w → Ends (w.value ++ w.rest) m)
      → (standing m (cause_view (length m) c).contents ≡ cause_shown c) × LiesIn m (cause_view (length m) c).contents
  unfolding cause_view
  cause-stands none h = (refl, nowhere-lies m)
  cause-stands (some w) h = (part_at m w.value w.rest (h w refl), lies m w.value w.rest (h w refl))

  stands_of : (o : Outcome) → ((w : ShownComponent) → o.shown ≡ some w → Ends (parameter_of w.component ++ w.behind) m)
      → ((w : Taken (List ℕ)) → o.cause ≡ some w → Ends (w.value ++ w.rest) m) → Stands m o (received_of (length m) o)
  unfolding component_view text_view
  stands_of o h k = go o.shown refl
    where
      go : (s : Shows) → o.shown ≡ s → Stands m o (received_of (length m) o)
      go none e =
          let c = cause-stands o.cause k in
          rw e (record {
            parameter = refl;
            string = refl;
            tail = refl;
            cause = c.0;
            parameter_lies = nowhere-lies m;
            string_lies = nowhere-lies m;
            tail_lies = nowhere-lies m;
            cause_lies = c.1;
            order = λ f. absurd (false≢true f);
          })
      go (some w) e =
          let c = cause-stands o.cause k in
          let p = parameter-is w (h w e) in
          let t = text-stands w (h w e) (text_of w.component) refl in
          rw e (record {
            parameter = p.0;
            string = t.0;
            tail = t.1.0;
            cause = c.0;
            parameter_lies = p.1;
            string_lies = t.1.1.0;
            tail_lies = t.1.1.1.0;
            cause_lies = c.1;
            order = t.1.1.1.1;
          })

pub stands : (t m b : List ℕ) → Stands m (receive t m b) (received_of (length m) (receive t m b))
stands t m b = stands_of m (receive t m b) (shown-ends t m b) (cause-ends t m b)
