-- Each message that shows a text has the pieces of a later edition.
use Prim.Native.Nat.{ℕ}
use mathlib.Core.Path.{◌≡◌, refl, sym, ap, ◌∙◌, subst}
use mathlib.Core.List.{List, [], ◌∷◌, ◌++◌, append_assoc, append-nil}
use mathlib.Core.Bool.{true, false, false≢true}
use mathlib.Core.Option.{Option, none, some}
use native.Mathlib.Omega.{arith}
use borrow.Author.Tests.{eqb-true}
use lib.ListN.{length}
use lib.IntN.{ℤ}
use lib.Dec.{eqb}
use Rattle.octets.specs.Reader.{Answer, fault, sound, Taken, took, is_empty, alone}
use Rattle.octets.proofs.ReaderLaws.{sound-inj, through, passed, empty-is, alone-is, branch}
use Rattle.elements.specs.Element.{element, written}
use Rattle.codes.specs.Ids.{id_of}
use Rattle.codes.specs.Problems.{problem_tag}
use Rattle.places.specs.Places.{misplaced, single, parameter, invoke_places, coded, rejected}
use Rattle.parameters.specs.Parameter.{Text, mistyped, ussd}
use Rattle.parameters.proofs.ParameterLaws.{ussd-held}
use Rattle.components.specs.Component.{Component, parameter_of, invoke_tag, result_tag, reject_tag, invoke_of, result_of, error_of, reject_of}
use Rattle.components.specs.Facility.{shows, after_tag, component, facility}
use Rattle.components.specs.LaterEdition.{Encloses, LaterParameter, LaterFacility, in_invoke, in_result}
use Rattle.components.specs.Texts.{extensible}
use Rattle.components.proofs.LaterLaws.{single-local, called-local, parameter-was}
use Rattle.components.proofs.Was.{encloses-of, facility-was, coded-was}
use Rattle.messages.specs.Layout.{register_type, facility_type, release_type}
use Rattle.messages.specs.Scan.{required, first_taken, first_whole, contents_of}
use Rattle.messages.proofs.ScanLaws.{laid, required-was, first_found}
use Rattle.table.specs.Table.{Entry}
use Rattle.deciding.specs.Decision.{shown_by}
use Rattle.deciding.specs.Steps.{step_four, four_to_six, five_and_six, in_release as shownInRelease, on_release}
use Rattle.deciding.proofs.StepLaws.{on_type, by-type, GoesOn, further}
use Rattle.telephone.proofs.Shown.{nothing-shown, receive-shows, five-shows, except-shows, text-is}
use Rattle.promises.specs.LaterEdition.{LaterMessage, in_register, in_facility, in_release, Exists}

-- the parameter of a text is a 30
parameter-exists : (p x : List ℕ) (g : Taken Text) → ussd p ≡ sound g → (q : List ℕ) × LaterParameter p x q
parameter-exists p x g e =
    let h = ussd-held p g e in
    through (alone mistyped (element p)) _ h.0 h.1 λ k u v.
    passed (eqb k.tag 0x30) mistyped (sound k.contents) h.0 v λ t w.
    let y : element p ≡ took (record { tag = 0x30; contents = h.0 }) [] = alone-is mistyped (element p) k u ∙ λ i. took (record { tag = eqb-true k.tag 0x30 t i; contents = sound-inj w i }) [] in
    (written 0x30 (h.0 ++ x), record { contents = h.0; was = encloses-of 0x30 h.0 p y; becomes = refl })

not-extensible : {C : Type 0} (c d : Component) → d ≡ c → extensible d ≡ false → extensible c ≡ true → C
not-extensible c d e f h = absurd (false≢true (sym f ∙ ap extensible e ∙ h))

module _ (q s : List ℕ) (c : Component) (h : extensible c ≡ true) where
  invoke-exists : (contents : List ℕ) (i : Taken ℕ) → Encloses invoke_tag contents s → single 0x02 contents ≡ sound i → invoke_of (id_of i.value) i.rest ≡ sound c
      → (t : List ℕ) × LaterFacility (parameter_of c) q s t
  unfolding invoke_of
  invoke-exists contents i e a b =
      through (invoke_places i.rest) _ c b λ g u v.
      through (parameter g.rest) _ c v λ o w z.
      let f = single-local 0x02 contents i a in
      let l = called-local i.rest g u in
      let r : g.rest ≡ parameter_of c = sym (parameter-was g.rest o w) ∙ ap parameter_of (sound-inj z) in
      let y : contents ≡ (f.taken ++ l.taken) ++ parameter_of c
      = f.split ∙ ap (λ (n : List ℕ). f.taken ++ n) (l.split ∙ ap (λ (n : List ℕ). l.taken ++ n) r) ∙ sym (append_assoc f.taken l.taken (parameter_of c)) in
      (written invoke_tag ((f.taken ++ l.taken) ++ q), in_invoke (f.taken ++ l.taken) (subst (λ (n : List ℕ). Encloses invoke_tag n s) y e))

  result-exists : (contents : List ℕ) (i : Taken ℕ) → Encloses result_tag contents s → single 0x02 contents ≡ sound i → result_of (id_of i.value) i.rest ≡ sound c
      → (t : List ℕ) × LaterFacility (parameter_of c) q s t
  unfolding result_of
  result-exists contents i e a b =
      branch (is_empty i.rest) _ _ c b (λ _ k. not-extensible c _ (sound-inj k) refl h) λ _ k.
      through (element i.rest) _ c k λ g p k₁.
      passed (eqb g.value.tag 0x30) misplaced _ c k₁ λ t k₂.
      through (coded g.value.contents) _ c k₂ λ d u k₃.
      passed (is_empty g.rest) misplaced _ c k₃ λ n k₄.
      let f = single-local 0x02 contents i a in
      let w = coded-was g.value.contents d u in
      let v : g.value.contents ≡ w.0 ++ parameter_of c = w.1 ∙ ap (λ (x : List ℕ). w.0 ++ x) (ap parameter_of (sound-inj k₄)) in
      let y : element i.rest ≡ took (record { tag = 0x30; contents = w.0 ++ parameter_of c }) []
      = p ∙ λ j. took (record { tag = eqb-true g.value.tag 0x30 t j; contents = v j }) (empty-is g.rest n j) in (
        written result_tag (f.taken ++ written 0x30 (w.0 ++ q)),
        in_result f.taken i.value w.0 i.rest (sym (ap (single 0x02) (append-nil f.taken)) ∙ f.again [])
            (encloses-of 0x30 (w.0 ++ parameter_of c) i.rest y) (subst (λ (x : List ℕ). Encloses result_tag x s) f.split e),
      )

  reject-none : {C : Type 0} (contents : List ℕ) → reject_of contents ≡ sound c → C
  unfolding reject_of
  reject-none contents e =
      through (rejected contents) _ c e λ i a b.
      through (alone misplaced (element i.rest)) _ c b λ g u v.
      passed (problem_tag g.tag) misplaced _ c v λ t w.
      passed (eqb (length g.contents) 1) misplaced _ c w λ n z.
      not-extensible c _ (sound-inj z) refl h

  error-none : {C : Type 0} (id : ℤ) (r : List ℕ) → error_of id r ≡ sound c → C
  unfolding error_of
  error-none id r e = through (coded r) _ c e λ d a b. not-extensible c _ (sound-inj b) refl h

  -- of the four kinds two have a text
  facility-exists : facility s ≡ shows c → (t : List ℕ) × LaterFacility (parameter_of c) q s t
  unfolding component after_tag
  facility-exists e =
      facility-was s c e λ tag contents k u.
      branch (eqb tag reject_tag) (reject_of contents) _ c u (λ _ v. reject-none contents v) λ _ v.
      through (single 0x02 contents) _ c v λ i a b.
      branch (eqb tag invoke_tag) (invoke_of (id_of i.value) i.rest) _ c b
      (λ t w. invoke-exists contents i (subst (λ (n : ℕ). Encloses n contents s) (eqb-true tag invoke_tag t) k) a w) λ _ w.
      branch (eqb tag result_tag) (result_of (id_of i.value) i.rest) (error_of (id_of i.value) i.rest) c w
      (λ t z. result-exists contents i (subst (λ (n : ℕ). Encloses n contents s) (eqb-true tag result_tag t) k) a z)
      (λ _ z. error-none (id_of i.value) i.rest z)

module _ (q : List ℕ) (c : Component) (h : extensible c ≡ true) (rest : List ℕ) where
  -- where the Facility value of a REGISTER or FACILITY stands
  four-exists : {C : Type 0} (e : Entry) (type : ℕ) (s : List ℕ) → shown_by (four_to_six e type s) ≡ some (record { component = c; behind = rest })
      → ((v behind t : List ℕ) → s ≡ laid type v behind → LaterFacility (parameter_of c) q v t → C) → C
  unfolding four_to_six
  four-exists {C} e type s k next = go (required type s) refl k
    where
      go : (o : Answer (Taken (List ℕ))) → required type s ≡ o → shown_by (step_four o (λ v r. five_and_six e (facility v) r)) ≡ some (record { component = c; behind = rest }) → C
      go (fault n) p z = nothing-shown z
      go (sound g) p z =
          let y = facility-exists q g.value c h (five-shows e (facility g.value) g.rest c rest z).0 in
          next g.value g.rest y.0 (required-was type s g p) y.1

  -- and that of a RELEASE COMPLETE
  release-exists : (e : Entry) (first : ℕ) (s : List ℕ) → shown_by (on_release e s) ≡ some (record { component = c; behind = rest })
      → (m : List ℕ) × LaterMessage (parameter_of c) q (first ∷ release_type ∷ s) m
  unfolding on_release first_whole
  release-exists e first s k = go (first_taken 0x1C s) refl k
    where
      go : (o : Option (Taken (List ℕ))) → first_taken 0x1C s ≡ o → shownInRelease e o ≡ some (record { component = c; behind = rest })
          → (m : List ℕ) × LaterMessage (parameter_of c) q (first ∷ release_type ∷ s) m
      go none p z = nothing-shown z
      go (some g) p z =
          let w = (except-shows (shown_by (five_and_six e (facility g.value) g.rest)) _ z).0 in
          let y = facility-exists q g.value c h (five-shows e (facility g.value) g.rest c rest w).0 in
          let f = first_found 0x1C s g.value (omega arith) (ap contents_of p) in
          let n = first ∷ release_type ∷ (f.before ++ (0x1C ∷ length y.0 ∷ (y.0 ++ f.behind))) in
          (n, subst (λ (x : List ℕ). LaterMessage (parameter_of c) q (first ∷ release_type ∷ x) n) (sym f.split) (in_release first f.others y.1 f.behind))

  message-exists : (e : Entry) (f first type : ℕ) (s : List ℕ) → shown_by (on_type e f type s) ≡ some (record { component = c; behind = rest })
      → (m : List ℕ) × LaterMessage (parameter_of c) q (first ∷ type ∷ s) m
  message-exists e f first type s k =
      by-type (λ d. shown_by d ≡ some (record { component = c; behind = rest }) → (m : List ℕ) × LaterMessage (parameter_of c) q (first ∷ type ∷ s) m) e f type s
      nothing-shown nothing-shown nothing-shown nothing-shown
      (λ t _ z. rw t (release-exists e first s z))
      (λ t _ z. four-exists e facility_type s z λ w behind y i j. rw (t, i) (first ∷ facility_type ∷ length y ∷ (y ++ behind), in_facility first j behind))
      (λ t _ z. four-exists e register_type s z λ w behind y i j. rw (t, i) (first ∷ register_type ∷ 0x1C ∷ length y ∷ (y ++ behind), in_register first j behind))
      k

  whole-exists : (t : List ℕ) (space : ℕ) (m : List ℕ) → GoesOn t space m → shown_by (further t m) ≡ some (record { component = c; behind = rest })
      → (n : List ℕ) × LaterMessage (parameter_of c) q m n
  whole-exists t space [] o k = absurd (false≢true o.least)
  whole-exists t space (a ∷ []) o k = absurd (false≢true o.least)
  whole-exists t space (first ∷ type ∷ s) o k = message-exists _ _ first type s k

pub exists : Exists
exists t b m x c g s =
    let k = text-is c g s.text in
    let q = parameter-exists (parameter_of c) x g k.1 in
    let y = receive-shows t m b _ s.shown in
    let w = whole-exists q.0 c k.0 s.behind t (length b) m y.0 y.1 in
    (w.0, record { parameter = q.0; becomes = q.1; around = w.1 })
