-- What a Facility value that was read was made of, and that its parameter stands at its end.
use Prim.Native.Nat.{ℕ}
use mathlib.Core.Path.{◌≡◌, refl, sym, ap, ◌∙◌, subst}
use mathlib.Core.List.{List, [], ◌∷◌, ◌++◌, append-nil}
use mathlib.Core.Bool.{Bool, true, false, cond, not, ◌&&◌, false≢true}
use mathlib.Core.Option.{Option, none}
use lib.ListN.{length, get_or}
use lib.IntN.{ℤ}
use lib.Dec.{leb, eqb}
use Rattle.octets.specs.Reader.{Answer, fault, sound, Taken, took, front, is_empty, alone}
use Rattle.octets.proofs.ReaderLaws.{sound-inj, not_sound, through, passed, empty-is, front-was, branch}
use Rattle.octets.proofs.EndLaws.{Ends, further-ends}
use Rattle.elements.specs.Element.{refused_tag, unreadable, length_of, Element, element}
use Rattle.elements.proofs.ElementLaws.{length-local, alone-ends}
use Rattle.codes.specs.Ids.{id_of}
use Rattle.codes.specs.Problems.{problem_tag}
use Rattle.places.specs.Places.{misplaced, single, parameter, invoke_places, Coded, coded, rejected}
use Rattle.components.specs.Component.{Component, parameter_of, invoke_tag, result_tag, reject_tag, invoke_of, result_of, error_of, reject_of}
use Rattle.components.specs.Facility.{Finding, empty, shows, general, left_over, faulty_reject, after_tag, component, inside, outer, facility}
use Rattle.components.specs.LaterEdition.{Encloses}
use Rattle.components.proofs.LaterLaws.{single-local, called-local, shown-was, parameter-was}

-- an element that was read alone encloses its contents
pub encloses-of : (tag : ℕ) (contents s : List ℕ) → element s ≡ took (record { tag = tag; contents = contents }) [] → Encloses tag contents s
unfolding element
encloses-of tag contents [] e = not_sound e
encloses-of tag contents (a ∷ s) e =
    passed (not (refused_tag a)) unreadable _ _ e λ n h.
    through (length_of s) _ _ h λ k u v.
    through (front unreadable k.value k.rest) _ _ v λ f y z.
    let l = length-local s k u in
    let w = front-was unreadable k.value k.rest f y in
    let d = sound-inj z in
    let t : a ≡ tag = ap (λ (g : Taken Element). g.value.tag) d in
    let c : f.value ≡ contents = ap (λ (g : Taken Element). g.value.contents) d in
    let r : f.rest ≡ [] = ap (λ (g : Taken Element). g.rest) d in
    let q : s ≡ l.taken ++ contents = l.split ∙ ap (λ (x : List ℕ). l.taken ++ x) (w.0 ∙ (λ i. c i ++ r i) ∙ append-nil contents) in
    record {
      form = l.taken;
      reads = sym (ap length_of (append-nil l.taken)) ∙ l.again [] ∙ ap (λ (x : ℕ). took x []) (sym w.1 ∙ ap length c);
      is = λ i. t i ∷ q i;
    }

-- only one kind of finding is a component
abbrev is_shown : Finding → Bool
is_shown empty = false
is_shown (shows c) = true
is_shown (general number id) = false
is_shown left_over = false
is_shown faulty_reject = false

not-shown : {C : Type 0} {f : Finding} (c : Component) → is_shown f ≡ false → f ≡ shows c → C
not-shown c h e = absurd (false≢true (sym h ∙ ap is_shown e))

-- a Facility value that shows a component is one element, and its contents are the component's
pub facility-was : {C : Type 0} (s : List ℕ) (c : Component) → facility s ≡ shows c → ((tag : ℕ) (contents : List ℕ) → Encloses tag contents s → component tag contents ≡ sound c → C) → C
unfolding facility
facility-was [] c e next = not-shown c refl e
facility-was {C} (a ∷ s) c e next = ranged (leb invoke_tag a && leb a reject_tag) e
  where
    faulty-hides : (b : Bool) (n : ℕ) (i : Option ℤ) → cond b faulty_reject (general n i) ≡ shows c → C
    faulty-hides true n i k = not-shown c refl k
    faulty-hides false n i k = not-shown c refl k

    ended : (g : Taken Element) (b : Bool) → is_empty g.rest ≡ b → element (a ∷ s) ≡ sound g → cond b (inside a g.value.contents) left_over ≡ shows c → C
    ended g true i p k =
        let y = encloses-of g.value.tag g.value.contents (a ∷ s) (p ∙ λ j. took g.value (empty-is g.rest i j)) in
        let t : g.value.tag ≡ a = sym (ap (λ (l : List ℕ). get_or l 0 0) y.is) in
        next a g.value.contents (subst (λ (n : ℕ). Encloses n g.value.contents (a ∷ s)) t y) (shown-was a g.value.contents c k)
    ended g false i p k = not-shown c refl k

    read : (o : Answer (Taken Element)) → element (a ∷ s) ≡ o → outer a o ≡ shows c → C
    read (fault n) p k = faulty-hides (eqb a reject_tag) unreadable none k
    read (sound g) p k = ended g (is_empty g.rest) refl p k

    ranged : (b : Bool) → cond b (outer a (element (a ∷ s))) (general 0 none) ≡ shows c → C
    ranged true k = read (element (a ∷ s)) refl k
    ranged false k = not-shown c refl k

pub coded-was : (s : List ℕ) (d : Coded) → coded s ≡ sound d → (operation : List ℕ) × (s ≡ operation ++ d.parameter)
unfolding coded
coded-was s d e =
    through (single 0x02 s) _ d e λ o a b.
    through (parameter o.rest) _ d b λ w u z.
    let f = single-local 0x02 s o a in
    let r : o.rest ≡ d.parameter = sym (parameter-was o.rest w u) ∙ ap (λ (n : Coded). n.parameter) (sound-inj z) in
    (f.taken, f.split ∙ ap (λ (n : List ℕ). f.taken ++ n) r)

nothing_ends : (s : List ℕ) (c d : Component) → d ≡ c → parameter_of d ≡ [] → Ends (parameter_of c) s
nothing_ends s c d e f = (s, sym (append-nil s) ∙ ap (λ (l : List ℕ). s ++ l) (sym f ∙ ap parameter_of e))

coded-ends : (s : List ℕ) (d : Coded) (c : Component) → coded s ≡ sound d → d.parameter ≡ parameter_of c → Ends (parameter_of c) s
coded-ends s d c e f = let w = coded-was s d e in (w.0, w.1 ∙ ap (λ (x : List ℕ). w.0 ++ x) f)

reject-ends : (s : List ℕ) (c : Component) → reject_of s ≡ sound c → Ends (parameter_of c) s
unfolding reject_of
reject-ends s c e =
    through (rejected s) _ c e λ i a b.
    through (alone misplaced (element i.rest)) _ c b λ g u v.
    passed (problem_tag g.tag) misplaced _ c v λ t w.
    passed (eqb (length g.contents) 1) misplaced _ c w λ n z.
    nothing_ends s c _ (sound-inj z) refl

invoke-ends : (id : ℤ) (s : List ℕ) (c : Component) → invoke_of id s ≡ sound c → Ends (parameter_of c) s
unfolding invoke_of
invoke-ends id s c e =
    through (invoke_places s) _ c e λ g u v.
    through (parameter g.rest) _ c v λ o w z.
    let l = called-local s g u in
    let r : g.rest ≡ parameter_of c = sym (parameter-was g.rest o w) ∙ ap parameter_of (sound-inj z) in
    (l.taken, l.split ∙ ap (λ (n : List ℕ). l.taken ++ n) r)

result-ends : (id : ℤ) (s : List ℕ) (c : Component) → result_of id s ≡ sound c → Ends (parameter_of c) s
unfolding result_of
result-ends id s c e =
    branch (is_empty s) _ _ c e (λ _ k. nothing_ends s c _ (sound-inj k) refl) λ _ k.
    through (element s) _ c k λ g p k₁.
    passed (eqb g.value.tag 0x30) misplaced _ c k₁ λ t k₂.
    through (coded g.value.contents) _ c k₂ λ d u k₃.
    passed (is_empty g.rest) misplaced _ c k₃ λ n k₄.
    further-ends (parameter_of c) g.value.contents s (coded-ends g.value.contents d c u (ap parameter_of (sound-inj k₄))) (alone-ends s g p n)

error-ends : (id : ℤ) (s : List ℕ) (c : Component) → error_of id s ≡ sound c → Ends (parameter_of c) s
unfolding error_of
error-ends id s c e = through (coded s) _ c e λ d a b. coded-ends s d c a (ap parameter_of (sound-inj b))

component-ends : (tag : ℕ) (s : List ℕ) (c : Component) → component tag s ≡ sound c → Ends (parameter_of c) s
unfolding component after_tag
component-ends tag s c e =
    branch (eqb tag reject_tag) (reject_of s) _ c e (λ _ v. reject-ends s c v) λ _ v.
    through (single 0x02 s) _ c v λ i a b.
    let f = single-local 0x02 s i a in
    further-ends (parameter_of c) i.rest s
    (branch (eqb tag invoke_tag) (invoke_of (id_of i.value) i.rest) _ c b (λ _ z. invoke-ends (id_of i.value) i.rest c z) λ _ z.
    branch (eqb tag result_tag) (result_of (id_of i.value) i.rest) (error_of (id_of i.value) i.rest) c z
    (λ _ y. result-ends (id_of i.value) i.rest c y) (λ _ y. error-ends (id_of i.value) i.rest c y))
    (f.taken, f.split)

pub facility-ends : (s : List ℕ) (c : Component) → facility s ≡ shows c → Ends (parameter_of c) s
facility-ends s c e = facility-was s c e λ tag contents k u. further-ends (parameter_of c) contents s (component-ends tag contents c u) (tag ∷ k.form, k.is)
