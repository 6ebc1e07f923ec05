-- A later edition shows the same component with the longer parameter, whose text is the same and whose tail is longer.
use Prim.Native.Nat.{ℕ}
use mathlib.Core.Path.{◌≡◌, refl, sym, ap, ◌∙◌}
use mathlib.Core.List.{List, [], ◌∷◌, ◌++◌, append_assoc}
use mathlib.Core.Bool.{Bool, true, false, cond, ◌&&◌}
use mathlib.Core.Option.{Option, some}
use native.Mathlib.Omega.{arith}
use borrow.Author.Tests.{le-leb}
use lib.ListN.{length}
use lib.Seq.{take-length, drop-length}
use lib.IntN.{ℤ}
use lib.Dec.{leb, eqb}
use Rattle.octets.specs.Reader.{Answer, fault, sound, Taken, took, is_empty, alone}
use Rattle.octets.proofs.ReaderLaws.{sound-inj, through, IsLocal, done-local, seq-local, need-local, cond-local, stays, taken_is}
use Rattle.elements.specs.Element.{refused_tag, length_of, Element, element, written, row}
use Rattle.elements.proofs.ElementLaws.{length-local, element-local}
use Rattle.codes.specs.Ids.{id_of}
use Rattle.places.specs.Places.{misplaced, octet_in, single, parameter, invoke_places, Coded, coded}
use Rattle.parameters.specs.Parameter.{Text, ussd}
use Rattle.parameters.proofs.ParameterLaws.{ussd-more}
use Rattle.components.specs.Component.{Component, invoke, result, parameter_of, invoke_tag, result_tag, reject_tag, invoke_of, result_of}
use Rattle.components.specs.Facility.{shows, general, faulty_reject, found, after_tag, component, inside, facility}
use Rattle.components.specs.Written.{IsParameter}
use Rattle.components.specs.LaterEdition.{Encloses, LaterParameter, LaterFacility, in_invoke, in_result, with_parameter}
use Rattle.components.proofs.ReadBack.{alone-back, facility-is, facility-written, inside_is}

pub octet-local : (tag : ℕ) (e : Element) → IsLocal (octet_in tag e)
octet-local tag e = need-local (eqb e.tag tag) misplaced _ (need-local (eqb (length e.contents) 1) misplaced _ (done-local _))

pub single-local : (tag : ℕ) → IsLocal (single tag)
unfolding single
single-local tag = seq-local element _ element-local λ e. octet-local tag e

pub called-local : IsLocal invoke_places
unfolding invoke_places
called-local =
    seq-local element _ element-local λ e.
    cond-local (eqb e.tag 0x80) _ _
    (seq-local (octet_in 0x80 e) _ (octet-local 0x80 e) λ l. seq-local (single 0x02) _ (single-local 0x02) λ o. done-local _)
    (seq-local (octet_in 0x02 e) _ (octet-local 0x02 e) λ o. done-local _)

-- what stands before one end is one thing
pub before-is : (a b p : List ℕ) → a ++ p ≡ b ++ p → a ≡ b
before-is a b p e = sym (taken_is (a ++ p) a p refl) ∙ taken_is (a ++ p) b p e

-- an element in any form that reads
pub encloses-is : (tag : ℕ) (c s : List ℕ) → refused_tag tag ≡ false → Encloses tag c s → element s ≡ took (record { tag = tag; contents = c }) []
unfolding element
encloses-is tag c s h e =
    let l = stays length_of length-local e.form c _ e.reads in
    rw (e.is, h, l, le-leb (length c) (length c) (omega arith), take-length c, drop-length c)

-- a Facility value that encloses contents under a component's tag
facility-encloses : (tag : ℕ) (c s : List ℕ) → leb invoke_tag tag && leb tag reject_tag ≡ true → refused_tag tag ≡ false → Encloses tag c s → facility s ≡ inside tag c
facility-encloses tag c s h n e = rw e.is (facility-is tag (e.form ++ c) c h (rw (← e.is) (encloses-is tag c s n e)))

-- a component that is shown was read whole
pub shown-was : (tag : ℕ) (s : List ℕ) (c : Component) → inside tag s ≡ shows c → component tag s ≡ sound c
unfolding inside
shown-was tag s c e = go (component tag s) e
  where
    fault-hidden : (b : Bool) (n : ℕ) (i : Option ℤ) → cond b faulty_reject (general n i) ≡ shows c → fault n ≡ sound c
    fault-hidden true n i e = cc
    fault-hidden false n i e = cc

    go : (o : Answer Component) → found tag s o ≡ shows c → o ≡ sound c
    go (fault n) e = fault-hidden (eqb tag reject_tag) n _ e
    go (sound d) e = cc

-- the parameter that was read is all that was left
pub parameter-was : (s p : List ℕ) → parameter s ≡ sound p → p ≡ s
unfolding parameter
parameter-was [] p e = sym (sound-inj e)
parameter-was (a ∷ s) p e = through (alone misplaced (element (a ∷ s))) _ p e λ k u v. sym (sound-inj v)

-- a parameter written anew is one element
written-parameter : (c : List ℕ) → IsParameter (written 0x30 c)
unfolding parameter
written-parameter c = rw (alone-back 0x30 c refl)

-- another parameter behind the places of an Invoke
invoke-later : (before p q : List ℕ) (c : Component) → component invoke_tag (before ++ p) ≡ sound c → parameter_of c ≡ p → IsParameter q
    → component invoke_tag (before ++ q) ≡ sound (with_parameter q c)
unfolding component after_tag invoke_of
invoke-later before p q c e h k =
    through (single 0x02 (before ++ p)) _ c e λ i a b.
    through (invoke_places i.rest) _ c b λ g u v.
    through (parameter g.rest) _ c v λ o w z.
    let f = single-local 0x02 (before ++ p) i a in
    let l = called-local i.rest g u in
    let j : invoke (id_of i.value) g.value.linked g.value.operation o ≡ c = sound-inj z in
    let r : g.rest ≡ p = sym (parameter-was g.rest o w) ∙ ap parameter_of j ∙ h in
    let y : before ++ p ≡ (f.taken ++ l.taken) ++ p = f.split ∙ ap (λ (n : List ℕ). f.taken ++ n) (l.split ∙ ap (λ (n : List ℕ). l.taken ++ n) r) ∙ sym (append_assoc f.taken l.taken p) in
    rw (before-is before (f.taken ++ l.taken) p y, append_assoc f.taken l.taken q, f.again (l.taken ++ q), l.again q, k)
    (ap (λ (d : Component). sound (with_parameter q d)) j)

-- another parameter behind an operation or an error code
coded-later : (before p q : List ℕ) (d : Coded) → coded (before ++ p) ≡ sound d → d.parameter ≡ p → IsParameter q
    → coded (before ++ q) ≡ sound (record { code = d.code; parameter = q })
unfolding coded
coded-later before p q d e h k =
    through (single 0x02 (before ++ p)) _ d e λ o a b.
    through (parameter o.rest) _ d b λ w u z.
    let f = single-local 0x02 (before ++ p) o a in
    let j : record { code = o.value; parameter = w } ≡ d = sound-inj z in
    let r : o.rest ≡ p = sym (parameter-was o.rest w u) ∙ ap (λ (n : Coded). n.parameter) j ∙ h in
    rw (before-is before f.taken p (f.split ∙ ap (λ (n : List ℕ). f.taken ++ n) r), f.again q, k)
    (ap (λ (n : Coded). sound (record { code = n.code; parameter = q })) j)

-- another parameter in the 30 of a Return result
thirty-later : (id : ℤ) (operation p q thirty : List ℕ) (c : Component) → Encloses 0x30 (operation ++ p) thirty → result_of id thirty ≡ sound c → parameter_of c ≡ p → IsParameter q
    → result_of id (written 0x30 (operation ++ q)) ≡ sound (with_parameter q c)
unfolding result_of
thirty-later id operation p q thirty c s e h k =
    let m = encloses-is 0x30 (operation ++ p) thirty refl s in
    let n : is_empty thirty ≡ false = rw s.is in
    through (coded (operation ++ p)) _ c (rw (n, m) at e) λ d u v.
    let j : result id (some d.code) d.parameter ≡ c = sound-inj v in
    rw (alone-back 0x30 (operation ++ q) refl, coded-later operation p q d u (ap parameter_of j ∙ h) k) (ap (λ (y : Component). sound (with_parameter q y)) j)

result-later : (id : List ℕ) (x : ℕ) (operation p q thirty : List ℕ) (c : Component) → single 0x02 id ≡ took x [] → Encloses 0x30 (operation ++ p) thirty
    → component result_tag (id ++ thirty) ≡ sound c → parameter_of c ≡ p → IsParameter q
    → component result_tag (id ++ written 0x30 (operation ++ q)) ≡ sound (with_parameter q c)
unfolding component after_tag
result-later id x operation p q thirty c i s e h k =
    rw (stays (single 0x02) (single-local 0x02) id (written 0x30 (operation ++ q)) _ i)
    (thirty-later (id_of x) operation p q thirty c s (rw (stays (single 0x02) (single-local 0x02) id thirty _ i) at e) h k)

-- a later edition of a component: the same kind, ids and operation, and the longer parameter
pub later-component : {s t : List ℕ} (p q : List ℕ) (c : Component) → LaterFacility p q s t → IsParameter q → facility s ≡ shows c → parameter_of c ≡ p
    → facility t ≡ shows (with_parameter q c)
later-component p q c e k f h = go p q c e k f h
  where
    go : (p q : List ℕ) {s t : List ℕ} (c : Component) → LaterFacility p q s t → IsParameter q → facility s ≡ shows c → parameter_of c ≡ p
        → facility t ≡ shows (with_parameter q c)
    go p q c (in_invoke {s = s} before e) k f h =
        facility-written invoke_tag (before ++ q) refl refl
        ∙ inside_is invoke_tag (before ++ q) (with_parameter q c)
        (invoke-later before p q c (shown-was invoke_tag (before ++ p) c (sym (facility-encloses invoke_tag (before ++ p) s refl refl e) ∙ f)) h k)
    go p q c (in_result {s = s} id x operation thirty i e a) k f h =
        facility-written result_tag (id ++ written 0x30 (operation ++ q)) refl refl
        ∙ inside_is result_tag (id ++ written 0x30 (operation ++ q)) (with_parameter q c)
        (result-later id x operation p q thirty c i e (shown-was result_tag (id ++ thirty) c (sym (facility-encloses result_tag (id ++ thirty) s refl refl a) ∙ f)) h k)

-- and its text is the same: the tail is the old one followed by x
pub later-text : (p x q : List ℕ) (g : Taken Text) → LaterParameter p x q → ussd p ≡ sound g → row x ≡ true → ussd q ≡ took g.value (g.rest ++ x)
later-text p x q g l u r =
    let e = encloses-is 0x30 l.contents p refl l.was in
    rw l.becomes (ussd-more p l.contents x g (rw e) u r)

pub later-edition : {s t : List ℕ} (p x q : List ℕ) (c : Component) (g : Taken Text) → LaterFacility p q s t → LaterParameter p x q → row x ≡ true
    → facility s ≡ shows c → parameter_of c ≡ p → ussd p ≡ sound g
    → (facility t ≡ shows (with_parameter q c)) × (ussd q ≡ took g.value (g.rest ++ x))
later-edition p x q c g f l r e h u = (later-component p q c f (rw l.becomes (written-parameter (l.contents ++ x))) e h, later-text p x q g l u r)
