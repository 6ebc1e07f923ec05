-- What is written for a component reads back as that component.
use Prim.Native.Nat.{ℕ, ◌%◌}
use mathlib.Core.Path.{◌≡◌, refl, ◌∙◌}
use mathlib.Core.List.{List, [], ◌∷◌, ◌++◌, append-nil}
use mathlib.Core.Bool.{true, false, ◌&&◌}
use mathlib.Core.Option.{Option, none, some}
use native.Mathlib.Omega.{arith}
use borrow.Author.Tests.{leb-true, ne_eqb}
use lib.ListN.{length}
use lib.IntN.{ℤ}
use lib.Dec.{leb}
use mir.Syntax.{w8}
use mir.Val.{SFits}
use Rattle.octets.specs.Reader.{sound, took}
use Rattle.octets.proofs.TestLaws.{both}
use Rattle.elements.specs.Element.{refused_tag, element, shortest, written}
use Rattle.elements.proofs.ElementLaws.{written-reads-back}
use Rattle.codes.specs.Ids.{octet_of}
use Rattle.codes.specs.Problems.{problem_tag}
use Rattle.codes.proofs.IdLaws.{id-back}
use Rattle.places.specs.Places.{single, invoke_places, coded, rejected}
use Rattle.components.specs.Component.{Component, invoke, result, error, reject, invoke_tag, result_tag, error_tag, reject_tag, invoke_of, result_of, error_of, reject_of}
use Rattle.components.specs.Facility.{shows, after_tag, component, inside, facility}
use Rattle.components.specs.Written.{octet_place, linked_place, result_place, reject_place, contents, component_octets, result_for, IsParameter, IsSomeId, HoldsResult, Writable}

-- an element written alone
pub alone-back : (tag : ℕ) (c : List ℕ) → refused_tag tag ≡ false → element (written tag c) ≡ took (record { tag = tag; contents = c }) []
alone-back tag c h = rw (← append-nil (written tag c)) (written-reads-back tag c [] h)

-- a place of one octet, and anything behind it
pub place-back : (tag x : ℕ) (r : List ℕ) → refused_tag tag ≡ false → element (tag ∷ 0x01 ∷ x ∷ r) ≡ took (record { tag = tag; contents = x ∷ [] }) r
unfolding shortest
place-back tag x r h = written-reads-back tag (x ∷ []) r h

pub single-back : (x : ℕ) (r : List ℕ) → single 0x02 (0x02 ∷ 0x01 ∷ x ∷ r) ≡ took x r
unfolding single
single-back x r = rw (place-back 0x02 x r refl)

called-back : (linked : Option ℤ) (o : ℕ) (p : List ℕ) → IsSomeId linked → invoke_places (linked_place linked ++ octet_place 0x02 o ++ p) ≡ took (record { linked = linked; operation = o }) p
unfolding invoke_places
called-back none o p h = rw (place-back 0x02 o p refl)
called-back (some l) o p h = rw (place-back 0x80 (octet_of l) (0x02 ∷ 0x01 ∷ o ∷ p) refl, single-back o p, id-back h)

pub coded-back : (o : ℕ) (p : List ℕ) → IsParameter p → coded (0x02 ∷ 0x01 ∷ o ∷ p) ≡ sound (record { code = o; parameter = p })
unfolding coded
coded-back o p h = rw (single-back o p, h)

rejected-back : (id : Option ℤ) (r : List ℕ) → IsSomeId id → rejected (reject_place id ++ r) ≡ took id r
unfolding rejected shortest
rejected-back none r h = rw (written-reads-back 0x05 [] r refl)
rejected-back (some i) r h = rw (place-back 0x02 (octet_of i) r refl, id-back h)

reject-back : (id : Option ℤ) (tag problem : ℕ) → IsSomeId id → problem_tag tag ≡ true → refused_tag tag ≡ false → reject_of (reject_place id ++ octet_place tag problem) ≡ sound (reject id tag problem)
unfolding reject_of
reject-back id tag problem h k n = rw (rejected-back id (octet_place tag problem) h, place-back tag problem [] n, k)

result-back : (id : ℤ) (operation : Option ℕ) (p : List ℕ) → HoldsResult operation p → result_of id (result_place operation p) ≡ sound (result id operation p)
unfolding result_of
result-back id none p h = rw h
result-back id (some o) p h = rw (alone-back 0x30 (octet_place 0x02 o ++ p) refl, coded-back o p h)

-- a Facility value that is one element
pub facility-is : (tag : ℕ) (s c : List ℕ) → leb invoke_tag tag && leb tag reject_tag ≡ true → element (tag ∷ s) ≡ took (record { tag = tag; contents = c }) [] → facility (tag ∷ s) ≡ inside tag c
unfolding facility
facility-is tag s c h e = rw (h, e)

pub facility-written : (tag : ℕ) (c : List ℕ) → leb invoke_tag tag && leb tag reject_tag ≡ true → refused_tag tag ≡ false → facility (written tag c) ≡ inside tag c
facility-written tag c h n = facility-is tag (shortest (length c) ++ c) c h (alone-back tag c n)

-- a component that is read whole is shown
pub inside_is : (tag : ℕ) (s : List ℕ) (c : Component) → component tag s ≡ sound c → inside tag s ≡ shows c
unfolding inside
inside_is tag s c e = rw e

problem-tag : (tag : ℕ) → problem_tag tag ≡ true → refused_tag tag ≡ false
problem-tag tag h =
    let w = both (leb 0x80 tag) (leb tag 0x83) h in
    let l = leb-true 0x80 tag w.0 in
    let u = leb-true tag 0x83 w.1 in
    rw (ne_eqb tag 0 (λ z. omega arith), ne_eqb (tag % 32) 31 (λ z. omega arith))

-- what is written for a component reads back as that component
pub read_back : (c : Component) → Writable c → facility (component_octets c) ≡ shows c
unfolding contents component after_tag invoke_of error_of
read_back (invoke id linked operation p) h =
    facility-written invoke_tag (contents (invoke id linked operation p)) refl refl
    ∙ inside_is invoke_tag (contents (invoke id linked operation p)) (invoke id linked operation p)
    (rw (single-back (octet_of id) (linked_place linked ++ octet_place 0x02 operation ++ p), called-back linked operation p h.1.0, h.1.1, id-back h.0))
read_back (result id operation p) h =
    facility-written result_tag (contents (result id operation p)) refl refl
    ∙ inside_is result_tag (contents (result id operation p)) (result id operation p)
    (rw (single-back (octet_of id) (result_place operation p), id-back h.0) (result-back id operation p h.1))
read_back (error id code p) h =
    facility-written error_tag (contents (error id code p)) refl refl
    ∙ inside_is error_tag (contents (error id code p)) (error id code p) (rw (single-back (octet_of id) (0x02 ∷ 0x01 ∷ code ∷ p), coded-back code p h.1, id-back h.0))
read_back (reject id tag problem) h =
    facility-written reject_tag (contents (reject id tag problem)) refl refl
    ∙ inside_is reject_tag (contents (reject id tag problem)) (reject id tag problem) (reject-back id tag problem h.0 h.1 (problem-tag tag h.1))

-- a Return result without a parameter reads back without an operation
pub answer-writable : (id : ℤ) (operation : ℕ) (p : List ℕ) → SFits w8 id → IsParameter p → Writable (result_for id operation p)
unfolding result_for
answer-writable id operation [] h k = (h, refl)
answer-writable id operation (a ∷ p) h k = (h, k)
