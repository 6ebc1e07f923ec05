-- A fault carries an id exactly when 02 01 xx, in any length form, stood in its place under A1, A2 or A3.
use Prim.Native.Nat.{ℕ}
use mathlib.Core.Path.{◌≡◌, refl, sym, ap, ◌∙◌}
use mathlib.Core.List.{List, []}
use mathlib.Core.Bool.{Bool, true, false, cond, ◌&&◌}
use mathlib.Core.Option.{Option, none, some}
use native.Mathlib.Omega.{arith}
use lib.ListN.{get_or}
use lib.IntN.{ℤ}
use lib.Dec.{leb, eqb}
use Rattle.octets.specs.Reader.{Answer, fault, sound, Taken, took, is_empty}
use Rattle.octets.proofs.ReaderLaws.{empty-is}
use Rattle.elements.specs.Element.{Element, element}
use Rattle.codes.specs.Ids.{id_of}
use Rattle.places.specs.Places.{single}
use Rattle.components.specs.Component.{Component, invoke_tag, reject_tag}
use Rattle.components.specs.Facility.{empty, general, left_over, faulty_reject, id_read, found, component, inside, outer, facility}

never : {C : Type 0} → ◌≡◌ {A = ℕ} 0 1 → C
never e = absurd (omega arith)

-- an id that was read stood in its place
pub id-stood : (o : Answer (Taken ℕ)) (i : ℤ) → id_read o ≡ some i → (g : Taken ℕ) × (o ≡ sound g) × (id_of g.value ≡ i)
id-stood (fault n) i e = never cc
id-stood (sound g) i e = (g, refl, cc)

faulty-is : (b : Bool) (m n : ℕ) (i j : Option ℤ) → cond b faulty_reject (general m j) ≡ general n i → (i ≡ j) × (b ≡ false)
faulty-is true m n i j e = never cc
faulty-is false m n i j e = (cc, refl)

-- inside: the id is the one that stands first, and the outer tag is not that of a Reject
pub inside-id : (tag n : ℕ) (s : List ℕ) (i : Option ℤ) → inside tag s ≡ general n i → (i ≡ id_read (single 0x02 s)) × (eqb tag reject_tag ≡ false)
unfolding inside
inside-id tag n s i e = go (component tag s) e
  where
    go : (o : Answer Component) → found tag s o ≡ general n i → (i ≡ id_read (single 0x02 s)) × (eqb tag reject_tag ≡ false)
    go (fault m) h = faulty-is (eqb tag reject_tag) m n i (id_read (single 0x02 s)) h
    go (sound c) h = never cc

-- of a whole Facility value: the one component in it has that id in its place
pub facility-id : (s : List ℕ) (n : ℕ) (i : ℤ) → facility s ≡ general n (some i)
    → (e : Element) × (element s ≡ took e []) × (id_read (single 0x02 e.contents) ≡ some i) × (eqb (get_or s 0 0) reject_tag ≡ false)
unfolding facility
facility-id s n i h = top (is_empty s) (leb invoke_tag (get_or s 0 0) && leb (get_or s 0 0) reject_tag) h
  where
    Told : Type 0
    Told = (e : Element) × (element s ≡ took e []) × (id_read (single 0x02 e.contents) ≡ some i) × (eqb (get_or s 0 0) reject_tag ≡ false)

    in_one_lem : (e : Taken Element) (b : Bool) → is_empty e.rest ≡ b → element s ≡ sound e → cond b (inside (get_or s 0 0) e.value.contents) left_over ≡ general n (some i) → Told
    in_one_lem e true r q k =
        let w = inside-id (get_or s 0 0) n e.value.contents (some i) k in
        (e.value, q ∙ ap (λ (t : List ℕ). took e.value t) (empty-is e.rest r), sym w.0, w.1)
    in_one_lem e false r q k = never cc

    of-outer : (o : Answer (Taken Element)) → element s ≡ o → outer (get_or s 0 0) o ≡ general n (some i) → Told
    of-outer (fault m) q k = let w = faulty-is (eqb (get_or s 0 0) reject_tag) 2 n (some i) none k in never cc
    of-outer (sound e) q k = in_one_lem e (is_empty e.rest) refl q k

    top : (a b : Bool) → cond a empty (cond b (outer (get_or s 0 0) (element s)) (general 0 none)) ≡ general n (some i) → Told
    top true b k = never cc
    top false true k = of-outer (element s) refl k
    top false false k = never cc
