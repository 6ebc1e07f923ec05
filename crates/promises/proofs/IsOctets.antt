-- A later edition of octets, with octets appended and up to 255 long, is octets.
use Prim.Native.Nat.{ℕ, ◌≤◌, ◌<◌}
use mathlib.Core.Path.{subst}
use mathlib.Core.List.{List, [], ◌∷◌, ◌++◌}
use native.Mathlib.Omega.{arith}
use lib.ListN.{length, length-append}
use Rattle.octets.specs.Octets.{Octets}
use Rattle.octets.proofs.OctetsLaws.{octets-append}
use Rattle.elements.specs.Element.{shortest, written}
use Rattle.elements.proofs.ElementLaws.{shortest-octets}
use Rattle.components.specs.Component.{parameter_of, invoke_tag, result_tag}
use Rattle.components.specs.LaterEdition.{Encloses, LaterParameter, LaterFacility, in_invoke, in_result}
use Rattle.promises.specs.LaterEdition.{LaterMessage, in_register, in_facility, in_release, IsOctets}

pub octets-front : (s t : List ℕ) → Octets (s ++ t) → Octets s
octets-front [] t h = tt
octets-front (a ∷ s) t h = (h.0, octets-front s t h.1)

pub octets-behind : (s t : List ℕ) → Octets (s ++ t) → Octets t
octets-behind [] t h = h
octets-behind (a ∷ s) t h = octets-behind s t h.1

-- what is enclosed is no longer than what encloses it
written-length : (tag : ℕ) (s : List ℕ) → length s ≤ length (written tag s)
written-length tag s = simp length-append (omega arith)

behind-length : (s t : List ℕ) → length t ≤ length (s ++ t)
behind-length s t = simp length-append (omega arith)

written-octets : (tag : ℕ) (s : List ℕ) → tag < 256 → length (written tag s) ≤ 255 → Octets s → Octets (written tag s)
written-octets tag s h l o = (h, octets-append (shortest (length s)) s (shortest-octets (length s) (omega (arith, written-length tag s))) o)

enclosed-octets : (tag : ℕ) (contents s : List ℕ) → Encloses tag contents s → Octets s → Octets contents
enclosed-octets tag contents s e o = let k : Octets (tag ∷ (e.form ++ contents)) = subst Octets e.is o in octets-behind e.form contents k.1

facility-length : {p q s t : List ℕ} → LaterFacility p q s t → length q ≤ length t
facility-length {p} {q} (in_invoke before e) = omega (arith, behind-length before q, written-length invoke_tag (before ++ q))
facility-length {p} {q} (in_result id octet operation thirty i e a) =
    omega (arith, behind-length operation q, written-length 0x30 (operation ++ q), behind-length id (written 0x30 (operation ++ q)), written-length result_tag (id ++ written 0x30 (operation ++ q)))

parameter-octets : {p q s t : List ℕ} → LaterFacility p q s t → Octets s → Octets p
parameter-octets {p} {q} {s} (in_invoke before e) o = octets-behind before p (enclosed-octets invoke_tag (before ++ p) s e o)
parameter-octets {p} {q} {s} (in_result id octet operation thirty i e a) o =
    octets-behind operation p (enclosed-octets 0x30 (operation ++ p) thirty e (octets-behind id thirty (enclosed-octets result_tag (id ++ thirty) s a o)))

longer-octets : (p x q : List ℕ) → LaterParameter p x q → Octets p → Octets x → length q ≤ 255 → Octets q
longer-octets p x q l o h n =
    rw l.becomes
    (written-octets 0x30 (l.contents ++ x) (omega arith) (rw l.becomes at n) (octets-append l.contents x (enclosed-octets 0x30 l.contents p l.was o) h))

around-octets : {p q s t : List ℕ} → LaterFacility p q s t → Octets s → Octets q → length t ≤ 255 → Octets t
around-octets {p} {q} {s} (in_invoke before e) o h n =
    let k = octets-front before p (enclosed-octets invoke_tag (before ++ p) s e o) in
    written-octets invoke_tag (before ++ q) (omega arith) n (octets-append before q k h)
around-octets {p} {q} {s} (in_result id octet operation thirty i e a) o h n =
    let k = enclosed-octets result_tag (id ++ thirty) s a o in
    let j = octets-front operation p (enclosed-octets 0x30 (operation ++ p) thirty e (octets-behind id thirty k)) in
    let l = behind-length id (written 0x30 (operation ++ q)) in
    let m = written-length result_tag (id ++ written 0x30 (operation ++ q)) in
    written-octets result_tag (id ++ written 0x30 (operation ++ q)) (omega arith) n
    (octets-append id (written 0x30 (operation ++ q)) (octets-front id thirty k)
    (written-octets 0x30 (operation ++ q) (omega arith) (omega arith) (octets-append operation q j h)))

facility-octets : {p q s t : List ℕ} (x : List ℕ) → LaterParameter p x q → LaterFacility p q s t → Octets s → Octets x → length t ≤ 255 → Octets t
facility-octets {p} {q} x l f o h n = around-octets f o (longer-octets p x q l (parameter-octets f o) h (omega (arith, facility-length f))) n

-- the length's one octet, the value and what stands behind it
sized-octets : {p q s t : List ℕ} (x behind : List ℕ) → LaterParameter p x q → LaterFacility p q s t → Octets (s ++ behind) → Octets x → length (t ++ behind) ≤ 255
    → Octets (length t ∷ (t ++ behind))
sized-octets {p} {q} {s} {t} x behind l f o h n =
    let k : length t ≤ 255 = omega (arith, length-append t behind) in
    (omega arith, octets-append t behind (facility-octets x l f (octets-front s behind o) h k) (octets-behind s behind o))

pub is-octets : IsOctets
is-octets x m m' c o h e n = go e.around o n
  where
    go : {m m' : List ℕ} → LaterMessage (parameter_of c) e.parameter m m' → Octets m → length m' ≤ 255 → Octets m'
    go (in_register first f behind) o n = (o.0, (o.1.0, (o.1.1.0, sized-octets x behind e.becomes f o.1.1.1.1 h (omega arith))))
    go (in_facility first f behind) o n = (o.0, (o.1.0, sized-octets x behind e.becomes f o.1.1.1 h (omega arith)))
    go (in_release first {before} {s} {t} p f behind) o n =
        let k = octets-behind before (0x1C ∷ length s ∷ (s ++ behind)) o.1.1 in
        let i : length (t ++ behind) ≤ 255 = omega (arith, length-append before (0x1C ∷ length t ∷ (t ++ behind))) in (
          o.0,
          (
            o.1.0,
            octets-append before (0x1C ∷ length t ∷ (t ++ behind)) (octets-front before (0x1C ∷ length s ∷ (s ++ behind)) o.1.1)
                (k.0, sized-octets x behind e.becomes f k.1.1 h i),
          ),
        )
