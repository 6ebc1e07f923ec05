-- A message has one later edition for each row of elements.
use Prim.Native.Nat.{ℕ}
use mathlib.Core.Path.{◌≡◌, refl, sym, ap, ◌∙◌, subst}
use mathlib.Core.List.{List, [], ◌∷◌, ◌++◌}
use mathlib.Core.Bool.{false}
use native.Mathlib.Omega.{arith}
use lib.ListN.{length, get_or, drop}
use Rattle.octets.specs.Reader.{Taken, took}
use Rattle.octets.proofs.ReaderLaws.{sound-inj, stays}
use Rattle.elements.specs.Element.{refused_tag, Element, written}
use Rattle.places.specs.Places.{single}
use Rattle.components.specs.Component.{parameter_of, invoke_tag, result_tag}
use Rattle.components.specs.LaterEdition.{Encloses, LaterParameter, LaterFacility, in_invoke, in_result}
use Rattle.components.proofs.LaterLaws.{single-local, before-is, encloses-is}
use Rattle.messages.specs.Scan.{first_taken}
use Rattle.messages.specs.LaterEdition.{Passed}
use Rattle.messages.proofs.ScanLaws.{sized-back}
use Rattle.messages.specs.Layout.{sized, register_type, facility_type, release_type}
use Rattle.promises.specs.LaterEdition.{LaterMessage, in_register, in_facility, in_release, IsOne}
use Rattle.telephone.proofs.Shown.{some_inj, first-is}

-- an element has one tag and one contents
encloses-one : (tag tag' : ℕ) (a b s : List ℕ) → refused_tag tag ≡ false → refused_tag tag' ≡ false → Encloses tag a s → Encloses tag' b s → (tag ≡ tag') × (a ≡ b)
encloses-one tag tag' a b s h k e f =
    let z = sound-inj (sym (encloses-is tag a s h e) ∙ encloses-is tag' b s k f) in
    (ap (λ (g : Taken Element). g.value.tag) z, ap (λ (g : Taken Element). g.value.contents) z)

parameter-one : (p x q r : List ℕ) → LaterParameter p x q → LaterParameter p x r → q ≡ r
parameter-one p x q r l k =
    l.becomes
    ∙ ap (λ (a : List ℕ). written 0x30 (a ++ x)) (encloses-one 0x30 0x30 l.contents k.contents p refl refl l.was k.was).1
    ∙ sym k.becomes

-- the id, and what stands behind it
id-one : (id id' a b : List ℕ) (o o' : ℕ) → single 0x02 id ≡ took o [] → single 0x02 id' ≡ took o' [] → id ++ a ≡ id' ++ b → (id ≡ id') × (a ≡ b)
id-one id id' a b o o' h k e =
    let z : a ≡ b = ap (λ (g : Taken ℕ). g.rest)
    (sound-inj (sym (stays (single 0x02) (single-local 0x02) id a _ h) ∙ ap (single 0x02) e ∙ stays (single 0x02) (single-local 0x02) id' b _ k)) in
    (before-is id id' a (e ∙ ap (λ (r : List ℕ). id' ++ r) (sym z)), z)

facility-one : {p q s t u : List ℕ} → LaterFacility p q s t → LaterFacility p q s u → t ≡ u
facility-one {p} {q} {s} (in_invoke before e) (in_invoke before' f) =
    ap (λ (a : List ℕ). written invoke_tag (a ++ q)) (before-is before before' p (encloses-one invoke_tag invoke_tag (before ++ p) (before' ++ p) s refl refl e f).1)
facility-one {p} {q} {s} (in_invoke before e) (in_result id o operation thirty i f a) =
    absurd (omega (arith, (encloses-one invoke_tag result_tag (before ++ p) (id ++ thirty) s refl refl e a).0))
facility-one {p} {q} {s} (in_result id o operation thirty i f a) (in_invoke before e) =
    absurd (omega (arith, (encloses-one invoke_tag result_tag (before ++ p) (id ++ thirty) s refl refl e a).0))
facility-one {p} {q} {s} (in_result id o operation thirty i f a) (in_result id' o' operation' thirty' i' f' a') =
    let z = id-one id id' thirty thirty' o o' i i' (encloses-one result_tag result_tag (id ++ thirty) (id' ++ thirty') s refl refl a a').1 in
    let y = (encloses-one 0x30 0x30 (operation ++ p) (operation' ++ p) thirty refl refl f (subst (λ (w : List ℕ). Encloses 0x30 (operation' ++ p) w) (sym z.1) f')).1 in
    let x = before-is operation operation' p y in
    λ j. written result_tag (z.0 j ++ written 0x30 (x j ++ q))

-- the length, the value and what stands behind it
tail-one : {p q s s' t t' : List ℕ} (behind behind' : List ℕ) → LaterFacility p q s t → LaterFacility p q s' t' → s ≡ s' → behind ≡ behind'
    → length t ∷ (t ++ behind) ≡ length t' ∷ (t' ++ behind')
tail-one {p} {q} {s} {s'} {t} {t'} behind behind' f f' e h =
    let z : t ≡ t' = facility-one f (subst (λ (w : List ℕ). LaterFacility p q w t') (sym e) f') in
    λ j. length (z j) ∷ (z j ++ h j)

sized-one : {p q s s' t t' : List ℕ} (behind behind' : List ℕ) → LaterFacility p q s t → LaterFacility p q s' t'
    → length s ∷ (s ++ behind) ≡ length s' ∷ (s' ++ behind') → length t ∷ (t ++ behind) ≡ length t' ∷ (t' ++ behind')
sized-one {p} {q} {s} {s'} behind behind' f f' e =
    let z = sound-inj (sym (sized-back s behind) ∙ ap sized e ∙ sized-back s' behind') in
    tail-one behind behind' f f' (ap (λ (g : Taken (List ℕ)). g.value) z) (ap (λ (g : Taken (List ℕ)). g.rest) z)

release-one : {p q before before' s s' t t' : List ℕ} (behind behind' : List ℕ) → Passed 0x1C before → Passed 0x1C before' → LaterFacility p q s t → LaterFacility p q s' t'
    → before ++ (0x1C ∷ length s ∷ (s ++ behind)) ≡ before' ++ (0x1C ∷ length s' ∷ (s' ++ behind'))
    → before ++ (0x1C ∷ length t ∷ (t ++ behind)) ≡ before' ++ (0x1C ∷ length t' ∷ (t' ++ behind'))
release-one {p} {q} {before} {before'} {s} {s'} behind behind' h h' f f' e =
    let z = some_inj (sym (first-is s behind h) ∙ ap (first_taken 0x1C) e ∙ first-is s' behind' h') in
    let v = ap (λ (g : Taken (List ℕ)). g.value) z in
    let r = ap (λ (g : Taken (List ℕ)). g.rest) z in
    let b = before-is before before' (0x1C ∷ length s ∷ (s ++ behind)) (e ∙ λ j. before' ++ (0x1C ∷ length (sym v j) ∷ (sym v j ++ sym r j))) in
    let y = tail-one behind behind' f f' v r in
    λ j. b j ++ (0x1C ∷ y j)

second : {m n : List ℕ} → m ≡ n → get_or m 1 0 ≡ get_or n 1 0
second e = ap (λ (l : List ℕ). get_or l 1 0) e

message-one : {p q m n m₁ m₂ : List ℕ} → LaterMessage p q m m₁ → LaterMessage p q n m₂ → m ≡ n → m₁ ≡ m₂
message-one (in_register first f behind) (in_register first' f' behind') e =
    let z = sized-one behind behind' f f' (ap (drop 3) e) in
    λ j. get_or (e j) 0 0 ∷ register_type ∷ 0x1C ∷ z j
message-one (in_facility first f behind) (in_facility first' f' behind') e =
    let z = sized-one behind behind' f f' (ap (drop 2) e) in
    λ j. get_or (e j) 0 0 ∷ facility_type ∷ z j
message-one (in_release first h f behind) (in_release first' h' f' behind') e =
    let z = release-one behind behind' h h' f f' (ap (drop 2) e) in
    λ j. get_or (e j) 0 0 ∷ release_type ∷ z j
message-one (in_register first f behind) (in_facility first' f' behind') e = absurd (omega (arith, second e))
message-one (in_register first f behind) (in_release first' h' f' behind') e = absurd (omega (arith, second e))
message-one (in_facility first f behind) (in_register first' f' behind') e = absurd (omega (arith, second e))
message-one (in_facility first f behind) (in_release first' h' f' behind') e = absurd (omega (arith, second e))
message-one (in_release first h f behind) (in_register first' f' behind') e = absurd (omega (arith, second e))
message-one (in_release first h f behind) (in_facility first' f' behind') e = absurd (omega (arith, second e))

pub is_one_lem : IsOne
is_one_lem x m m₁ m₂ c e f =
    let z = parameter-one (parameter_of c) x f.parameter e.parameter f.becomes e.becomes in
    message-one e.around (subst (λ (q : List ℕ). LaterMessage (parameter_of c) q m m₂) z f.around) refl
