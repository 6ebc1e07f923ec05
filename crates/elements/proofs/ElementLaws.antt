-- One element: it looks only at what it takes, what is written reads back, and the shortest form is the shortest.
use Prim.Native.Nat.{ℕ, ◌+◌, ◌*◌, ◌/◌, ◌%◌, ◌≤◌, ◌<◌}
use mathlib.Core.Path.{◌≡◌, refl, ap, ◌∙◌}
use mathlib.Core.List.{List, [], ◌∷◌, ◌++◌, append_assoc, append-nil}
use mathlib.Core.Bool.{Bool, true, false, not}
use native.Mathlib.Omega.{arith}
use native.Mathlib.Nat.{div-add-mod'}
use lib.ListN.{length}
use lib.Dec.{ltb, eqb}
use borrow.Author.Tests.{ltb-true, ltb-false, lt-ltb, le-ltb}
use Rattle.octets.specs.Octets.{Octets}
use Rattle.octets.specs.Reader.{sound, Taken, took, done, octet, front, is_empty}
use Rattle.octets.proofs.ReaderLaws.{sound-inj, not_sound, through, passed, IsLocal, done-local, seq-local, need-local, cond-local, octet-local, front-local, front-back, stays, either, front-was, empty-is}
use Rattle.octets.proofs.EndLaws.{Ends}
use Rattle.elements.specs.Element.{missing, unreadable, refused_tag, two_octets, length_of, Element, element, shortest, written}

pub length-local : IsLocal length_of
unfolding length_of
length-local =
    seq-local (octet unreadable) _ (octet-local unreadable) λ first.
    cond-local (ltb first 0x80) _ _ (done-local first)
    (cond-local (eqb first 0x81) _ _ (octet-local unreadable)
    (need-local (eqb first 0x82) unreadable _
    (seq-local (octet unreadable) _ (octet-local unreadable) λ high.
    seq-local (octet unreadable) _ (octet-local unreadable) λ low.
    done-local (high * 256 + low))))

pub element-local : IsLocal element
unfolding element
element-local =
    seq-local (octet missing) _ (octet-local missing) λ tag.
    need-local (not (refused_tag tag)) unreadable _
    (seq-local length_of _ length-local λ n.
    seq-local (front unreadable n) _ (front-local unreadable n) λ contents.
    done-local (record { tag = tag; contents = contents }))

-- an element read stays the same with anything appended behind it
pub element-stays : (s x : List ℕ) (g : Taken Element) → element s ≡ sound g → element (s ++ x) ≡ took g.value (g.rest ++ x)
element-stays = stays element element-local

-- by the size of a length: each of the three forms
pub by_form : {P : Type 0} (n : ℕ) → (ltb n 128 ≡ true → P) → (ltb n 128 ≡ false → ltb n 256 ≡ true → P) → (ltb n 128 ≡ false → ltb n 256 ≡ false → P) → P
by_form {P} n short long longest = go (ltb n 128) (ltb n 256) refl refl
  where
    go : (a b : Bool) → ltb n 128 ≡ a → ltb n 256 ≡ b → P
    go true b p q = short p
    go false true p q = long p q
    go false false p q = longest p q

-- a length that is written reads back
pub length-reads-back : (n : ℕ) (s : List ℕ) → length_of (shortest n ++ s) ≡ took n s
unfolding length_of shortest
length-reads-back n s =
    by_form n (λ p. simp p) (λ p q. rw (p, q)) (λ p q. rw (p, q, div-add-mod'))

-- an element that is written reads back, whatever stands behind it
pub written-reads-back : (tag : ℕ) (contents rest : List ℕ) → refused_tag tag ≡ false
    → element (written tag contents ++ rest) ≡ took (record { tag = tag; contents = contents }) rest
unfolding element
written-reads-back tag contents rest h =
    rw (h, append_assoc (shortest (length contents)) contents rest, length-reads-back, front-back unreadable contents rest (length contents) refl)

-- what is written is octets
pub shortest-octets : (n : ℕ) → n < 65536 → Octets (shortest n)
unfolding shortest
shortest-octets n h =
    by_form n
    (λ p. rw p (omega (arith, ltb-true), tt))
    (λ p q. rw (p, q) (omega arith, (omega (arith, ltb-true), tt)))
    (λ p q. rw (p, q) (omega arith, (omega arith, (omega arith, tt))))

-- a header has two to four octets
pub shortest-length : (n : ℕ) → (1 ≤ length (shortest n)) × (length (shortest n) ≤ 3)
unfolding shortest
shortest-length n =
    by_form n (λ p. rw p (omega arith, omega arith)) (λ p q. rw (p, q) (omega arith, omega arith)) (λ p q. rw (p, q) (omega arith, omega arith))

-- the three forms
pub one-octet : (n : ℕ) → n < 128 → shortest n ≡ n ∷ []
unfolding shortest
one-octet n h = rw (lt-ltb n 128 h)

pub two-octets : (n : ℕ) → 128 ≤ n → n < 256 → shortest n ≡ 0x81 ∷ n ∷ []
unfolding shortest
two-octets n l h = rw (le-ltb n 128 l, lt-ltb n 256 h)

pub three-octets : (n : ℕ) → 256 ≤ n → shortest n ≡ 0x82 ∷ n / 256 ∷ n % 256 ∷ []
unfolding shortest
three-octets n h = let l : 128 ≤ n = omega arith in rw (le-ltb n 128 l, le-ltb n 256 h)

-- what was read of a length: its value is below 65,536 and its form is no shorter than the shortest
pub record Readable (s : List ℕ) (g : Taken ℕ) : Type 0 where
  pub bounded : g.value < 65536
  pub no-shorter : length (shortest g.value) + length g.rest ≤ length s

readable-one : (a : ℕ) (s : List ℕ) → a < 128 → Readable (a ∷ s) (record { value = a; rest = s })
readable-one a s h = record { bounded = omega arith; no-shorter = rw (one-octet a h) (omega arith) }

readable-two : (a b : ℕ) (s : List ℕ) → b < 256 → Readable (a ∷ b ∷ s) (record { value = b; rest = s })
readable-two a b s h =
    by_form b
    (λ p. let l : b < 128 = ltb-true b 128 p in record { bounded = omega arith; no-shorter = rw (one-octet b l) (omega arith) })
    (λ p q. record { bounded = omega arith; no-shorter = rw (two-octets b (ltb-false b 128 p) h) (omega arith) })
    (λ p q. absurd (omega (arith, ltb-false b 256 q)))

readable-three : (a h l : ℕ) (s : List ℕ) → h < 256 → l < 256 → Readable (a ∷ h ∷ l ∷ s) (record { value = h * 256 + l; rest = s })
readable-three a h l s p q = record { bounded = omega arith; no-shorter = omega (arith, (shortest-length (h * 256 + l)).1) }

-- every readable length is 0 to 65,535, and no form that reads to it is shorter than the one we write
pub length-readable : (s : List ℕ) (g : Taken ℕ) → Octets s → length_of s ≡ sound g → Readable s g
unfolding length_of
length-readable [] g o e = not_sound e
length-readable (a ∷ s) g o e =
    either (ltb a 0x80) (done a) _ s g e (λ t h. rw (← sound-inj h) (readable-one a s (ltb-true a 0x80 t)))
    λ _ k. either (eqb a 0x81) (octet unreadable) _ s g k (λ _ h. two s o.1 h)
    λ _ h. passed (eqb a 0x82) unreadable (two_octets s) g h λ _ j. three s o.1 j
  where
    two : (t : List ℕ) → Octets t → octet unreadable t ≡ sound g → Readable (a ∷ t) g
    two [] w h = not_sound h
    two (b ∷ t) w h = rw (← sound-inj h) (readable-two a b t w.0)

    three : (t : List ℕ) → Octets t → two_octets t ≡ sound g → Readable (a ∷ t) g
    three [] w h = not_sound h
    three (b ∷ []) w h = not_sound h
    three (b ∷ l ∷ t) w h = rw (← sound-inj h) (readable-three a b l t w.0 w.1.0)

-- the contents of an element and what follows it stand at the end
pub element-ends : (s : List ℕ) (g : Taken Element) → element s ≡ sound g → Ends (g.value.contents ++ g.rest) s
unfolding element
element-ends [] g e = not_sound e
element-ends (a ∷ s) g e =
    passed (not (refused_tag a)) unreadable _ g e λ n h.
    through (length_of s) _ g h λ k u v.
    through (front unreadable k.value k.rest) _ g v λ f y z.
    let l = length-local s k u in
    let w = front-was unreadable k.value k.rest f y in
    let d = sound-inj z in (
      a ∷ l.taken,
      ap (λ (x : List ℕ). a ∷ x) (l.split ∙ ap (λ (x : List ℕ). l.taken ++ x) w.0) ∙ ap (λ (j : Taken Element). a ∷ (l.taken ++ (j.value.contents ++ j.rest))) d,
    )

-- the contents of an element that fills s
pub alone-ends : (s : List ℕ) (g : Taken Element) → element s ≡ sound g → is_empty g.rest ≡ true → Ends g.value.contents s
alone-ends s g e n =
    let x = element-ends s g e in
    (x.0, x.1 ∙ ap (λ (r : List ℕ). x.0 ++ (g.value.contents ++ r)) (empty-is g.rest n) ∙ ap (λ (r : List ℕ). x.0 ++ r) (append-nil g.value.contents))
