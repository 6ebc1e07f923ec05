-- A Password is four digits under the tag 12, and nothing else is.
use Prim.Native.Nat.{ℕ, ◌+◌, ◌≤◌}
use mathlib.Core.Path.{◌≡◌, refl, ap, ◌∙◌}
use mathlib.Core.List.{List, [], ◌∷◌}
use mathlib.Core.Bool.{Bool, true, false, not, false≢true}
use native.Mathlib.Omega.{arith}
use lib.ListN.{length, length-append}
use lib.Dec.{leb, ltb, eqb}
use borrow.Author.Tests.{eqb-true, leb-true, le-leb}
use Rattle.octets.specs.Reader.{Answer, fault, sound, Taken, took, octet, done, front}
use Rattle.octets.proofs.ReaderLaws.{sound-inj, not_sound, through, passed, either, alone-is, front-was}
use Rattle.octets.proofs.TestLaws.{both}
use Rattle.elements.specs.Element.{unreadable, two_octets, length_of, refused_tag, Element, element}
use Rattle.parameters.specs.Parameter.{mistyped, one, holding, contents_are, is_digit, are_digits, is_password, password}
use Rattle.promises.specs.Passwords.{Digit, FourDigits}

-- contents that pass a test are those of one element with that tag
inside : {C : Type 0} (test : List ℕ → Bool) (o : Answer (List ℕ)) → contents_are o test ≡ true → ((c : List ℕ) → o ≡ sound c → test c ≡ true → C) → C
inside test (fault n) h next = absurd (false≢true h)
inside test (sound c) h next = next c refl h

held : {C : Type 0} (tag : ℕ) (p c : List ℕ) → holding tag p ≡ sound c → (element p ≡ took (record { tag = tag; contents = c }) [] → C) → C
held tag p c h next =
    through (one p) _ c h λ e q f.
    passed (eqb e.tag tag) mistyped (sound e.contents) c f λ t g.
    let a : e.tag ≡ tag = eqb-true e.tag tag t in
    let b : e.contents ≡ c = sound-inj g in
    let w : e ≡ record { tag = tag; contents = c } = rw (← a, ← b) in
    next (alone-is mistyped (element p) e q ∙ rw w)

digit : (octet : ℕ) → is_digit octet ≡ true → Digit octet
digit octet h = let k = both (leb 0x30 octet) (leb octet 0x39) h in (leb-true 0x30 octet k.0, leb-true octet 0x39 k.1)

first-digit : (octet : ℕ) (s : List ℕ) → are_digits (octet ∷ s) ≡ true → Digit octet × (are_digits s ≡ true)
first-digit octet s h = let k = both (is_digit octet) (are_digits s) h in (digit octet k.0, k.1)

four : (p c : List ℕ) → element p ≡ took (record { tag = 0x12; contents = c }) [] → length c ≡ 4 → are_digits c ≡ true → FourDigits p
four p [] e l h = absurd (omega arith)
four p (w ∷ []) e l h = absurd (omega arith)
four p (w ∷ x ∷ []) e l h = absurd (omega arith)
four p (w ∷ x ∷ y ∷ []) e l h = absurd (omega arith)
four p (w ∷ x ∷ y ∷ z ∷ []) e l h =
    let a = first-digit w (x ∷ y ∷ z ∷ []) h in
    let b = first-digit x (y ∷ z ∷ []) a.1 in
    let c = first-digit y (z ∷ []) b.1 in
    let d = first-digit z [] c.1 in
    record { first = w; second = x; third = y; fourth = z; is = e; digits = (a.0, (b.0, (c.0, d.0))) }
four p (w ∷ x ∷ y ∷ z ∷ v ∷ c) e l h = absurd (omega arith)

pub are-four : (p : List ℕ) → password p ≡ true → FourDigits p
are-four p h =
    inside is_password (holding 0x12 p) h λ c q t.
    let k = both (eqb (length c) 4) (are_digits c) t in
    held 0x12 p c q λ e. four p c e (eqb-true (length c) 4 k.0) k.1

pub is-password : (p : List ℕ) → FourDigits p → password p ≡ true
is-password p f =
    let d = f.digits in
    rw (
      f.is,
      le-leb 0x30 _ d.0.0,
      le-leb _ 0x39 d.0.1,
      le-leb 0x30 _ d.1.0.0,
      le-leb _ 0x39 d.1.0.1,
      le-leb 0x30 _ d.1.1.0.0,
      le-leb _ 0x39 d.1.1.0.1,
      le-leb 0x30 _ d.1.1.1.0,
      le-leb _ 0x39 d.1.1.1.1,
    )

-- a length takes three octets at most, so a Password eight
length_most : (s : List ℕ) (g : Taken ℕ) → length_of s ≡ sound g → length s ≤ 3 + length g.rest
unfolding length_of
length_most [] g e = not_sound e
length_most (a ∷ s) g e =
    either (ltb a 0x80) (done a) _ s g e (λ _ h. rw (← sound-inj h) (omega arith))
    λ _ k. either (eqb a 0x81) (octet unreadable) _ s g k (λ _ h. two s h)
    λ _ h. passed (eqb a 0x82) unreadable (two_octets s) g h λ _ j. three s j
  where
    two : (t : List ℕ) → octet unreadable t ≡ sound g → length (a ∷ t) ≤ 3 + length g.rest
    two [] h = not_sound h
    two (b ∷ t) h = rw (← sound-inj h) (omega arith)

    three : (t : List ℕ) → two_octets t ≡ sound g → length (a ∷ t) ≤ 3 + length g.rest
    three [] h = not_sound h
    three (b ∷ []) h = not_sound h
    three (b ∷ l ∷ t) h = rw (← sound-inj h) (omega arith)

element-most : (s : List ℕ) (g : Taken Element) → element s ≡ sound g → length s ≤ 4 + (length g.value.contents + length g.rest)
unfolding element
element-most [] g e = not_sound e
element-most (a ∷ s) g e =
    passed (not (refused_tag a)) unreadable _ g e λ n h.
    through (length_of s) _ g h λ k u v.
    through (front unreadable k.value k.rest) _ g v λ f y z.
    let l = length_most s k u in
    let w = ap length (front-was unreadable k.value k.rest f y).0 ∙ length-append f.value f.rest in
    rw (← sound-inj z) (omega arith)

pub at-most-eight : (p : List ℕ) → FourDigits p → length p ≤ 8
at-most-eight p f = element-most p _ f.is

pub no-password : (p : List ℕ) → (FourDigits p → ⊥) → password p ≡ false
no-password p f = go (password p) refl
  where
    go : (b : Bool) → password p ≡ b → b ≡ false
    go true e = absurd (f (are-four p e))
    go false e = refl
