-- Parameters: what was read stays with a longer tail, where a text stands in it, and what the code's answers tell of the definitions.
use Prim.Native.Nat.{ℕ}
use mathlib.Core.Path.{◌≡◌, refl, sym, ap, ◌∙◌, subst}
use mathlib.Core.List.{List, [], ◌++◌, append-nil, append_assoc}
use mathlib.Core.Bool.{Bool, true, false, ◌&&◌}
use lib.ListN.{length, get_or}
use lib.Dec.{leb, eqb}
use borrow.Author.Tests.{eq-eqb}
use Rattle.octets.specs.Reader.{Answer, fault, sound, Taken, took, alone}
use Rattle.octets.proofs.ReaderLaws.{sound-inj, not_sound, through, passed, IsLocal, done-local, seq-local, need-local, stays, alone-is}
use Rattle.octets.proofs.EndLaws.{Ends, further-ends}
use Rattle.elements.specs.Element.{refused_tag, element, row, written}
use Rattle.elements.proofs.ElementLaws.{element-local, element-ends, alone-ends, written-reads-back}
use Rattle.elements.proofs.RowLaws.{row-append}
use Rattle.parameters.specs.Parameter.{mistyped, is_sound, holding, string, Text, text, ussd_contents, ussd, contents_are}
use Rattle.parameters.specs.Seen.{refusal}

pub string-local : (low high : ℕ) → IsLocal (string low high)
unfolding string
string-local low high =
    seq-local element _ element-local λ e.
    need-local (eqb e.tag 0x04) mistyped _
    (need-local (leb low (length e.contents) && leb (length e.contents) high) mistyped _
    (done-local e.contents))

pub text-local : IsLocal text
unfolding text
text-local =
    seq-local (string 1 1) _ (string-local 1 1) λ scheme.
    seq-local (string 1 160) _ (string-local 1 160) λ octets.
    done-local (record { scheme = get_or scheme 0 0; string = octets })

-- more elements behind the text only make its tail longer
pub ussd-contents-more : (s x : List ℕ) (g : Taken Text) → ussd_contents s ≡ sound g → row x ≡ true
    → ussd_contents (s ++ x) ≡ took g.value (g.rest ++ x)
unfolding ussd_contents
ussd-contents-more s x g e h =
    through (text s) _ g e λ k p q.
    passed (row k.rest) mistyped (sound k) g q λ t r.
    rw (stays text text-local s x k p, row-append k.rest x t h) (ap (λ (j : Taken Text). took j.value (j.rest ++ x)) (sound-inj r))

-- an element that is written holds its contents
pub written-holds : (tag : ℕ) (contents : List ℕ) → refused_tag tag ≡ false → holding tag (written tag contents) ≡ sound contents
written-holds tag contents h =
    let e : element (written tag contents) ≡ took (record { tag = tag; contents = contents }) [] = rw (append-nil (written tag contents)) at (written-reads-back tag contents [] h) in
    rw (e, eq-eqb tag tag refl)

-- the same parameter in a later edition: its 30 written anew around more elements
pub ussd-more : (p c x : List ℕ) (g : Taken Text) → holding 0x30 p ≡ sound c → ussd p ≡ sound g → row x ≡ true
    → ussd (written 0x30 (c ++ x)) ≡ took g.value (g.rest ++ x)
unfolding ussd
ussd-more p c x g q e h = rw (written-holds 0x30 (c ++ x) refl) (ussd-contents-more c x g (rw q at e) h)

pub ussd-held : (p : List ℕ) (g : Taken Text) → ussd p ≡ sound g → (c : List ℕ) × (holding 0x30 p ≡ sound c) × (ussd_contents c ≡ sound g)
unfolding ussd
ussd-held p g e = through (holding 0x30 p) ussd_contents g e λ c q r. (c, q, r)

-- a sound answer of the code is the definition's
pub told-sound : {A : Type 0} (o : Answer A) (a : A) → sound a ≡ refusal o → o ≡ sound a
told-sound (fault n) a e = not_sound (sym e)
told-sound (sound b) a e = sym e

-- a refusal of the code is a fault of the definition
pub told-fault : {A C : Type 0} (o : Answer A) → fault mistyped ≡ refusal o → ((n : ℕ) → o ≡ fault n → C) → C
told-fault (fault n) e next = next n refl
told-fault (sound a) e next = not_sound e

-- what does not look at the fault's number says the same of the code's answer and of the definition
pub told : {A B : Type 0} (f : Answer A → B) → ((n : ℕ) → f (fault mistyped) ≡ f (fault n)) → (o q : Answer A) → q ≡ refusal o → f q ≡ f o
told f h (fault n) q e = ap f e ∙ h n
told f h (sound a) q e = ap f e

pub told-is_sound : {A : Type 0} (o q : Answer A) → q ≡ refusal o → is_sound q ≡ is_sound o
told-is_sound = told is_sound (λ n. refl)

pub told-inside : (test : List ℕ → Bool) (o q : Answer (List ℕ)) → q ≡ refusal o → contents_are q test ≡ contents_are o test
told-inside test = told (λ o. contents_are o test) (λ n. refl)

-- a text stands at the end of its parameter, the tail at the end of the text
string-ends : (low high : ℕ) (s : List ℕ) (g : Taken (List ℕ)) → string low high s ≡ sound g → Ends (g.value ++ g.rest) s
unfolding string
string-ends low high s g e =
    through (element s) _ g e λ k u v.
    passed (eqb k.value.tag 0x04) mistyped _ g v λ t v₁.
    passed (leb low (length k.value.contents) && leb (length k.value.contents) high) mistyped (took k.value.contents k.rest) g v₁ λ l v₂.
    subst (λ (z : Taken (List ℕ)). Ends (z.value ++ z.rest) s) (sound-inj v₂) (element-ends s k u)

text-ends : (s : List ℕ) (g : Taken Text) → text s ≡ sound g → Ends (g.value.string ++ g.rest) s
unfolding text
text-ends s g e =
    through (string 1 1 s) _ g e λ a u v.
    through (string 1 160 a.rest) _ g v λ o w z.
    let x = string-ends 1 1 s a u in
    let y = subst (λ (j : Taken Text). Ends (j.value.string ++ j.rest) a.rest) (sound-inj z) (string-ends 1 160 a.rest o w) in
    further-ends _ a.rest s y (x.0 ++ a.value, x.1 ∙ sym (append_assoc x.0 a.value a.rest))

pub ussd-ends : (p : List ℕ) (g : Taken Text) → ussd p ≡ sound g → Ends (g.value.string ++ g.rest) p
unfolding ussd_contents
ussd-ends p g e =
    let h = ussd-held p g e in
    through (alone mistyped (element p)) _ h.0 h.1 λ k u v.
    passed (eqb k.tag 0x30) mistyped (sound k.contents) h.0 v λ t w.
    through (text h.0) _ g h.2 λ d y z.
    passed (row d.rest) mistyped (sound d) g z λ r q.
    let x = alone-ends p _ (alone-is mistyped (element p) k u) refl in
    further-ends _ h.0 p (text-ends h.0 g (y ∙ q)) (x.0, x.1 ∙ ap (λ (l : List ℕ). x.0 ++ l) (sound-inj w))
