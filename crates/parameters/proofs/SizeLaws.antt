-- How long the string of a text that was read is.
use Prim.Native.Nat.{ℕ, ◌≤◌}
use mathlib.Core.Path.{◌≡◌, subst, ◌∙◌}
use mathlib.Core.List.{List}
use mathlib.Core.Bool.{◌&&◌}
use lib.ListN.{length}
use lib.Dec.{eqb, leb}
use borrow.Author.Tests.{leb-true}
use Rattle.octets.specs.Reader.{sound, Taken, took}
use Rattle.octets.proofs.ReaderLaws.{sound-inj, through, passed}
use Rattle.octets.proofs.TestLaws.{both}
use Rattle.elements.specs.Element.{element, row}
use Rattle.parameters.specs.Parameter.{mistyped, string, Text, text, ussd_contents, ussd}
use Rattle.parameters.proofs.ParameterLaws.{ussd-held}

-- a string has the length that was asked for
string-size : (low high : ℕ) (s : List ℕ) (g : Taken (List ℕ)) → string low high s ≡ sound g → (low ≤ length g.value) × (length g.value ≤ high)
unfolding string
string-size low high s g e =
    through (element s) _ g e λ k u v.
    passed (eqb k.value.tag 0x04) mistyped _ g v λ t w.
    passed (leb low (length k.value.contents) && leb (length k.value.contents) high) mistyped (took k.value.contents k.rest) g w λ l z.
    let b = both (leb low (length k.value.contents)) (leb (length k.value.contents) high) l in
    subst (λ (j : Taken (List ℕ)). (low ≤ length j.value) × (length j.value ≤ high)) (sound-inj z) (leb-true _ _ b.0, leb-true _ _ b.1)

text-size : (s : List ℕ) (g : Taken Text) → text s ≡ sound g → (1 ≤ length g.value.string) × (length g.value.string ≤ 160)
unfolding text
text-size s g e =
    through (string 1 1 s) _ g e λ a u v.
    through (string 1 160 a.rest) _ g v λ o w z.
    subst (λ (j : Taken Text). (1 ≤ length j.value.string) × (length j.value.string ≤ 160)) (sound-inj z) (string-size 1 160 a.rest o w)

pub ussd-size : (p : List ℕ) (g : Taken Text) → ussd p ≡ sound g → (1 ≤ length g.value.string) × (length g.value.string ≤ 160)
unfolding ussd_contents
ussd-size p g e =
    let h = ussd-held p g e in
    through (text h.0) _ g h.2 λ d y z.
    passed (row d.rest) mistyped (sound d) g z λ r q.
    text-size h.0 g (y ∙ q)
