-- Octets as they are printed are read as those octets.
use Prim.Native.Nat.{ℕ, ◌+◌, ◌*◌, ◌-◌, ◌/◌, ◌%◌, ◌≤◌, ◌<◌}
use mathlib.Core.Path.{◌≡◌, refl, ap, ◌∙◌}
use mathlib.Core.List.{List, [], ◌∷◌, ◌++◌}
use mathlib.Core.Bool.{Bool, true, false, cond}
use native.Mathlib.Omega.{arith}
use lib.ListN.{length}
use lib.Dec.{ltb, eqb}
use borrow.Author.Tests.{ltb-true, ltb-false, le-leb, lt-leb, ne_eqb}
use Rattle.octets.specs.Octets.{Octets}
use Rattle.printing.specs.Numbers.{glyph, pair}
use Rattle.printing.specs.Forty.{plain}
use Rattle.printing.proofs.FortyLaws.{plain-append, pair-plain}
use Rattle.words.specs.Words.{blank}
use Rattle.words.specs.Hex.{digit_of, before, hex_from, hex}
use Rattle.words.specs.declared.Ending.TheVariants.{Whole}

-- a digit's character is told apart from every other that matters
glyph-over : (d : ℕ) → 48 ≤ glyph d
glyph-over d = go (ltb d 10)
  where
    go : (b : Bool) → 48 ≤ cond b (48 + d) (55 + d)
    go true = omega arith
    go false = omega arith

pub glyph-blank : (d : ℕ) → blank (glyph d) ≡ false
glyph-blank d = over (glyph d) (glyph-over d)
  where
    over : (c : ℕ) → 48 ≤ c → blank c ≡ false
    over c h = rw (ne_eqb c 32 (λ e. omega arith), ne_eqb c 9 (λ e. omega arith), ne_eqb c 13 (λ e. omega arith))

pub glyph-hash : (d : ℕ) → eqb (glyph d) 35 ≡ false
glyph-hash d = let h = glyph-over d in ne_eqb (glyph d) 35 (λ e. omega arith)

-- a digit printed is the digit read
pub digit-back : (d : ℕ) → d < 16 → digit_of (glyph d) ≡ d
digit-back d h = go (ltb d 10) refl
  where
    go : (b : Bool) → ltb d 10 ≡ b → digit_of (cond b (48 + d) (55 + d)) ≡ d
    go true e =
        let l = ltb-true d 10 e in
        let v : 48 + d - 48 ≡ d = omega arith in
        rw (le-leb 48 (48 + d) (omega arith), le-leb (48 + d) 57 (omega arith)) v
    go false e =
        let l = ltb-false d 10 e in
        let v : 55 + d - 55 ≡ d = omega arith in
        rw (le-leb 48 (55 + d) (omega arith), lt-leb (55 + d) 57 (omega arith), le-leb 65 (55 + d) (omega arith), le-leb (55 + d) 70 (omega arith)) v

-- the octets of one line, each behind a space
abbrev pub printed : List ℕ → List ℕ
printed [] = []
printed (o ∷ s) = (32 ∷ pair o) ++ printed s

pub printed-length : (s : List ℕ) → length (printed s) ≡ 3 * length s
unfolding pair
printed-length [] = refl
printed-length (o ∷ s) = let l = printed-length s in omega arith

pub printed-plain : (s : List ℕ) → plain (printed s) ≡ true
unfolding plain
printed-plain [] = refl
printed-plain (o ∷ s) = plain-append (pair o) (printed s) (pair-plain o) (printed-plain s)

-- one more of them
pub printed-more : (s : List ℕ) (o : ℕ) → printed (s ++ (o ∷ [])) ≡ printed s ++ (32 ∷ pair o)
unfolding pair
printed-more [] o = refl
printed-more (a ∷ s) o = ap (λ (t : List ℕ). (32 ∷ pair a) ++ t) (printed-more s o)

-- two digits are an octet
two_digits : (room c e d k : ℕ) (s : List ℕ) → blank c ≡ false → blank e ≡ false → digit_of c ≡ d → digit_of e ≡ k → d < 16 → k < 16 → 1 ≤ room
    → hex_from room 16 (32 ∷ c ∷ e ∷ s) ≡ before (d * 16 + k) (hex_from (room - 1) 16 s)
unfolding hex_from
two_digits room c e d k s p q u v l m n =
    rw (p, q, u, v, ne_eqb d 16 (λ z. omega arith), ne_eqb k 16 (λ z. omega arith), ne_eqb room 0 (λ z. omega arith))

pair-back : (room o : ℕ) (s : List ℕ) → o < 256 → 1 ≤ room → hex_from room 16 ((32 ∷ pair o) ++ s) ≡ before o (hex_from (room - 1) 16 s)
unfolding pair
pair-back room o s h l =
    let v : o / 16 * 16 + o % 16 ≡ o = omega arith in
    two_digits room (glyph (o / 16)) (glyph (o % 16)) (o / 16) (o % 16) s (glyph-blank (o / 16)) (glyph-blank (o % 16))
    (digit-back (o / 16) (omega arith)) (digit-back (o % 16) (omega arith)) (omega arith) (omega arith) l
    ∙ ap (λ (n : ℕ). before n (hex_from (room - 1) 16 s)) v

from_back : (s : List ℕ) (room : ℕ) → Octets s → length s ≤ room → hex_from room 16 (printed s) ≡ record { octets = s; ends = Whole }
unfolding hex_from
from_back [] room h l = refl
from_back (o ∷ s) room h l =
    pair-back room o (printed s) h.0 (omega arith)
    ∙ ap (before o) (from_back s (room - 1) h.1 (omega arith))

pub hex-back : (s : List ℕ) → Octets s → length s ≤ 255 → hex 255 (printed s) ≡ record { octets = s; ends = Whole }
unfolding hex
hex-back s h l = from_back s 255 h l
