-- Text put on a page piece by piece.
use Prim.Native.Nat.{ℕ, ◌+◌, ◌≤◌}
use mathlib.Core.Path.{◌≡◌, ap, ◌∙◌, sym}
use mathlib.Core.List.{List, [], ◌++◌, append-nil, append_assoc}
use native.Mathlib.Omega.{arith}
use lib.ListN.{length, take, drop, length-append}
use lib.Seq.{length-take-le, take_at}
use Rattle.octets.specs.Splice.{splice}
use Rattle.printing.specs.Page.{WroteWithin}
use Rattle.printing.specs.Lent.{WroteAt}

-- what is written directly behind the text is the end of the text
pub grown : (octets : List ℕ) (at : ℕ) (words : List ℕ) → at ≤ length octets → take (at + length words) (splice octets at words) ≡ take at octets ++ words
unfolding splice
grown octets at words h =
    let n : length (take at octets ++ words) ≡ at + length words = length-append (take at octets) words ∙ ap (λ (k : ℕ). k + length words) (length-take-le at octets h) in
    take_at (take at octets ++ words) (drop (at + length words) octets) (at + length words) n

pub written : (page text after : List ℕ) → after ≡ page ++ text → WroteWithin (length text) page text after
written page text after e = (e, rw (e, length-append page text) (omega arith))

-- what is written into a lent page at the end of its text, with the place told behind it, is appended to the text
pub appended : (octets page : List ℕ) (at most : ℕ) (text after : List ℕ) (behind : ℕ) → at ≤ length octets → take at octets ≡ page
    → WroteAt most octets at text after behind → WroteWithin most page text (take behind after)
appended octets page at most text after behind h v w =
    let e : take behind after ≡ page ++ text = rw (w.0, w.1.0, ← v) (grown octets at text h) in
    let n : length page ≡ at = ap length (sym v) ∙ length-take-le at octets h in
    (e, omega (arith, n, w.1, (written page text (take behind after) e).1))

-- a loop that writes a text piece by piece: what is left, behind the next piece, is what was left
pub piece : (page text v rest after : List ℕ) → text ≡ v ++ rest → after ≡ page ++ v → after ++ rest ≡ page ++ text
piece page text v rest after e f = rw (f, e) (append_assoc page v rest)

-- nothing is left
pub ended : (page text rest : List ℕ) → rest ≡ [] → page ++ rest ≡ text → page ≡ text
ended page text rest e f = sym (append-nil page) ∙ (rw e at f)
