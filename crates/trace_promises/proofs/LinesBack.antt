-- A line that is printed, as the writer takes it.
use Prim.Native.Nat.{ℕ, suc, ◌+◌, ◌-◌, ◌≤◌, ◌/◌, ◌%◌}
use mathlib.Core.Path.{◌≡◌, refl}
use mathlib.Core.List.{List, [], ◌∷◌, ◌++◌}
use mathlib.Core.Option.{Option, some}
use mathlib.Core.Bool.{true, false, not}
use native.Mathlib.Omega.{arith}
use lib.ListN.{length, take}
use lib.Dec.{eqb}
use borrow.Author.Tests.{le-ltb, le-leb, not-true}
use Rattle.octets.specs.Octets.{Octets}
use Rattle.octets.proofs.TestLaws.{both}
use Rattle.printing.specs.Numbers.{glyph, pair}
use Rattle.printing.specs.Forty.{plain}
use Rattle.words.specs.Words.{blank, blanks, letters, word_from, word_at, spelled, same}
use Rattle.words.specs.Lines.{longest}
use Rattle.trace_lines.specs.Shown.{received, sent}
use Rattle.trace_lines.specs.Told.{Begun, Told, kind_of, grown, followed, finished, line_kind, told_from}
use Rattle.trace_lines.specs.declared.told.Kind.{Kind}
use Rattle.trace_lines.specs.declared.told.Kind.TheVariants.{Onward, First}
use Rattle.trace_promises.specs.Retold.{lines_in}
use Rattle.trace_promises.proofs.HexBack.{glyph-blank, glyph-hash, printed, hex-back}

-- text up to a 10 is the first line
pub line-ends : (a b : List ℕ) → plain a ≡ true → lines_in (a ++ (10 ∷ b)) ≡ a ∷ lines_in b
unfolding plain
line-ends [] b h = refl
line-ends (c ∷ a) b h =
    let w = both (not (eqb c 10)) (plain a) h in
    rw (not-true (eqb c 10) w.0, line-ends a b w.1)

-- a line of octets alone goes on, a line of a word and octets begins a record
word-behind : (c : ℕ) (s : List ℕ) → blank c ≡ false → spelled (32 ∷ c ∷ s) (word_at (32 ∷ c ∷ s) 0) ≡ c ∷ take (letters s) s
unfolding word_at word_from blanks letters
word-behind c s h =
    let e : 1 + suc (letters s) - 1 ≡ suc (letters s) = omega arith in
    rw (h, h, e)

onward-line : (o : ℕ) (s : List ℕ) → kind_of (printed (o ∷ s)) ≡ Onward
unfolding pair kind_of
onward-line o s = rw (word-behind (glyph (o / 16)) (glyph (o % 16) ∷ printed s) (glyph-blank (o / 16)), glyph-hash (o / 16))

received-line : (o : ℕ) (s : List ℕ) → kind_of (received ++ printed (o ∷ s)) ≡ First 0 8
unfolding kind_of word_at word_from blanks letters same
received-line o s = refl

sent-line : (o : ℕ) (s : List ℕ) → kind_of (sent ++ printed (o ∷ s)) ≡ First 1 4
unfolding kind_of word_at word_from blanks letters same
sent-line o s = refl

-- no line that is printed is too long
short-kind : (line : List ℕ) (k : Kind) → length line ≤ 40 → kind_of line ≡ k → line_kind line ≡ k
short-kind line k h e = rw (le-ltb longest (length line) (omega arith)) e

-- octets more
abbrev pub plus : Begun → List ℕ → Begun
plus b octets = record { direction = b.direction; message = b.message ++ octets; line = b.line }

grown-back : (b : Begun) (s : List ℕ) → Octets s → length b.message + length s ≤ 255 → grown b (printed s) ≡ some (plus b s)
unfolding grown
grown-back b s h l = rw (hex-back s h (omega arith), le-leb (length b.message + length s) 255 l)

-- how a line of some front and octets is taken: they are the octets that a record is begun with, or goes on with
abbrev pub Takes : List ℕ → (Told → Told) → Option Begun → Begun → ℕ → Type 0
Takes front wrap begun b n =
    (o : ℕ) (held : List ℕ) (others : List (List ℕ)) → Octets (o ∷ held) → length (front ++ printed (o ∷ held)) ≤ 40 → length b.message + length (o ∷ held) ≤ 255
    → told_from begun n ((front ++ printed (o ∷ held)) ∷ others) ≡ wrap (told_from (some (plus b (o ∷ held))) (suc n) others)

pub takes-onward : (b : Begun) (n : ℕ) → Takes [] (λ (t : Told). t) (some b) b n
unfolding told_from followed
takes-onward b n o held others h l m =
    rw (short-kind (printed (o ∷ held)) Onward l (onward-line o held), grown-back b (o ∷ held) h m)

abbrev pub begin : ℕ → ℕ → Begun
begin direction n = record { direction = direction; message = []; line = n }

pub takes-received : (begun : Option Begun) (n : ℕ) → Takes received (finished begun) begun (begin 0 n) n
unfolding told_from followed
takes-received begun n o held others h l m =
    rw (short-kind (received ++ printed (o ∷ held)) (First 0 8) l (received-line o held), grown-back (begin 0 n) (o ∷ held) h m)

pub takes-sent : (begun : Option Begun) (n : ℕ) → Takes sent (finished begun) begun (begin 1 n) n
unfolding told_from followed
takes-sent begun n o held others h l m =
    rw (short-kind (sent ++ printed (o ∷ held)) (First 1 4) l (sent-line o held), grown-back (begin 1 n) (o ∷ held) h m)
