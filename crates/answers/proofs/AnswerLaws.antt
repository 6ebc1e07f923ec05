-- What a line is answered, way by way.
use Rattle.std.proofs.Common.{ℕ, ◌≡◌, ◌≤◌, refl, sym, ap, ◌∙◌, List, [], ◌∷◌, ◌++◌, Bool, true, false, length, take, drop, replicate, arith}
use borrow.Author.Tests.{le-leb}
use lib.Seq.{take-append_seam}
use Rattle.octets.specs.Part.{between}
use Rattle.octets.specs.Splice.{splice}
use Rattle.octets.proofs.PartLaws.{rest_part_lem}
use Rattle.octets.proofs.SpliceLaws.{splice_front}
use Rattle.printing.specs.Page.{Filled}
use Rattle.words.specs.Hex.{hex, ReadsHex}
use Rattle.words.specs.declared.hex.Row.{Row}
use Rattle.words.specs.declared.Ending.TheVariants.{Whole, Wrong, Long}
use Rattle.words.specs.declared.Command.{Command}
use Rattle.reports.specs.Words.{table_set}
use Rattle.answers.specs.Answers.{State, says, not_understood, too_long, made, call, image, octets_at, on_octets, Makes, AnswersLine}

-- what was written at the front stands there
pub front_is : (s t : List ℕ) (n : ℕ) → n ≡ length t → take n (splice s 0 t) ≡ t
front_is s t n e = rw (e, splice_front s t) (take-append_seam t (drop (length t) s))

image_set : (n : ℕ) (s : State) (p : List ℕ) → (length p ≡ 0 → ⊥) → length p ≤ 300 → image n s p ≡ says table_set (record { table = p; room = s.room })
unfolding image
image_set n s [] h k = absurd (h refl)
image_set n s (a ∷ p) h k = rw (le-leb (length (a ∷ p)) 300 k)

-- the image is set at the front of its space
pub sets : (n : ℕ) (s : State) (p space after page : List ℕ) (room : ℕ) → s.room ≡ room → (length p ≡ 0 → ⊥) → length p ≤ 300 → after ≡ splice space 0 p → page ≡ table_set
    → AnswersLine (image n s p) (record { table = take (length p) after; room = room }) page
sets n s p space after page room f h k q w = rw (image_set n s p h k, f, q, front_is space p (length p) refl) (refl, (w, rw w (omega arith)))

-- a call over the image, which is lent, and comes back with what stands behind it
pub calls : (c : Command) (s : State) (p table rest buffer page : List ℕ) (size room : ℕ) → s.room ≡ room → length table ≡ size → buffer ≡ replicate room 0
    → Makes (made s.table buffer p c) table page
    → AnswersLine (call c s p) (record { table = take size (table ++ rest); room = room }) page
calls c s p table rest buffer page size room f l b m = rw (← l, take-append_seam, f, ← b) ((λ i. record { table = m.0 i; room = room }), m.1)

-- the octets of a line, read into a cleared buffer
module _ (n : ℕ) (line : List ℕ) (at : ℕ) (b : Bool) (c : Command) (s : State) (text zeros after : List ℕ) (row : Row) (q : text ≡ between at (length line) line) (z : length zeros ≡ 4096) (r : ReadsHex text zeros after row) where
  octets_are : hex (length zeros) text ≡ octets_at line at
  octets_are = rw (z, q, rest_part_lem)

  ends_are : (octets_at line at).ends ≡ row.ends
  ends_are = rw (← octets_are) (sym r.1.0)

  front_read : (octets_at line at).octets ≡ take row.count after
  front_read = sym (ap (λ (x : List ℕ). take row.count x) (rw octets_are at r.1.1.0) ∙ front_is zeros (octets_at line at).octets row.count (rw octets_are at r.0))

  module _ (page : List ℕ) (t : State) where
    pub wrong : row.ends ≡ Wrong → Filled 64 (not_understood n) page → AnswersLine (on_octets n line at b c s) s page
    unfolding on_octets
    wrong e w = rw (ends_are ∙ e) (refl, (w.0, omega (arith, w.1)))

    pub long : row.ends ≡ Long → Filled 64 (too_long n) page → AnswersLine (on_octets n line at b c s) s page
    unfolding on_octets
    long e w = rw (ends_are ∙ e) (refl, (w.0, omega (arith, w.1)))

    pub on_image : row.ends ≡ Whole → b ≡ true → AnswersLine (image n s (take row.count after)) t page → AnswersLine (on_octets n line at b c s) t page
    unfolding on_octets
    on_image e h w = rw (ends_are ∙ e, h, front_read) w

    pub on_call : row.ends ≡ Whole → b ≡ false → AnswersLine (call c s (take row.count after)) t page → AnswersLine (on_octets n line at b c s) t page
    unfolding on_octets
    on_call e h w = rw (ends_are ∙ e, h, front_read) w
