-- Octets in hex at a place of a text: the first octet of what is left decides.
use Rattle.std.proofs.Common.{ℕ, suc, ◌+◌, ◌*◌, ◌-◌, ◌<◌, ◌≤◌, ◌≡◌, refl, ◌∙◌, subst, List, [], ◌∷◌, true, false, length, get_or, set, drop, arith, add-one, drop-cons, Option, None, Some}
use native.Mathlib.Nat.{sub-zero}
use Rattle.std.specs.Option.{is_some}
use Rattle.std.proofs.Math.ListN.{length-set, drop_of_length-le}
use Rattle.std.proofs.Math.Seq.{take-suc-set, append_snoc, drop-set-lt, paste-zero}
use borrow.Author.Tests.{eq-eqb, ne_eqb}
use Rattle.octets.specs.Splice.{splice}
use Rattle.words.specs.Words.{blank}
use Rattle.words.specs.Hex.{digit_of, digit_seen, DigitWithin, ReadsDigit, HexOctets, stop, before, hex_from, hex, ReadsHex}
use Rattle.words.specs.declared.Ending.{Ending}
use Rattle.words.specs.declared.Ending.TheVariants.{Whole, Wrong, Long}

-- at the end of the text
module _ (room half : ℕ) (t : List ℕ) (i : ℕ) (h : length t ≤ i) where
  pub hex-whole : half ≡ 16 → hex_from room half (drop i t) ≡ stop Whole
  unfolding hex_from
  hex-whole e = rw (drop_of_length-le t h, eq-eqb half 16 e)

  pub hex-odd : (half ≡ 16 → ⊥) → hex_from room half (drop i t) ≡ stop Wrong
  unfolding hex_from
  hex-odd e = rw (drop_of_length-le t h, ne_eqb half 16 e)

-- before it, at an octet whose value as a digit is d
module _ (room half : ℕ) (t : List ℕ) (i : ℕ) (h : i < length t) (d : ℕ) (q : d ≡ digit_of (get_or t i 0)) where
  pub hex-torn : blank (get_or t i 0) ≡ true → (half ≡ 16 → ⊥) → hex_from room half (drop i t) ≡ stop Wrong
  unfolding hex_from
  hex-torn b e = rw (drop-cons t i 0 h, b, ne_eqb half 16 e)

  pub hex-blank : blank (get_or t i 0) ≡ true → half ≡ 16 → hex_from room half (drop i t) ≡ hex_from room half (drop (i + 1) t)
  unfolding hex_from
  hex-blank b e = rw (e, add-one i, drop-cons t i 0 h, b)

  pub hex-no-digit : blank (get_or t i 0) ≡ false → d ≡ 16 → hex_from room half (drop i t) ≡ stop Wrong
  unfolding hex_from
  hex-no-digit b e = rw (drop-cons t i 0 h, b, ← q, eq-eqb d 16 e)

  pub hex-first : blank (get_or t i 0) ≡ false → (d ≡ 16 → ⊥) → half ≡ 16 → hex_from room half (drop i t) ≡ hex_from room d (drop (i + 1) t)
  unfolding hex_from
  hex-first b e f = rw (add-one i, drop-cons t i 0 h, b, ← q, ne_eqb d 16 e, eq-eqb half 16 f)

  pub hex-long : blank (get_or t i 0) ≡ false → (d ≡ 16 → ⊥) → (half ≡ 16 → ⊥) → room ≡ 0 → hex_from room half (drop i t) ≡ stop Long
  unfolding hex_from
  hex-long b e f g = rw (drop-cons t i 0 h, b, ← q, ne_eqb d 16 e, ne_eqb half 16 f, eq-eqb room 0 g)

  pub hex-second : blank (get_or t i 0) ≡ false → (d ≡ 16 → ⊥) → (half ≡ 16 → ⊥) → (room ≡ 0 → ⊥)
      → hex_from room half (drop i t) ≡ before (half * 16 + d) (hex_from (room - 1) 16 (drop (i + 1) t))
  unfolding hex_from
  hex-second b e f g = rw (add-one i, drop-cons t i 0 h, b, ← q, ne_eqb d 16 e, ne_eqb half 16 f, ne_eqb room 0 g)

-- an octet stored, and the rest written behind it
splice-set : (b : List ℕ) (n o : ℕ) (x : List ℕ) → n < length b → splice (set b n o) (n + 1) x ≡ splice b n (o ∷ x)
unfolding splice
splice-set b n o x h =
    let e : suc n + length x ≡ n + suc (length x) = omega arith in
    rw (add-one n, take-suc-set b n o h, append_snoc, drop-set-lt (suc n + length x) b n o (omega arith), e)

-- n octets stand in the buffer, and with those to come it is what it has to be
abbrev pub Coming : List ℕ → HexOctets → List ℕ → ℕ → HexOctets → Type 0
Coming first whole b n rest =
    (n ≤ length first)
    × (length b ≡ length first)
    × (splice b n rest.octets ≡ splice first 0 whole.octets)
    × (n + length rest.octets ≡ length whole.octets)
    × (rest.ends ≡ whole.ends)

module _ (first : List ℕ) (whole : HexOctets) (b : List ℕ) (n : ℕ) where
  pub coming-none : (e : Ending) → Coming first whole b n (stop e)
      → (n ≡ length whole.octets) × ((e ≡ whole.ends) × ((b ≡ splice first 0 whole.octets) × (n ≤ length first)))
  unfolding splice
  coming-none e l = (omega (arith, l.3), (l.4, (paste-zero b n [] ∙ l.2, l.0)))

  pub coming-next : (o : ℕ) (rest : HexOctets) → n < length first → Coming first whole b n (before o rest) → Coming first whole (set b n o) (n + 1) rest
  coming-next o rest h l =
      (omega arith, length-set b n o ∙ l.1, splice-set b n o rest.octets (omega (arith, l.1)) ∙ l.2, omega (arith, l.3), l.4)

-- the loop that reads: a digit waits in half, or none does
abbrev pub Reading : List ℕ → List ℕ → List ℕ → ℕ → Option ℕ → ℕ → Type 0
Reading t first b n half i = DigitWithin half × Coming first (hex (length first) t) b n (hex_from (length first - n) (digit_seen half) (drop i t))

pub reading_starts : (t first : List ℕ) → Reading t first first 0 None 0
unfolding hex
reading_starts t first = rw (sub-zero (length first)) (tt, (omega arith, refl, refl, omega arith, refl))

some_waits : (half : Option ℕ) → DigitWithin half → is_some half ≡ true → digit_seen half ≡ 16 → ⊥
some_waits None w e = cc
some_waits (Some d) w e = λ q. omega arith

none_waits : (half : Option ℕ) → is_some half ≡ false → digit_seen half ≡ 16
none_waits None e = refl
none_waits (Some d) e = cc

module _ (t first b : List ℕ) (n : ℕ) (half : Option ℕ) (i : ℕ) (r : Reading t first b n half i) where
  stops : (e : Ending) → hex_from (length first - n) (digit_seen half) (drop i t) ≡ stop e → ReadsHex t first b (record { count = n; ends = e })
  stops e p = coming-none first (hex (length first) t) b n e (subst (λ (o : HexOctets). Coming first (hex (length first) t) b n o) p r.1)

  goes_on : (next : Option ℕ) → DigitWithin next → hex_from (length first - n) (digit_seen half) (drop i t) ≡ hex_from (length first - n) (digit_seen next) (drop (i + 1) t)
      → Reading t first b n next (i + 1)
  goes_on next h p = (h, subst (λ (o : HexOctets). Coming first (hex (length first) t) b n o) p r.1)

  -- at the end of the text
  pub read_whole : length t ≤ i → is_some half ≡ false → ReadsHex t first b (record { count = n; ends = Whole })
  read_whole h e = stops Whole (hex-whole (length first - n) (digit_seen half) t i h (none_waits half e))

  pub read_odd : length t ≤ i → is_some half ≡ true → ReadsHex t first b (record { count = n; ends = Wrong })
  read_odd h e = stops Wrong (hex-odd (length first - n) (digit_seen half) t i h (some_waits half r.0 e))

  -- at an octet
  pub read_torn : i < length t → blank (get_or t i 0) ≡ true → is_some half ≡ true → ReadsHex t first b (record { count = n; ends = Wrong })
  read_torn h k e = stops Wrong (hex-torn (length first - n) (digit_seen half) t i h (digit_of (get_or t i 0)) refl k (some_waits half r.0 e))

  pub read_no_digit : i < length t → blank (get_or t i 0) ≡ false → ReadsDigit (get_or t i 0) None → ReadsHex t first b (record { count = n; ends = Wrong })
  read_no_digit h k d = stops Wrong (hex-no-digit (length first - n) (digit_seen half) t i h 16 d.0 k refl)

  pub read_long : (d f : ℕ) → i < length t → blank (get_or t i 0) ≡ false → ReadsDigit (get_or t i 0) (Some d) → half ≡ Some f → length first ≤ n
      → ReadsHex t first b (record { count = n; ends = Long })
  read_long d f h k q e l =
      stops Long (hex-long (length first - n) (digit_seen half) t i h d q.0 k (λ z. omega (arith, q.1)) (some_waits half r.0 (rw e)) (omega arith))

  -- a turn that stores nothing
  pub read_blank : i < length t → blank (get_or t i 0) ≡ true → is_some half ≡ false → Reading t first b n half (i + 1)
  read_blank h k e =
      goes_on half r.0 (hex-blank (length first - n) (digit_seen half) t i h (digit_of (get_or t i 0)) refl k (none_waits half e) ∙ rw (none_waits half e))

  pub read_first : (d : ℕ) → i < length t → blank (get_or t i 0) ≡ false → ReadsDigit (get_or t i 0) (Some d) → half ≡ None → Reading t first b n (Some d) (i + 1)
  read_first d h k q e =
      goes_on (Some d) q.1 (hex-first (length first - n) (digit_seen half) t i h d q.0 k (λ z. omega (arith, q.1)) (rw e))

  -- a turn that stores an octet
  pub read_second : (d f : ℕ) → i < length t → blank (get_or t i 0) ≡ false → ReadsDigit (get_or t i 0) (Some d) → half ≡ Some f → n < length first
      → Reading t first (set b n (f * 16 + d)) (n + 1) None (i + 1)
  read_second d f h k q e l =
      let z : length first - (n + 1) ≡ length first - n - 1 = omega arith in
      let s : digit_seen half ≡ f = rw e in
      let p : hex_from (length first - n) (digit_seen half) (drop i t) ≡ before (f * 16 + d) (hex_from (length first - n - 1) 16 (drop (i + 1) t)) =
      hex-second (length first - n) (digit_seen half) t i h d q.0 k (λ z. omega (arith, q.1)) (some_waits half r.0 (rw e)) (λ z. omega arith) ∙ rw s in (
        tt,
        rw z (coming-next first (hex (length first) t) b n (f * 16 + d) (hex_from (length first - n - 1) 16 (drop (i + 1) t)) l
            (subst (λ (x : HexOctets). Coming first (hex (length first) t) b n x) p r.1)),
      )

pub ruleset hex_steps = (read_whole, read_odd, read_torn, read_no_digit)

-- as the code's variables hold it
pub reading_same : (t first : List ℕ) {b b' : List ℕ} {n n' : ℕ} {half half' : Option ℕ} (i : ℕ) → b' ≡ b → n' ≡ n → half' ≡ half → Reading t first b n half i → Reading t first b' n' half' i
reading_same t first i p q e r = rw (p, q, e) r
