-- A septet is the bits of the string, and what was packed comes back.
use Prim.Native.Nat.{ℕ, zero, suc, ◌+◌, ◌-◌, ◌*◌, ◌/◌, ◌%◌, ◌^◌, ◌≤◌, ◌<◌}
use mathlib.Core.Path.{◌≡◌, refl, sym, ap, ◌∙◌}
use mathlib.Core.List.{List, [], ◌∷◌, ◌++◌}
use mathlib.Core.Bool.{Bool, true, false, cond, ◌||◌, or-true}
use native.Mathlib.Nat.{pow-suc, div-div-eq-div-mul, lt_of_lt_of_le, le_refl}
use native.Mathlib.Numerals.{add-one}
use native.Mathlib.Omega.{arith}
use lib.ListN.{length, get_or, take, drop, length-append}
use lib.Seq.{drop-cons, take-length, take-append_seam, get_or-append_seam}
use lib.Dec.{eqb}
use lib.Pow.{pow-add, pow_mono, field, mod-mod-pow}
use borrow.Author.Tests.{eq-eqb, ne_eqb, eqb-true, eqb-false}
use Rattle.octets.specs.Octets.{Octets}
use Rattle.octets.proofs.TestLaws.{both}
use Rattle.cells.specs.Septets.{septet_at, septets_in, septets_from, CR, septets_sent, unpacked}
use Rattle.cells.specs.Packing.{number, packed, has_seven_spare, ends_in_cr, Septets, BackAsSent, AreTheBits}
use Rattle.cells.proofs.DigitLaws.{Below, digit-is, number-below, length_digits, digits-below, number_digits, pow-mul}

-- octets are digits in base 256, septets in base 128
octets-below : (s : List ℕ) → Octets s → Below 256 s
octets-below [] h = tt
octets-below (a ∷ s) h = (h.0, octets-below s h.1)

septets-below : (s : List ℕ) → Septets s → Below 128 s
septets-below [] h = tt
septets-below (c ∷ s) h = (h.0, septets-below s h.1)

-- seven bits that begin in the first octet are in the first two
within-two : (v t : ℕ) → t < 8 → (v % 256 + 256 * (v / 256 % 256)) / 2 ^ t % 128 ≡ v / 2 ^ t % 128
within-two v t h =
    let w : v % 256 + 256 * (v / 256 % 256) ≡ v % 65536 = omega arith in
    let e : 16 ≡ 9 - t + 7 + t = omega arith in
    ap (λ (x : ℕ). x / 2 ^ t % 128) (w ∙ ap (λ (k : ℕ). v % 2 ^ k) e)
    ∙ ap (λ (x : ℕ). x % 128) (field v (9 - t + 7) t)
    ∙ mod-mod-pow (v / 2 ^ t) (9 - t) 7

-- a power of two by octets and bits
octets-and-bits : (n : ℕ) → 2 ^ n ≡ 256 ^ (n / 8) * 2 ^ (n % 8)
octets-and-bits n =
    let e : n ≡ 8 * (n / 8) + n % 8 = omega arith in
    ap (λ (k : ℕ). 2 ^ k) e ∙ pow-add 2 (8 * (n / 8)) (n % 8) ∙ ap (λ (x : ℕ). x * 2 ^ (n % 8)) (pow-mul 2 8 (n / 8))

-- the seven bits from bit n on
bits-from : (s : List ℕ) (n : ℕ) → Below 256 s
    → (get_or s (n / 8) 0 + 256 * get_or s (n / 8 + 1) 0) / 2 ^ (n % 8) % 128 ≡ number 256 s / 2 ^ n % 128
bits-from s n h =
    let k = n / 8 in
    let v = number 256 s in
    let second : get_or s (k + 1) 0 ≡ v / 256 ^ k / 256 % 256 = digit-is 256 s (k + 1) h ∙ rw (add-one, pow-suc, div-div-eq-div-mul v (256 ^ k) 256) in
    rw (digit-is 256 s k h, second, octets-and-bits n, ← div-div-eq-div-mul v (256 ^ k) (2 ^ (n % 8))) (within-two (v / 256 ^ k) (n % 8) (omega arith))

-- septet i is the bits 7i to 7i+6 of the string
pub are-the-bits : AreTheBits
unfolding septet_at
are-the-bits string i h = bits-from string (7 * i) (octets-below string h)

-- how many octets a row takes
length-packed : (p : List ℕ) → length (packed p) ≡ (7 * length p + 7) / 8
unfolding packed
length-packed p = length_digits 256 ((7 * length p + 7) / 8) (number 128 p)

-- packing keeps the number
number-packed : (p : List ℕ) → Below 128 p → number 256 (packed p) ≡ number 128 p
unfolding packed
number-packed p h =
    let n = (7 * length p + 7) / 8 in
    let fits : 128 ^ length p ≤ 256 ^ n = rw (← pow-mul 2 7 (length p), ← pow-mul 2 8 n) (pow_mono (omega arith)) in
    number_digits 256 n (number 128 p) (omega arith) (lt_of_lt_of_le (number-below 128 p h) fits)

-- each septet is read as it was packed
septet-back : (p : List ℕ) (i : ℕ) → Below 128 p → septet_at (packed p) i ≡ get_or p i 0
unfolding septet_at packed
septet-back p i h =
    bits-from (packed p) (7 * i) (digits-below 256 ((7 * length p + 7) / 8) (number 128 p) (omega arith))
    ∙ rw (number-packed p h, pow-mul 2 7 i) (sym (digit-is 128 p i h))

-- n septets from septet i on
septets-back : (p : List ℕ) (i n : ℕ) → Below 128 p → i + n ≤ length p → septets_from (packed p) i n ≡ take n (drop i p)
unfolding septets_from
septets-back p i zero h l = refl
septets-back p i (suc n) h l =
    rw (drop-cons p i 0 (omega arith), septet-back p i h, septets-back p (suc i) n h (omega arith))

-- eight septets are seven octets, and fewer than seven septets beside them as many octets
octets-of : (m : ℕ) → m % 8 ≤ 6 → (septets_in ((7 * m + 7) / 8) ≡ m) × ((7 * m + 7) / 8 % 7 ≡ m % 8)
octets-of m h =
    let e : (7 * m + 7) / 8 ≡ 7 * (m / 8) + m % 8 = omega arith in
    (omega arith, omega arith)

-- what is not 8n - 1 septets is read whole, but for a CR on an octet boundary
read_back : (p : List ℕ) (n : ℕ) → Below 128 p → length p % 8 ≤ 6 → n ≤ length p → cond (ends_in_cr p) (length p - 1) (length p) ≡ n
    → unpacked (packed p) ≡ take n p
unfolding septets_sent
read_back p n h f l e =
    let m = length p in
    let o = octets-of m f in
    rw (length-packed p, o.0, o.1, septet-back p (m - 1) h, e) (septets-back p 0 n h (omega arith))

-- septets with a CR behind them
append-below : (s : List ℕ) → Below 128 s → Below 128 (s ++ (CR ∷ []))
append-below [] h = (omega arith, tt)
append-below (c ∷ s) h = (h.0, append-below s h.1)

-- the CR that fills seven spare bits is removed
fill-removed : (s : List ℕ) → Below 128 s → length s % 8 ≡ 7 → unpacked (packed (s ++ (CR ∷ []))) ≡ s
fill-removed s h e =
    let p : List ℕ = s ++ (CR ∷ []) in
    let l : length p ≡ length s + 1 = length-append s (CR ∷ []) in
    let k : length p - 1 ≡ length s = omega arith in
    read_back p (length s) (append-below s h) (omega arith) (omega arith)
    (rw (k, eq-eqb (length p % 8) 0 (omega arith), get_or-append_seam s CR [] 0))
    ∙ take-append_seam s (CR ∷ [])

-- nothing is removed where no CR ends the row on an octet boundary
whole_back : (p : List ℕ) → Below 128 p → length p % 8 ≤ 6 → ends_in_cr p ≡ false → unpacked (packed p) ≡ p
whole_back p h l e = read_back p (length p) h l (le_refl (length p)) (rw e) ∙ take-length p

-- the CR behind one that ends the text on an octet boundary stays
second-stays : (s : List ℕ) → Below 128 s → length s % 8 ≡ 0 → unpacked (packed (s ++ (CR ∷ []))) ≡ s ++ (CR ∷ [])
second-stays s h e =
    let p : List ℕ = s ++ (CR ∷ []) in
    let l : length p ≡ length s + 1 = length-append s (CR ∷ []) in
    whole_back p (append-below s h) (omega arith) (rw (ne_eqb (length p % 8) 0 (omega arith)))

-- the three cases of a sender
sent_back : (s : List ℕ) (a b : Bool) → Below 128 s → has_seven_spare s ≡ a → ends_in_cr s ≡ b
    → unpacked (packed (cond (a || b) (s ++ (CR ∷ [])) s)) ≡ cond b (s ++ (CR ∷ [])) s
sent_back s a true h e f = rw or-true (second-stays s h (eqb-true (length s % 8) 0 (both (eqb (length s % 8) 0) _ f).0))
sent_back s true false h e f = fill-removed s h (eqb-true (length s % 8) 7 e)
sent_back s false false h e f = let n = eqb-false (length s % 8) 7 e in whole_back s h (omega arith) f

-- what was sent comes back
pub back-as-sent : BackAsSent
back-as-sent s h = sent_back s (has_seven_spare s) (ends_in_cr s) (septets-below s h) refl refl
