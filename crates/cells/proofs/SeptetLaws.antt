-- The septets of a string: how many, and where each stands.
use Prim.Native.Nat.{ℕ, zero, suc, ◌+◌, ◌-◌, ◌*◌, ◌/◌, ◌%◌, ◌^◌, ◌≤◌, ◌<◌}
use mathlib.Core.Path.{◌≡◌, refl, sym, ap, ◌∙◌}
use mathlib.Core.List.{List, [], ◌∷◌}
use mathlib.Core.Logic.{⊎_elim}
use native.Mathlib.Nat.{lt_of_lt_of_le, mul-mod_right, mul_comm, mul_assoc, zero-add, mod-lt, mod-one, mod-eq_of_lt, div-eq_of_lt, div-div-eq-div-mul, div-lt_iff_lt-mul, add-mul-div_left, eq-or-lt_of_le, add-zero, le_of_suc-le-suc, not-suc-le-zero, le_refl, pos_of_ne-zero}
use native.Mathlib.Omega.{arith}
use lib.ListN.{length, get_or, get_or-eq_default}
use lib.Pow.{pow_pos, pow_mono}
use borrow.Author.Tests.{eq-eqb, ne_eqb}
use Rattle.cells.specs.Septets.{septet_at, septets_from, septets_sent}
use Rattle.cells.specs.Rows.{carried_to}

-- septets in whole sevens of octets and the octets left
pub held-is : (n : ℕ) → 8 * n / 7 ≡ n + n / 7
held-is n = omega arith

-- on an octet boundary the last septet is the upper seven bits of the last octet
last-septet : (s : List ℕ) → length s % 7 ≡ 0 → (length s ≡ 0 → ⊥) → get_or s (length s - 1) 0 < 256 → septet_at s (8 * length s / 7 - 1) ≡ get_or s (length s - 1) 0 / 2
unfolding septet_at
last-septet s e n o =
    let z : 0 < length s = pos_of_ne-zero n in
    let q = length s / 7 in
    let w : length s ≡ 7 * q = omega arith in
    let i : 8 * length s / 7 ≡ 8 * q = omega arith in
    let b : 7 * (8 * length s / 7 - 1) ≡ 8 * (length s - 1) + 1 = omega arith in
    let k : 7 * (8 * length s / 7 - 1) / 8 ≡ length s - 1 = omega arith in
    let t : 7 * (8 * length s / 7 - 1) % 8 ≡ 1 = omega arith in
    let f : length s - 1 + 1 ≡ length s = omega arith in
    rw (k, t, f, get_or-eq_default s 0 (le_refl (length s))) (omega arith)

-- what is left of an octet p, and a whole octet n above it: its lowest seven bits, and what is left of n
glued : (above base below p n : ℕ) → 0 < above → 0 < base → 0 < below → above * base ≡ 256 → base * below ≡ 128 → p < 256 → n < 256 → n * base % 65536 ≡ n * base
    → ((p / above % base + n * base % 65536) % 128 ≡ (p + 256 * n) / above % 128) × ((p / above % base + n * base % 65536) / 128 ≡ n / below % (2 * base))
glued above base below p n z y x e f a b m =
    let q : p / above < base = (div-lt_iff_lt-mul z).1 (rw (mul_comm base above, e) a) in
    let w : 256 * n ≡ above * (base * n) = rw (← e) (mul_assoc above base n) in
    let first : (p + 256 * n) / above ≡ p / above + n * base = rw (w, mul_comm n base) (add-mul-div_left p (base * n) z) in
    let second : (p / above + n * base) / 128 ≡ n / below =
    rw (← f, ← div-div-eq-div-mul (p / above + n * base) base below, mul_comm n base, add-mul-div_left (p / above) n y, div-eq_of_lt q, zero-add) refl in
    let third : n / below < 2 * base = (div-lt_iff_lt-mul x).1 (rw (mul_assoc 2 base below, f) b) in
    rw (mod-eq_of_lt q, m, first, second, mod-eq_of_lt third) (refl, refl)

-- j bits are left
sums : (j p n : ℕ) → j < 7 → p < 256 → n < 256
    → ((p / 2 ^ (8 - j) % 2 ^ j + n * 2 ^ j % 65536) % 128 ≡ (p + 256 * n) / 2 ^ (8 - j) % 128) × ((p / 2 ^ (8 - j) % 2 ^ j + n * 2 ^ j % 65536) / 128 ≡ n / 2 ^ (7 - j) % 2 ^ (j + 1))
sums zero p n h a b = glued 256 1 128 p n (omega arith) (omega arith) (omega arith) refl refl a b (omega arith)
sums (suc zero) p n h a b = glued 128 2 64 p n (omega arith) (omega arith) (omega arith) refl refl a b (omega arith)
sums (suc (suc zero)) p n h a b = glued 64 4 32 p n (omega arith) (omega arith) (omega arith) refl refl a b (omega arith)
sums (suc (suc (suc zero))) p n h a b = glued 32 8 16 p n (omega arith) (omega arith) (omega arith) refl refl a b (omega arith)
sums (suc (suc (suc (suc zero)))) p n h a b = glued 16 16 8 p n (omega arith) (omega arith) (omega arith) refl refl a b (omega arith)
sums (suc (suc (suc (suc (suc zero))))) p n h a b = glued 8 32 4 p n (omega arith) (omega arith) (omega arith) refl refl a b (omega arith)
sums (suc (suc (suc (suc (suc (suc zero)))))) p n h a b = glued 4 64 2 p n (omega arith) (omega arith) (omega arith) refl refl a b (omega arith)
sums (suc (suc (suc (suc (suc (suc (suc j))))))) p n h a b = absurd (omega arith)

-- the ways through bits_at
module _ (s : List ℕ) where
  carried-small : (i : ℕ) → carried_to s i < 256
  unfolding carried_to
  carried-small i =
      let l : i % 8 ≤ 8 = omega arith in
      lt_of_lt_of_le (mod-lt (get_or s (i - i / 8 - 1) 0 / 2 ^ (8 - i % 8)) (pow_pos (i % 8))) (pow_mono l)

module _ (s : List ℕ) (i : ℕ) where
  -- the octet that septet i ends in, and the one before it
  abbrev last : ℕ
  last = get_or s (i - i / 8) 0

  abbrev before : ℕ
  before = get_or s (i - i / 8 - 1) 0

  reads : before < 256 → septet_at s i ≡ (before + 256 * last) / 2 ^ (8 - i % 8) % 128
  unfolding septet_at
  reads l = go (i % 8) refl
    where
      go : (j : ℕ) → i % 8 ≡ j → septet_at s i ≡ (before + 256 * last) / 2 ^ (8 - i % 8) % 128
      go zero e =
          let a : 7 * i / 8 ≡ i - i / 8 = omega arith in
          let b : 7 * i % 8 ≡ 0 = omega arith in
          rw (a, b, e) (omega arith)
      go (suc j) e =
          let a : 7 * i / 8 ≡ i - i / 8 - 1 = omega arith in
          let b : 7 * i % 8 ≡ 8 - i % 8 = omega arith in
          let d : i - i / 8 - 1 + 1 ≡ i - i / 8 = omega arith in
          rw (a, b, d) refl

  next : i % 8 < 7 → carried_to s (i + 1) ≡ last / 2 ^ (7 - i % 8) % 2 ^ (i % 8 + 1)
  unfolding carried_to
  next h =
      let a : i + 1 - (i + 1) / 8 - 1 ≡ i - i / 8 = omega arith in
      let b : 8 - (i + 1) % 8 ≡ 7 - i % 8 = omega arith in
      let d : (i + 1) % 8 ≡ i % 8 + 1 = omega arith in
      rw (a, b, d) refl

  pub seven-left : i % 8 ≡ 7 → (carried_to s i % 128 ≡ septet_at s i) × (carried_to s i / 128 ≡ carried_to s (i + 1))
  unfolding carried_to septet_at
  seven-left e =
      let a : 7 * i / 8 ≡ i - i / 8 - 1 = omega arith in
      let b : 7 * i % 8 ≡ 1 = omega arith in
      let g : i + 1 ≡ 8 * (i / 8 + 1) = omega arith in
      let d : (i + 1) % 8 ≡ 0 = ap (λ (m : ℕ). m % 8) g ∙ mul-mod_right 8 (i / 8 + 1) in
      let f : (before + 256 * get_or s (i - i / 8 - 1 + 1) 0) / 2 ≡ before / 2 + 128 * get_or s (i - i / 8 - 1 + 1) 0 = omega arith in
      (rw (a, b, e, f) (omega arith), rw (d, e) (div-eq_of_lt (mod-lt (before / 2) (omega arith)) ∙ sym (mod-one _)))

  pub fewer-left : (i % 8 ≡ 7 → ⊥) → before < 256 → last < 256
      → ((carried_to s i + last * 2 ^ (i % 8) % 65536) % 128 ≡ septet_at s i) × ((carried_to s i + last * 2 ^ (i % 8) % 65536) / 128 ≡ carried_to s (i + 1))
  unfolding carried_to
  fewer-left h a b =
      let m : i % 8 ≤ 7 = omega arith in
      let l : i % 8 < 7 = ⊎_elim (λ e. absurd (h e)) (λ k. k) (eq-or-lt_of_le m) in
      let t = sums (i % 8) before last l a b in
      (t.0 ∙ sym (reads a), t.1 ∙ sym (next l))

  pub bits_fit : (i % 8 ≡ 7 → ⊥) → before < 256 → last < 256 → carried_to s i + last * 2 ^ (i % 8) % 65536 < 65536
  bits_fit h a b =
      let t = (fewer-left h a b).1 in
      let l = carried-small s (i + 1) in
      omega arith

-- whole eights of septets fill whole sevens of octets
whole-sevens : (n : ℕ) → (n + n / 7) % 8 ≡ 0 → n % 7 ≡ 0
whole-sevens n e = omega arith

whole-eights : (n : ℕ) → n % 7 ≡ 0 → (n + n / 7) % 8 ≡ 0
whole-eights n e = omega arith

-- the ways through septets_sent
module _ (s : List ℕ) where
  pub no-boundary : ((length s + length s / 7) % 8 ≡ 0 → ⊥) → length s + length s / 7 ≡ septets_sent s
  unfolding septets_sent
  no-boundary h = rw (ne_eqb _ _ (λ e. h (whole-eights (length s) e)), held-is (length s))

  module _ (w : (length s + length s / 7) % 8 ≡ 0) (n : length s ≡ 0 → ⊥) (o : get_or s (length s - 1) 0 < 256) where
    pub no-pad : (get_or s (length s - 1) 0 / 2 ≡ 13 → ⊥) → length s + length s / 7 ≡ septets_sent s
    unfolding septets_sent
    no-pad h = let e = whole-sevens (length s) w in rw (eq-eqb _ _ e, last-septet s e n o, ne_eqb _ _ h, held-is (length s))

    pub pad : get_or s (length s - 1) 0 / 2 ≡ 13 → length s + length s / 7 - 1 ≡ septets_sent s
    unfolding septets_sent
    pad h = let e = whole-sevens (length s) w in rw (eq-eqb _ _ e, last-septet s e n o, eq-eqb _ _ h, held-is (length s))

pub no-octets : (s : List ℕ) → length s ≡ 0 → 0 ≡ septets_sent s
unfolding septets_sent septet_at
no-octets [] e = refl
no-octets (a ∷ s) e = absurd (omega arith)

pub length-septets : (s : List ℕ) (i n : ℕ) → length (septets_from s i n) ≡ n
unfolding septets_from
length-septets s i zero = refl
length-septets s i (suc n) = ap suc (length-septets s (suc i) n)

pub get_or-septets : (s : List ℕ) (i n j : ℕ) → j < n → get_or (septets_from s i n) j 0 ≡ septet_at s (i + j)
unfolding septets_from
get_or-septets s i zero j h = absurd (not-suc-le-zero h)
get_or-septets s i (suc n) zero h = ap (septet_at s) (sym (add-zero i))
get_or-septets s i (suc n) (suc j) h = get_or-septets s (suc i) n j (le_of_suc-le-suc h) ∙ ap (septet_at s) (omega arith)
