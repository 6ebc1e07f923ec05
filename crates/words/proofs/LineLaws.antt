-- Lines of the input: the first octet of what is left decides, and what a piece of a line leaves.
use Prim.Native.Nat.{ℕ, suc, ◌+◌, ◌-◌, ◌<◌, ◌≤◌}
use mathlib.Core.Path.{◌≡◌, refl, sym, ap, ◌∙◌}
use mathlib.Core.List.{List, [], ◌∷◌}
use mathlib.Core.Bool.{Bool, true, false, cond, not}
use Rattle.std.specs.List.{prefix_len}
use Rattle.std.proofs.lemmas.List.Sums.{prefix_len-le-length}
use native.Mathlib.Numerals.{add-one}
use native.Mathlib.Omega.{arith}
use lib.ListN.{length, drop, length-drop}
use lib.Seq.{length-take-le, drop-drop}
use lib.Dec.{eqb, ltb}
use borrow.Author.Tests.{lt-ltb, le-ltb, ltb-true, ltb-false}
use Rattle.octets.specs.Part.{between}
use Rattle.octets.proofs.PartLaws.{rest_part_lem}
use Rattle.octets.specs.Splice.{splice}
use Rattle.words.specs.Lines.{line_end, piece, held, with_piece, gathered}

-- as the library counts them
pub line-counted : (s : List ℕ) → prefix_len (λ x. not (eqb x 10)) s ≡ line_end s
unfolding line_end
line-counted [] = refl
line-counted (c ∷ s) = elim (eqb c 10) as (λ b. cond (not b) (1 + prefix_len (λ x. not (eqb x 10)) s) 0 ≡ cond b 0 (suc (line_end s))) [
  | true ↦ refl
  | false ↦ let e = line-counted s in omega arith
]

pub ends-within : (s : List ℕ) → line_end s ≤ length s
ends-within s = rw (← line-counted s) (prefix_len-le-length (λ x. not (eqb x 10)) s)

-- the piece as the code cuts it, and its length
pub cut-is : (s : List ℕ) (from end : ℕ) → end ≡ from + line_end (drop from s) → between from end s ≡ piece s from
unfolding piece
cut-is s from end e = let f : end - from ≡ line_end (drop from s) = omega arith in rw f

pub piece-ends : (s : List ℕ) (from : ℕ) → from + length (piece s from) ≡ from + line_end (drop from s)
unfolding piece
piece-ends s from = ap (λ (n : ℕ). from + n) (length-take-le (line_end (drop from s)) (drop from s) (ends-within (drop from s)))

pub piece-within : (s : List ℕ) (from : ℕ) → from ≤ length s → from + length (piece s from) ≤ length s
piece-within s from h =
    let w = ends-within (drop from s) in
    let e = piece-ends s from in
    let l = length-drop from s in
    omega arith

-- the next line begins behind the line's end, if the input has it
pub next-whole : (b : Bool) (end next : ℕ) → b ≡ true → next ≡ end + 1 → next ≡ cond b (suc end) end
next-whole b end next e q = rw e (q ∙ add-one end)

pub next-cut : (b : Bool) (end next : ℕ) → b ≡ false → next ≡ end → next ≡ cond b (suc end) end
next-cut b end next e q = rw e q

next-by : (b : Bool) (end n : ℕ) → ltb end n ≡ b → end ≤ n → cond b (suc end) end ≤ n
next-by true end n e h = let l = ltb-true end n e in omega arith
next-by false end n e h = h

-- where the line ends in the input
pub end-is : (s : List ℕ) (from n : ℕ) → n ≡ line_end (between from (length s) s) → from + n ≡ from + line_end (drop from s)
end-is s from n e = rw (e, rest_part_lem)

pub end-within : (s : List ℕ) (from end : ℕ) → from ≤ length s → end ≡ from + line_end (drop from s) → end ≤ length s
end-within s from end h e = omega (arith, ends-within (drop from s), length-drop from s)

module _ (s line more : List ℕ) (from have end next : ℕ) (h : from ≤ length s) (e : end ≡ from + line_end (drop from s)) (m : more ≡ between from end s) (z : next ≡ cond (ltb end (length s)) (suc end) end) where
  more-is : more ≡ piece s from
  more-is = m ∙ cut-is s from end e

  end_is : end ≡ from + length (piece s from)
  end_is = e ∙ sym (piece-ends s from)

  next-within : next ≤ length s
  next-within = let w : end ≤ length s = rw end_is (piece-within s from h) in rw z (next-by (ltb end (length s)) end (length s) refl w)

  gathered-is : (n : ℕ) → n ≡ held have (piece s from) → record { next = next; have = n; is_whole = ltb end (length s) } ≡ gathered s from have
  unfolding gathered
  gathered-is n q = rw (← end_is) (λ i. record { next = z i; have = q i; is_whole = ltb end (length s) })

  -- the line is too long by now
  pub gather-long : 16384 < have + length more
      → (record { next = next; have = 16385; is_whole = ltb end (length s) } ≡ gathered s from have) × ((line ≡ with_piece line have (piece s from)) × ((next ≤ length s) × (16385 ≤ 16385)))
  gather-long l =
      let t : ltb 16384 (have + length (piece s from)) ≡ true = lt-ltb 16384 (have + length (piece s from)) (rw (← more-is) l) in
      (gathered-is 16385 (rw t), (rw t, (next-within, omega arith)))

  pub gather-on : (after : List ℕ) → have + length more ≤ 16384 → after ≡ splice line have more
      → (record { next = next; have = have + length more; is_whole = ltb end (length s) } ≡ gathered s from have) × ((after ≡ with_piece line have (piece s from)) × ((next ≤ length s) × (have + length more ≤ 16385)))
  gather-on after l a =
      let t : ltb 16384 (have + length (piece s from)) ≡ false = le-ltb 16384 (have + length (piece s from)) (rw (← more-is) l) in
      (gathered-is (have + length more) (rw (t, more-is)), (rw t (a ∙ ap (λ (x : List ℕ). splice line have x) more-is), (next-within, omega arith)))

-- over what is left of the input: the same is gathered as from that place of the whole, and the same is left behind it

within-left : (from p n left : ℕ) → left ≡ n - from → (b : Bool) → ltb (from + p) n ≡ b → ltb (0 + p) left ≡ b
within-left from p n left e true t = let l = ltb-true (from + p) n t in lt-ltb (0 + p) left (omega arith)
within-left from p n left e false t = let l = ltb-false (from + p) n t in le-ltb (0 + p) left (omega arith)

next-left : (from p : ℕ) (b : Bool) → from + cond b (suc (0 + p)) (0 + p) ≡ cond b (suc (from + p)) (from + p)
next-left from p true = omega arith
next-left from p false = omega arith

module _ (input : List ℕ) (from : ℕ) where
  pub piece-left : piece (drop from input) 0 ≡ piece input from
  unfolding piece
  piece-left = refl

  pub some-left : ltb 0 (length (drop from input)) ≡ ltb from (length input)
  some-left =
      let w = within-left from 0 (length input) (length (drop from input)) (length-drop from input) (ltb (from + 0) (length input)) refl in
      let e : from + 0 ≡ from = omega arith in
      w ∙ ap (λ (n : ℕ). ltb n (length input)) e

  module _ (have : ℕ) where
    whole-left : ltb (0 + length (piece input from)) (length (drop from input)) ≡ ltb (from + length (piece input from)) (length input)
    whole-left =
        within-left from (length (piece input from)) (length input) (length (drop from input)) (length-drop from input)
        (ltb (from + length (piece input from)) (length input)) refl

    pub gathered-left : (from + (gathered (drop from input) 0 have).next ≡ (gathered input from have).next)
        × (((gathered (drop from input) 0 have).have ≡ (gathered input from have).have)
        × ((gathered (drop from input) 0 have).is_whole ≡ (gathered input from have).is_whole))
    unfolding gathered
    gathered-left =
        rw (piece-left, whole-left)
        (next-left from (length (piece input from)) (ltb (from + length (piece input from)) (length input)), (refl, refl))

    pub rest-left : drop (gathered (drop from input) 0 have).next (drop from input) ≡ drop (gathered input from have).next input
    rest-left = drop-drop (gathered (drop from input) 0 have).next from input ∙ ap (λ (n : ℕ). drop n input) gathered-left.0
