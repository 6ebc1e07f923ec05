-- Blocks: what is written into one, part by part.
use Rattle.std.proofs.Common.{◌≡◌, ℕ, ◌+◌, ◌-◌, ◌≤◌, true, eqb, List, [], ◌∷◌, ◌++◌, length, take, drop, sym, refl, ap, ◌∙◌, append_assoc, append-nil, arith, length-append, take-append-drop, drop_of_length-le, length-take-le, drop-drop, take_at, drop_at, eqb-true}
use lib.ListN.{length-replicate, replicate-append-replicate}
use lib.Seq.{drop-append-add}
use Rattle.octets.specs.Part.{between}
use Rattle.octets.specs.Splice.{splice}
use Rattle.octets.proofs.TestLaws.{both}
use Rattle.octets.proofs.PartLaws.{length-between}
use Rattle.octets.proofs.SpliceLaws.{splice-splice, splice_front}
use Rattle.trace.specs.Numbers.{two, four}
use Rattle.trace.specs.Blocks.{used_in, record_part, rest_part, all_zero, zeros, sealed, body, block_of}
use Rattle.trace.specs.Calls.{with_record}
use Rattle.trace.specs.Salvage.{renumbered}

-- octets written over a part as long as they are
pub splice-part : (x y z w : List ℕ) (at : ℕ) → length x ≡ at → length y ≡ length w → splice (x ++ (y ++ z)) at w ≡ x ++ (w ++ z)
unfolding splice
splice-part x y z w at e l =
    rw (take_at x (y ++ z) at e, ← e, drop-append-add x (y ++ z) (length w), drop_at y z (length w) l)
    (append_assoc x w z)

-- the sum behind the first 510 octets
pub seal-put : (b : List ℕ) (n : ℕ) → length b ≡ 512 → splice b 510 (two n) ≡ take 510 b ++ two n
unfolding splice
seal-put b n e = rw (drop_of_length-le b {i = 512} (omega arith)) (append-nil (take 510 b ++ two n))

pub zeros-are : (s : List ℕ) → all_zero s ≡ true → s ≡ zeros (length s)
zeros-are [] h = refl
zeros-are (a ∷ s) h = let w = both (eqb a 0) (all_zero s) h in rw (eqb-true a 0 w.0, ← zeros-are s w.1)

-- a number at the front, and the empty block
pub number_put : (b : List ℕ) (n : ℕ) → sealed (take 510 (splice b 0 (four n))) ≡ renumbered n b
unfolding renumbered
number_put b n = rw (splice_front b (four n))

pub empty_block : (n k : ℕ) → k ≡ 512 → renumbered n (zeros k) ≡ block_of n []
unfolding renumbered block_of body
empty_block n k e = rw e

-- a record behind those of a block, part by part: number, use count, records, rest, sum
module _ (a u r o s : List ℕ) (used k j : ℕ) (la : length a ≡ 4) (lu : length u ≡ 2) (lr : length r ≡ used) (lo : length o ≡ k) (all : used + k + j ≡ 504) where
  put-behind : splice (a ++ (u ++ (r ++ (zeros (k + j) ++ s)))) (6 + used) o ≡ a ++ (u ++ (r ++ (o ++ (zeros j ++ s))))
  put-behind =
      let x : length (a ++ u ++ r) ≡ 6 + used = simp (length-append, la, lu, lr) (omega arith) in
      let y : length (zeros k) ≡ length o = length-replicate k 0 ∙ sym lo in
      let z : zeros (k + j) ≡ zeros k ++ zeros j = sym (replicate-append-replicate k j 0) in
      rw (z, append_assoc (zeros k) (zeros j) s) (simp append_assoc at (splice-part (a ++ u ++ r) (zeros k) (zeros j ++ s) o (6 + used) x y))

  put_all : take 510 (splice (splice (a ++ (u ++ (r ++ (zeros (k + j) ++ s)))) (6 + used) o) 4 (two (used + k))) ≡ a ++ body (r ++ o)
  unfolding body
  put_all =
      let n : length (r ++ o) ≡ used + k = simp (length-append, lr, lo) in
      let q : 504 - (used + k) ≡ j = omega arith in
      let f : length (a ++ (two (used + k) ++ (r ++ o ++ zeros j))) ≡ 510 = simp (length-append, la, lr, lo, length-replicate) (omega arith) in
      rw (put-behind, splice-part a u (r ++ (o ++ (zeros j ++ s))) (two (used + k)) 4 la lu, n, q, append_assoc r o (zeros j))
      (simp append_assoc at (take_at (a ++ (two (used + k) ++ (r ++ o ++ zeros j))) s 510 f))

-- a block is its parts
pub onward : (from to : ℕ) (b : List ℕ) → from ≤ to → drop from b ≡ between from to b ++ drop to b
onward from to b h =
    let e : from + (to - from) ≡ to = omega arith in
    sym (take-append-drop (to - from) (drop from b)) ∙ ap (λ (t : List ℕ). between from to b ++ t) (drop-drop (to - from) from b ∙ ap (λ (n : ℕ). drop n b) e)

pub block-parts : (b : List ℕ) → used_in b ≤ 504 → b ≡ take 4 b ++ (between 4 6 b ++ (record_part b ++ (rest_part b ++ drop 510 b)))
unfolding record_part rest_part
block-parts b h =
    sym (take-append-drop 4 b)
    ∙ ap (λ (t : List ℕ). take 4 b ++ t) (onward 4 6 b (omega arith)
    ∙ ap (λ (t : List ℕ). between 4 6 b ++ t) (onward 6 (6 + used_in b) b (omega arith)
    ∙ ap (λ (t : List ℕ). between 6 (6 + used_in b) b ++ t) (onward (6 + used_in b) 510 b (omega arith))))

pub record-length : (b : List ℕ) → length b ≡ 512 → used_in b ≤ 504 → length (record_part b) ≡ used_in b
unfolding record_part
record-length b e h = length-between 6 (6 + used_in b) b (omega arith) ∙ omega arith

rest-length : (b : List ℕ) → length b ≡ 512 → used_in b ≤ 504 → length (rest_part b) ≡ 504 - used_in b
unfolding rest_part
rest-length b e h = length-between (6 + used_in b) 510 b (omega arith) ∙ omega arith

-- what the code writes of a record: direction and length, the message, the use count, the sum
pub record-put : (b : List ℕ) (d : ℕ) (m : List ℕ) (used : ℕ) → length b ≡ 512 → used ≡ used_in b → all_zero (rest_part b) ≡ true → used + 2 + length m ≤ 504
    → sealed (take 510 (splice (splice (splice b (6 + used) (d ∷ length m ∷ [])) (8 + used) m) 4 (two (used + 2 + length m)))) ≡ with_record b (record { direction = d; message = m })
unfolding with_record
record-put b d m used e v z l =
    let o : List ℕ = d ∷ length m ∷ m in
    let j : ℕ = 504 - (used + length o) in
    let h : used_in b ≤ 504 = omega arith in
    let lr : length (record_part b) ≡ used = record-length b e h ∙ sym v in
    let k : 504 - used_in b ≡ length o + j = omega arith in
    let r : rest_part b ≡ zeros (length o + j) = zeros-are (rest_part b) z ∙ ap zeros (rest-length b e h ∙ k) in
    let x : 8 + used ≡ 6 + used + 2 = omega arith in
    let y : used + 2 + length m ≡ used + length o = omega arith in
    let p : b ≡ take 4 b ++ (between 4 6 b ++ (record_part b ++ (zeros (length o + j) ++ drop 510 b))) =
    block-parts b h ∙ ap (λ (t : List ℕ). take 4 b ++ (between 4 6 b ++ (record_part b ++ (t ++ drop 510 b)))) r in
    let q : splice (splice b (6 + used) (d ∷ length m ∷ [])) (8 + used) m ≡ splice b (6 + used) o =
    rw x (splice-splice b (6 + used) (d ∷ length m ∷ []) m (omega arith)) in
    let w = put_all (take 4 b) (between 4 6 b) (record_part b) o (drop 510 b) used (length o) j
    (length-take-le 4 b (omega arith)) (length-between 4 6 b (omega arith)) lr refl (omega arith) in
    rw (q, y) (ap sealed (ap (λ (t : List ℕ). take 510 (splice (splice t (6 + used) o) 4 (two (used + length o)))) p ∙ w))
