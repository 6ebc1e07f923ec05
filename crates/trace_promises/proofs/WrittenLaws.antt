-- A written block reads back: its parts, its number, its records.
use Prim.Native.Nat.{ℕ, zero, suc, ◌+◌, ◌-◌, ◌≤◌, ◌<◌}
use mathlib.Core.Path.{◌≡◌, refl, sym, ap, ◌∙◌}
use mathlib.Core.List.{List, [], ◌∷◌, ◌++◌, append_assoc, append-nil}
use mathlib.Core.Bool.{Bool, true, false, cond}
use native.Mathlib.Omega.{arith}
use lib.ListN.{length, take, drop, length-append, length-replicate}
use lib.Seq.{take_at, drop_at, drop-drop}
use borrow.Author.Tests.{leb-true, eq-eqb}
use Rattle.octets.specs.Reader.{sound}
use Rattle.trace.specs.Numbers.{two, four, sum_of}
use Rattle.trace.specs.Records.{Record, Good, good_record, record_octets, records_of, records_in}
use Rattle.trace.specs.Blocks.{number_in, used_in, sum_in, record_part, rest_part, all_zero, zeros, sealed, body, block_of, block_records, records_at}
use Rattle.trace.specs.Writing.{fits}
use Rattle.trace.proofs.RecordLaws.{good-was, records-back}
use Rattle.trace.proofs.FaultLaws.{IsSound, sound-is}
use Rattle.trace_promises.proofs.SealLaws.{two_back, sealed-length, sealed-sum, sealed-number}

zeros-zero : (k : ℕ) → all_zero (zeros k) ≡ true
zeros-zero zero = refl
zeros-zero (suc k) = zeros-zero k

-- number
module _ (n : ℕ) (row : List Record) where
  pub block-front : take 4 (block_of n row) ≡ four n
  unfolding block_of sealed
  block-front = refl

  block-number : n < 4294967296 → number_in (block_of n row) ≡ n
  unfolding block_of
  block-number h = sealed-number n (body (records_of row)) h

-- use count, records, rest, sum
module _ (n : ℕ) (row : List Record) (l : length (records_of row) ≤ 504) where
  front_length : length (four n ++ body (records_of row)) ≡ 510
  unfolding body
  front_length = simp (length-append, length-replicate) (omega arith)

  pub block-length : length (block_of n row) ≡ 512
  unfolding block_of
  block-length = sealed-length (four n ++ body (records_of row)) front_length

  block-sum : sum_of (take 510 (block_of n row)) ≡ sum_in (block_of n row)
  unfolding block_of
  block-sum = sealed-sum (four n ++ body (records_of row)) front_length

  pub block-used : used_in (block_of n row) ≡ length (records_of row)
  unfolding block_of sealed body used_in
  block-used = two_back (length (records_of row)) (omega arith)

  block-behind : drop 6 (block_of n row) ≡ records_of row ++ (zeros (504 - length (records_of row)) ++ two (sum_of (four n ++ body (records_of row))))
  unfolding block_of sealed body
  block-behind = append_assoc (records_of row) (zeros (504 - length (records_of row))) _

  pub block-part : record_part (block_of n row) ≡ records_of row
  unfolding record_part
  block-part =
      let e : 6 + length (records_of row) - 6 ≡ length (records_of row) = omega arith in
      rw (block-used, e, block-behind) (take_at (records_of row) _ (length (records_of row)) refl)

  block-rest : rest_part (block_of n row) ≡ zeros (504 - length (records_of row))
  unfolding rest_part
  block-rest =
      let e : 510 - (6 + length (records_of row)) ≡ 504 - length (records_of row) = omega arith in
      rw (block-used, e, ← drop-drop (length (records_of row)) 6 (block_of n row), block-behind, drop_at (records_of row) _ (length (records_of row)) refl)
      (take_at (zeros (504 - length (records_of row))) _ (504 - length (records_of row)) (length-replicate (504 - length (records_of row)) 0))

  module _ (good : Good row) where
    block-sound : IsSound (block_of n row) row
    block-sound =
        record {
          long = block-length;
          sums = block-sum;
          used = rw block-used l;
          rest = ap all_zero block-rest ∙ zeros-zero (504 - length (records_of row));
          records = ap records_in block-part ∙ records-back row good;
        }

    pub block_back : block_records (block_of n row) ≡ sound row
    block_back = sound-is (block_of n row) row block-sound

    pub block_at : n < 4294967296 → records_at n (block_of n row) ≡ sound row
    unfolding records_at
    block_at h = rw (block_back, eq-eqb (number_in (block_of n row)) n (block-number n row h))

-- rows: one behind another
records-joined : (a b : List Record) → records_of (a ++ b) ≡ records_of a ++ records_of b
records-joined [] b = refl
records-joined (r ∷ a) b = ap (λ (t : List ℕ). record_octets r ++ t) (records-joined a b) ∙ sym (append_assoc (record_octets r) (records_of a) (records_of b))

pub row-behind : (row : List Record) (r : Record) → records_of (row ++ (r ∷ [])) ≡ records_of row ++ record_octets r
row-behind row r = records-joined row (r ∷ []) ∙ ap (λ (t : List ℕ). records_of row ++ t) (append-nil (record_octets r))

-- a row that a block holds
abbrev pub Held : List Record → Type 0
Held row = Good row × (length (records_of row) ≤ 504)

good-behind : (row : List Record) (r : Record) → Good row → good_record r ≡ true → Good (row ++ (r ∷ []))
good-behind [] r h g = (g, tt)
good-behind (a ∷ row) r h g = (h.0, good-behind row r h.1 g)

-- so is a good record alone, and one that fits behind a row
pub held_first : (r : Record) → good_record r ≡ true → Held (r ∷ [])
held_first r g = let w = good-was r g in ((g, tt), rw (append-nil r.message) (omega arith))

pub held_more : (row : List Record) (r : Record) → Held row → good_record r ≡ true → fits row r ≡ true → Held (row ++ (r ∷ []))
held_more row r h g f =
    let l = leb-true (length (records_of row) + length (record_octets r)) 504 f in
    (good-behind row r h.0 g, rw (row-behind row r, length-append (records_of row) (record_octets r)) l)

-- by which way a test goes
pub by-test : {A : Type 0} (P : A → Type 0) (b : Bool) (x y : A) → (b ≡ true → P x) → (b ≡ false → P y) → P (cond b x y)
by-test P true x y this other = this refl
by-test P false x y this other = other refl
