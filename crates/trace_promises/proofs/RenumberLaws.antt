-- A block that is given a number: it says that number, and all else of it but the sum stays.
use Prim.Native.Nat.{ℕ, ◌+◌, ◌-◌, ◌*◌, ◌≤◌, ◌<◌}
use mathlib.Core.Path.{◌≡◌, sym, ap, ◌∙◌}
use mathlib.Core.List.{List, ◌++◌}
use native.Mathlib.Omega.{arith}
use lib.ListN.{length, take, drop, get_or, length-append}
use lib.Seq.{take_at, take-take, drop-drop}
use Rattle.octets.specs.Part.{between}
use Rattle.octets.specs.Reader.{sound}
use Rattle.octets.proofs.PartLaws.{length-between, get_d_between, from-taken}
use Rattle.trace.specs.Numbers.{two, four, sum_of}
use Rattle.trace.specs.Records.{Record, records_in}
use Rattle.trace.specs.Blocks.{number_in, used_in, sum_in, record_part, rest_part, all_zero, sealed, block_records}
use Rattle.trace.specs.Salvage.{renumbered}
use Rattle.trace.proofs.FaultLaws.{IsSound, sound-was, sound-is}
use Rattle.trace_promises.proofs.SealLaws.{sealed-length, sealed-sum, sealed-number}

-- what stands between the number and the sum says all else

inner : (b : List ℕ) (from to : ℕ) → 4 ≤ from → to ≤ 510 → between from to b ≡ take (to - from) (drop (from - 4) (between 4 510 b))
inner b from to h l =
    let e : 4 + (from - 4) ≡ from = omega arith in
    from-taken from to b
    ∙ ap (drop from) (sym (take-take to 510 b l))
    ∙ sym (from-taken from to (take 510 b))
    ∙ ap (λ (i : ℕ). take (to - from) (drop i (take 510 b))) (sym e)
    ∙ ap (take (to - from)) (sym (drop-drop (from - 4) 4 (take 510 b)) ∙ ap (drop (from - 4)) (sym (from-taken 4 510 b)))

module _ (b c : List ℕ) (same : between 4 510 b ≡ between 4 510 c) where
  same-part : (from to : ℕ) → 4 ≤ from → to ≤ 510 → between from to b ≡ between from to c
  same-part from to h l = inner b from to h l ∙ ap (λ (s : List ℕ). take (to - from) (drop (from - 4) s)) same ∙ sym (inner c from to h l)

  same-octet : (i : ℕ) → i < 506 → get_or b (4 + i) 0 ≡ get_or c (4 + i) 0
  same-octet i h = sym (get_d_between 4 510 b i h) ∙ ap (λ (s : List ℕ). get_or s i 0) same ∙ get_d_between 4 510 c i h

  same-used : used_in b ≡ used_in c
  unfolding used_in
  same-used = λ i. same-octet 0 (omega arith) i * 256 + same-octet 1 (omega arith) i

  same-records : used_in c ≤ 504 → record_part b ≡ record_part c
  unfolding record_part
  same-records h = rw same-used (same-part 6 (6 + used_in c) (omega arith) (omega arith))

  same_rest : rest_part b ≡ rest_part c
  unfolding rest_part
  same_rest = rw same-used (same-part (6 + used_in c) 510 (omega arith) (omega arith))

  -- so with a sum of its own it has the same records
  same-sound : (row : List Record) → length b ≡ 512 → sum_of (take 510 b) ≡ sum_in b → IsSound c row → IsSound b row
  same-sound row l s h =
      record {
        long = l;
        sums = s;
        used = rw same-used h.used;
        rest = ap all_zero same_rest ∙ h.rest;
        records = ap records_in (same-records h.used) ∙ h.records;
      }

-- the number

module _ (k : ℕ) (b : List ℕ) (l : length b ≡ 512) where
  front_length : length (four k ++ between 4 510 b) ≡ 510
  front_length = rw (length-append (four k) (between 4 510 b), length-between 4 510 b (omega arith))

  pub renumbered-length : length (renumbered k b) ≡ 512
  unfolding renumbered
  renumbered-length = sealed-length (four k ++ between 4 510 b) front_length

  renumbered-same : between 4 510 (renumbered k b) ≡ between 4 510 b
  unfolding renumbered sealed
  renumbered-same = take_at (between 4 510 b) (two (sum_of (four k ++ between 4 510 b))) 506 (length-between 4 510 b (omega arith))

  renumbered-sums : sum_of (take 510 (renumbered k b)) ≡ sum_in (renumbered k b)
  unfolding renumbered
  renumbered-sums = sealed-sum (four k ++ between 4 510 b) front_length

pub renumbered-sound : (k : ℕ) (b : List ℕ) (row : List Record) → block_records b ≡ sound row → block_records (renumbered k b) ≡ sound row
renumbered-sound k b row e =
    let h = sound-was b row e in
    sound-is (renumbered k b) row (same-sound (renumbered k b) b (renumbered-same k b h.long) row (renumbered-length k b h.long) (renumbered-sums k b h.long) h)

pub renumbered-number : (k : ℕ) (b : List ℕ) → k < 4294967296 → number_in (renumbered k b) ≡ k
unfolding renumbered
renumbered-number k b h = sealed-number k (between 4 510 b) h
