-- A block's tests in their order, and the first fault of a file.
use Prim.Native.Nat.{ℕ, zero, suc, ◌+◌, ◌≤◌, ◌<◌}
use mathlib.Core.Path.{◌≡◌, refl, sym, ap, ◌∙◌}
use mathlib.Core.List.{List, [], ◌∷◌}
use mathlib.Core.Option.{Option, none, some}
use mathlib.Core.Bool.{Bool, true, false, ◌&&◌}
use native.Mathlib.Omega.{arith}
use native.Mathlib.Nat.{zero-add, add-zero}
use lib.ListN.{length, get_or, take}
use lib.Dec.{eqb, leb}
use Rattle.octets.specs.Unless.{unless}
use Rattle.octets.specs.Reader.{Answer, fault, sound, and_then, check}
use Rattle.octets.proofs.FaultLaws.{Faults, then-faults, check-faults}
use Rattle.trace.specs.Numbers.{sum_of}
use Rattle.trace.specs.Records.{Record, bad_record, records_in}
use Rattle.trace.specs.Blocks.{short_block, wrong_sum, wrong_use, wrong_number, number_in, used_in, sum_in, record_part, rest_part, all_zero, block_records, records_at, fault_of}
use Rattle.trace.specs.Files.{Refusal, Reading, blocks_in, read_on, read_from, read_file}
use Rattle.trace.specs.Seen.{is_sound}
use Rattle.trace.proofs.RecordLaws.{records-fault}
use Rattle.trace.proofs.FaultLaws.{OfBlock, block-faults}
use Rattle.trace_promises.specs.Faults.{first_of, tests, InOrder, SoundBefore, Tells, FirstFault}

-- the tests by what each says
ordered : (long sums used rest placed : Bool) (o : Answer (List Record)) → Faults (λ n. n ≡ bad_record) o
    → fault_of (and_then (check long short_block (check sums wrong_sum (check used wrong_use (check rest bad_record o)))) (λ records. check placed wrong_number (sound records)))
    ≡ unless long 32 (unless sums 33 (unless used 34 (unless (rest && is_sound o) 35 (unless placed 36 0))))
ordered false sums used rest placed o f = refl
ordered true false used rest placed o f = refl
ordered true true false rest placed o f = refl
ordered true true true false placed o f = refl
ordered true true true true placed (fault n) f = f
ordered true true true true false (sound row) f = refl
ordered true true true true true (sound row) f = refl

pub in_order_lem : InOrder
unfolding records_at block_records
in_order_lem place b =
    ordered (eqb (length b) 512) (eqb (sum_of (take 510 b)) (sum_in b)) (leb (used_in b) 504) (all_zero (rest_part b)) (eqb (number_in b) place)
    (records_in (record_part b)) (records-fault (record_part b))

-- from 32 to 36
abbrev AtPlace : ℕ → Type 0
AtPlace n = (32 ≤ n) × (n ≤ 36)

place-faults : (place : ℕ) (b : List ℕ) → Faults AtPlace (records_at place b)
unfolding records_at
place-faults place b =
    then-faults AtPlace (block_records b) _ (go (block_records b) (block-faults b)) λ row.
    check-faults AtPlace (eqb (number_in b) place) wrong_number (sound row) (omega arith, omega arith) tt
  where
    go : (o : Answer (List Record)) → Faults OfBlock o → Faults AtPlace o
    go (fault n) f = let h = f.1 in (f.0, omega arith)
    go (sound row) f = tt

-- the same of blocks that follow k others
abbrev SoundFrom : ℕ → List (List ℕ) → ℕ → Type 0
SoundFrom k blocks n = (i : ℕ) → i < n → first_of (tests (k + i) (get_or blocks i [])) ≡ 0

record RefusedFrom (k : ℕ) (blocks : List (List ℕ)) (r : Refusal) : Type 0 where
  behind : ℕ
  place : r.place ≡ k + behind
  within : behind < length blocks
  before : SoundFrom k blocks behind
  number : first_of (tests (k + behind) (get_or blocks behind [])) ≡ r.number
  range : AtPlace r.number

abbrev TellsFrom : ℕ → List (List ℕ) → Option Refusal → Type 0
TellsFrom k blocks none = SoundFrom k blocks (length blocks)
TellsFrom k blocks (some r) = RefusedFrom k blocks r

module _ (k : ℕ) (b : List ℕ) (others : List (List ℕ)) where
  sound-on : first_of (tests k b) ≡ 0 → (n : ℕ) → SoundFrom (suc k) others n → SoundFrom k (b ∷ others) (suc n)
  sound-on z n h zero l = rw (add-zero k) z
  sound-on z n h (suc i) l = let e : k + suc i ≡ suc k + i = omega arith in rw e (h i (omega arith))

  tells-on : first_of (tests k b) ≡ 0 → (x : Option Refusal) → TellsFrom (suc k) others x → TellsFrom k (b ∷ others) x
  tells-on z none h = sound-on z (length others) h
  tells-on z (some r) h =
      let e : k + suc h.behind ≡ suc k + h.behind = omega arith in
      let w = h.within in
      record {
        behind = suc h.behind;
        place = h.place ∙ sym e;
        within = omega arith;
        before = sound-on z h.behind h.before;
        number = rw e h.number;
        range = h.range;
      }

  tells-step : (o : Answer (List Record)) → records_at k b ≡ o → Faults AtPlace o → (behind : Reading) → TellsFrom (suc k) others behind.refused
      → TellsFrom k (b ∷ others) (read_on k o behind).refused
  tells-step (fault n) e f behind h =
      record {
        behind = 0;
        place = sym (add-zero k);
        within = omega arith;
        before = λ i l. absurd (omega arith);
        number = rw (add-zero k) (sym (in_order_lem k b) ∙ ap fault_of e);
        range = f;
      }
  tells-step (sound row) e f behind h = tells-on (sym (in_order_lem k b) ∙ ap fault_of e) behind.refused h

tells-from : (k : ℕ) (blocks : List (List ℕ)) → TellsFrom k blocks (read_from k blocks).refused
unfolding read_from
tells-from k [] = λ i l. absurd (omega arith)
tells-from k (b ∷ others) = tells-step k b others (records_at k b) refl (place-faults k b) (read_from (suc k) others) (tells-from (suc k) others)

-- with none before them
sound-first : (blocks : List (List ℕ)) (n : ℕ) → SoundFrom 0 blocks n → SoundBefore blocks n
sound-first blocks n h = λ i l. rw (zero-add i) at (h i l)

tells_first : (blocks : List (List ℕ)) (x : Option Refusal) → TellsFrom 0 blocks x → Tells blocks x
tells_first blocks none h = sound-first blocks (length blocks) h
tells_first blocks (some r) h =
    let p : r.place ≡ h.behind = h.place ∙ zero-add h.behind in
    rw p (h.within, (sound-first blocks h.behind h.before, (rw (zero-add h.behind) at h.number, h.range)))

pub first-fault : FirstFault
unfolding read_file
first-fault file = tells_first (blocks_in file) (read_file file).refused (tells-from 0 (blocks_in file))
