-- A block's faults: which numbers can come, and what holds of a block without any.
use Rattle.std.proofs.Common.{◌≡◌, ℕ, ◌<◌, ◌≤◌, Bool, true, false, eqb, leb, List, length, take, sym, refl, arith, eq-eqb, eqb-true, le-leb, leb-true}
use borrow.Author.Tests.{eqb-false}
use Rattle.octets.specs.Reader.{Answer, fault, sound, and_then, check}
use Rattle.octets.proofs.FaultLaws.{Faults, check-faults}
use Rattle.octets.proofs.ReaderLaws.{passed}
use Rattle.trace.specs.Faults.{number_of, fault_named}
use Rattle.trace.specs.declared.faults.Fault.{Fault}
use Rattle.trace.specs.Numbers.{sum_of}
use Rattle.trace.specs.Records.{Record, bad_record, records_in}
use Rattle.trace.specs.Blocks.{short_block, wrong_sum, wrong_use, wrong_number, records_at, number_in, sum_in, used_in, record_part, rest_part, all_zero, block_records, fault_of}
use Rattle.trace.proofs.RecordLaws.{records-fault}
use Rattle.trace.proofs.Paths.{is-short}

-- from 32 to 35
abbrev pub OfBlock : ℕ → Type 0
OfBlock n = (32 ≤ n) × (n ≤ 35)

pub block-faults : (b : List ℕ) → Faults OfBlock (block_records b)
unfolding block_records
block-faults b =
    check-faults OfBlock (eqb (length b) 512) short_block _ (omega arith, omega arith)
    (check-faults OfBlock (eqb (sum_of (take 510 b)) (sum_in b)) wrong_sum _ (omega arith, omega arith)
    (check-faults OfBlock (leb (used_in b) 504) wrong_use _ (omega arith, omega arith)
    (check-faults OfBlock (all_zero (rest_part b)) bad_record _ (omega arith, omega arith)
    (go (records_in (record_part b)) (records-fault (record_part b))))))
  where
    go : (o : Answer (List Record)) → Faults (λ n. n ≡ bad_record) o → Faults OfBlock o
    go (fault n) e = (omega arith, omega arith)
    go (sound row) e = tt

-- a block of 512 octets has one above 32, if any
pub whole-faults : (b : List ℕ) → length b ≡ 512 → Faults (λ n. 32 < n) (block_records b)
unfolding block_records
whole-faults b l =
    rw (eq-eqb (length b) 512 l)
    (check-faults (λ n. 32 < n) (eqb (sum_of (take 510 b)) (sum_in b)) wrong_sum _ (omega arith)
    (check-faults (λ n. 32 < n) (leb (used_in b) 504) wrong_use _ (omega arith)
    (check-faults (λ n. 32 < n) (all_zero (rest_part b)) bad_record _ (omega arith)
    (go (records_in (record_part b)) (records-fault (record_part b))))))
  where
    go : (o : Answer (List Record)) → Faults (λ n. n ≡ bad_record) o → Faults (λ n. 32 < n) o
    go (fault n) e = omega arith
    go (sound row) e = tt

-- the fault of a number, and none has the number 0
pub fault_back : (f : Fault) → fault_named (number_of f) ≡ f
fault_back Fault.WrongLength = refl
fault_back Fault.WrongSum = refl
fault_back Fault.TooMuchUsed = refl
fault_back Fault.BadRecords = refl
fault_back Fault.WrongNumber = refl

pub not_0 : (f : Fault) → number_of f ≡ 0 → ⊥
not_0 Fault.WrongLength e = omega arith
not_0 Fault.WrongSum e = omega arith
not_0 Fault.TooMuchUsed e = omega arith
not_0 Fault.BadRecords e = omega arith
not_0 Fault.WrongNumber e = omega arith

-- a block without a fault from 32 to 35
pub record IsSound (b : List ℕ) (row : List Record) : Type 0 where
  pub long : length b ≡ 512
  pub sums : sum_of (take 510 b) ≡ sum_in b
  pub used : used_in b ≤ 504
  pub rest : all_zero (rest_part b) ≡ true
  pub records : records_in (record_part b) ≡ sound row

pub sound-was : (b : List ℕ) (row : List Record) → block_records b ≡ sound row → IsSound b row
unfolding block_records
sound-was b row e =
    passed (eqb (length b) 512) short_block _ row e λ p q.
    passed (eqb (sum_of (take 510 b)) (sum_in b)) wrong_sum _ row q λ r s.
    passed (leb (used_in b) 504) wrong_use _ row s λ t u.
    passed (all_zero (rest_part b)) bad_record _ row u λ v w.
    record { long = eqb-true (length b) 512 p; sums = eqb-true (sum_of (take 510 b)) (sum_in b) r; used = leb-true (used_in b) 504 t; rest = v; records = w }

pub sound-is : (b : List ℕ) (row : List Record) → IsSound b row → block_records b ≡ sound row
unfolding block_records
sound-is b row h =
    rw (eq-eqb (length b) 512 h.long, eq-eqb (sum_of (take 510 b)) (sum_in b) h.sums, le-leb (used_in b) 504 h.used, h.rest) h.records

-- no fault: there are records
pub no-fault-sound : (o : Answer (List Record)) → Faults OfBlock o → fault_of o ≡ 0 → (row : List Record) × (o ≡ sound row)
no-fault-sound (fault n) f e = let h = f.0 in absurd (omega arith)
no-fault-sound (sound row) f e = (row, refl)

pub sound-row : (b : List ℕ) → fault_of (block_records b) ≡ 0 → (row : List Record) × IsSound b row
sound-row b e = let w = no-fault-sound (block_records b) (block-faults b) e in (w.0, sound-was b w.0 w.1)

-- any other fault than a short block: it is whole
pub is_whole : (b : List ℕ) → (fault_of (block_records b) ≡ 32 → ⊥) → length b ≡ 512
is_whole b h = go (eqb (length b) 512) refl
  where
    go : (t : Bool) → eqb (length b) 512 ≡ t → length b ≡ 512
    go true e = eqb-true (length b) 512 e
    go false e = absurd (h (sym (is-short b (eqb-false (length b) 512 e))))

-- no fault at its place: there are records
pub at-sound : (place : ℕ) (b : List ℕ) → fault_of (records_at place b) ≡ 0 → (row : List Record) × ((records_at place b ≡ sound row) × IsSound b row)
unfolding records_at
at-sound place b e = go (block_records b) refl (block-faults b) e
  where
    passes : (row : List Record) (t : Bool) → fault_of (check t wrong_number (sound row)) ≡ 0 → check t wrong_number (sound row) ≡ sound row
    passes row true e = refl
    passes row false e = absurd (omega arith)

    go : (o : Answer (List Record)) → block_records b ≡ o → Faults OfBlock o → fault_of (and_then o (λ records. check (eqb (number_in b) place) wrong_number (sound records))) ≡ 0
        → (row : List Record) × ((and_then o (λ records. check (eqb (number_in b) place) wrong_number (sound records)) ≡ sound row) × IsSound b row)
    go (fault n) q f e = let h = f.0 in absurd (omega arith)
    go (sound row) q f e = (row, (passes row (eqb (number_in b) place) e, sound-was b row q))

-- at its place: none is above 36
pub at-faults : (place : ℕ) (b : List ℕ) → Faults (λ n. n < 100) (records_at place b)
unfolding records_at
at-faults place b = go (block_records b) (block-faults b)
  where
    go : (o : Answer (List Record)) → Faults OfBlock o → Faults (λ n. n < 100) (and_then o (λ records. check (eqb (number_in b) place) wrong_number (sound records)))
    go (fault n) h = let u = h.1 in omega arith
    go (sound row) h = check-faults (λ n. n < 100) (eqb (number_in b) place) wrong_number (sound row) (omega arith) tt
