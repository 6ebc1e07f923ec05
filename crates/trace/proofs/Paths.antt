-- What the definitions say on each path through the code.
use Rattle.std.proofs.Common.{◌≡◌, ℕ, ◌+◌, ◌-◌, ◌<◌, ◌≤◌, true, false, List, length, get_or, take, drop, sym, refl, arith, drop-drop, eq-eqb, ne_eqb, le-leb}
use borrow.Author.Tests.{lt-leb}
use Rattle.octets.specs.Part.{between}
use Rattle.octets.specs.Reader.{Answer, fault, sound, took}
use Rattle.octets.proofs.ReaderLaws.{octet-at, octet-cut}
use Rattle.records.specs.Records.{one_record}
use Rattle.octets.proofs.FaultLaws.{Faults}
use Rattle.trace.specs.Numbers.{sum_of}
use Rattle.trace.specs.Records.{Record, bad_record, trace_record, records_in}
use Rattle.trace.specs.Blocks.{short_block, wrong_sum, wrong_use, sum_in, used_in, record_part, rest_part, all_zero, block_records, fault_of}
use Rattle.trace.specs.Seen.{is_sound}
use Rattle.trace.proofs.RecordLaws.{records-fault}

-- a record
module _ (s : List ℕ) where
  pub no-octet : length s ≤ 0 → fault bad_record ≡ trace_record s
  unfolding trace_record
  no-octet h = rw (octet-cut bad_record 0 s h)

  module _ (d : ℕ) (f : d ≡ get_or s 0 0) (l : 0 < length s) where
    pub no-direction : 1 < d → fault bad_record ≡ trace_record s
    unfolding trace_record
    no-direction h = rw (octet-at bad_record 0 s l, ← f, lt-leb d 1 h)

    module _ (h : d ≤ 1) where
      pub no-message : (n : ℕ) → fault n ≡ one_record (drop 1 s) → fault bad_record ≡ trace_record s
      unfolding trace_record
      no-message n e = rw (octet-at bad_record 0 s l, ← f, le-leb d 1 h, ← e)

      pub whole-record : (start end : ℕ) → start ≡ 1 → took (between start end (drop 1 s)) (drop end (drop 1 s)) ≡ one_record (drop 1 s)
          → took (record { direction = d; message = between 2 (1 + end) s }) (drop (1 + end) s) ≡ trace_record s
      unfolding trace_record
      whole-record start end q e =
          let k : 1 + end - 2 ≡ end - 1 = omega arith in
          rw (octet-at bad_record 0 s l, ← f, le-leb d 1 h, ← e, q, drop-drop end 1 s, drop-drop 1 1 s, k)

-- a block
module _ (b : List ℕ) where
  pub is-short : (length b ≡ 512 → ⊥) → short_block ≡ fault_of (block_records b)
  unfolding block_records
  is-short h = rw (ne_eqb (length b) 512 h)

  module _ (l : length b ≡ 512) where
    pub bad_sum_lem : (sum_of (take 510 b) ≡ sum_in b → ⊥) → wrong_sum ≡ fault_of (block_records b)
    unfolding block_records
    bad_sum_lem h = rw (eq-eqb (length b) 512 l, ne_eqb (sum_of (take 510 b)) (sum_in b) h)

    module _ (m : sum_of (take 510 b) ≡ sum_in b) where
      pub bad-use : 504 < used_in b → wrong_use ≡ fault_of (block_records b)
      unfolding block_records
      bad-use h = rw (eq-eqb (length b) 512 l, eq-eqb (sum_of (take 510 b)) (sum_in b) m, lt-leb (used_in b) 504 h)

      module _ (u : used_in b ≤ 504) where
        pub bad-rest : all_zero (rest_part b) ≡ false → bad_record ≡ fault_of (block_records b)
        unfolding block_records
        bad-rest h = rw (eq-eqb (length b) 512 l, eq-eqb (sum_of (take 510 b)) (sum_in b) m, le-leb (used_in b) 504 u, h)

        module _ (z : all_zero (rest_part b) ≡ true) where
          pub bad-records : is_sound (records_in (record_part b)) ≡ false → bad_record ≡ fault_of (block_records b)
          unfolding block_records
          bad-records h =
              rw (eq-eqb (length b) 512 l, eq-eqb (sum_of (take 510 b)) (sum_in b) m, le-leb (used_in b) 504 u, z)
              (go (records_in (record_part b)) (records-fault (record_part b)) h)
            where
              go : (o : Answer (List Record)) → Faults (λ n. n ≡ bad_record) o → is_sound o ≡ false → bad_record ≡ fault_of o
              go (fault n) f e = sym f
              go (sound row) f e = cc

          pub no-fault : is_sound (records_in (record_part b)) ≡ true → 0 ≡ fault_of (block_records b)
          unfolding block_records
          no-fault h =
              rw (eq-eqb (length b) 512 l, eq-eqb (sum_of (take 510 b)) (sum_in b) m, le-leb (used_in b) 504 u, z)
              (go (records_in (record_part b)) h)
            where
              go : (o : Answer (List Record)) → is_sound o ≡ true → 0 ≡ fault_of o
              go (fault n) e = cc
              go (sound row) e = refl
