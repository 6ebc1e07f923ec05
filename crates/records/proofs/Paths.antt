-- What the definition of a record says on each path through the code.
use Prim.Native.Nat.{ℕ, ◌+◌, ◌-◌, ◌≤◌, ◌<◌}
use mathlib.Core.Path.{◌≡◌}
use mathlib.Core.List.{List}
use native.Mathlib.Omega.{arith}
use lib.ListN.{length, get_or, drop}
use borrow.Author.Tests.{ne_eqb}
use Rattle.octets.specs.Part.{between}
use Rattle.octets.specs.Reader.{fault, took}
use Rattle.octets.proofs.ReaderLaws.{octet-at, octet-cut, front_at, front_cut}
use Rattle.records.specs.Records.{bad_record, one_record}

module _ (s : List ℕ) where
  pub no-octet : length s < 1 → fault bad_record ≡ one_record s
  unfolding one_record
  no-octet h = rw (octet-cut bad_record 0 s (omega arith))

  module _ (l : 0 < length s) where
    pub zero-record : get_or s 0 0 ≡ 0 → fault bad_record ≡ one_record s
    unfolding one_record
    zero-record e = rw (octet-at bad_record 0 s l, e)

    module _ (n : get_or s 0 0 ≡ 0 → ⊥) where
      pub cut_record : length s < 1 + get_or s 0 0 → fault bad_record ≡ one_record s
      unfolding one_record
      cut_record h = rw (octet-at bad_record 0 s l, ne_eqb (get_or s 0 0) 0 n, front_cut bad_record (get_or s 0 0) 1 s (omega arith) h)

      pub whole-record : (end : ℕ) → end ≡ 1 + get_or s 0 0 → end ≤ length s → took (between 1 end s) (drop end s) ≡ one_record s
      unfolding one_record
      whole-record end e h =
          let k : 1 + get_or s 0 0 - 1 ≡ get_or s 0 0 = omega arith in
          rw (e, octet-at bad_record 0 s l, ne_eqb (get_or s 0 0) 0 n, front_at bad_record (get_or s 0 0) 1 s (omega arith), k)
