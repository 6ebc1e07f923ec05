-- The contracts leave one answer: two that say the same of the records are equal.
use Prim.Native.Nat.{ℕ}
use mathlib.Core.Path.{◌≡◌, refl, ap}
use mathlib.Core.List.{List}
use native.Mathlib.Omega.{arith}
use Rattle.octets.specs.Seen.{part_read, PartWithin}
use Rattle.std.specs.Prelude.{Option, None, Some}
use Rattle.octets.specs.declared.Span.{Span}
use Rattle.octets.proofs.Determined.{read-determined}
use Rattle.octets.proofs.ReaderLaws.{sound-inj}
use Rattle.records.specs.Records.{bad_record}
use Rattle.records.specs.Seen.{RecordWithin, count_seen}

within : (s : List ℕ) (r : Option Span) → RecordWithin s r → PartWithin s r
within s None h = tt
within s (Some p) h = let l = h.1.0 in (omega arith, h.1.1)

pub record-determined : (s : List ℕ) (r q : Option Span) → RecordWithin s r → RecordWithin s q → part_read bad_record s r ≡ part_read bad_record s q → r ≡ q
record-determined s r q a b e = read-determined bad_record s r q (within s r a) (within s q b) e

pub count-determined : (r q : Option ℕ) → count_seen r ≡ count_seen q → r ≡ q
count-determined None None e = refl
count-determined None (Some n) e = cc
count-determined (Some n) None e = cc
count-determined (Some n) (Some k) e = ap Some (sound-inj e)
