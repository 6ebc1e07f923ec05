use native.Mathlib.Omega.{arith}
use mathlib.Core.Path.{◌≡◌, refl}
use Prim.Native.Nat.{ℕ, zero, suc, ◌+◌, ◌<◌}
use lib.ListN.{get_or}
use Rattle.records.proofs.Paths.{no-octet, zero-record, cut_record, whole-record}
use Rattle.records.proofs.read_record.Goals as goal

pub returns-then-s-lt1 : goal.returns-then-s-lt1
returns-then-s-lt1 c = (no-octet c.args.s.now c.if-s-lt1.true, tt)

pub returns-then-n-eq0 : goal.returns-then-n-eq0
returns-then-n-eq0 c = (zero-record c.args.s.now (omega arith) c.if-n-eq0.true, tt)

pub returns-then-s-n : goal.returns-then-s-n
returns-then-s-n c = (cut_record c.args.s.now (omega arith) c.if-n-eq0.false (omega arith), tt)

pub returns : goal.returns
returns c =
    let n = get_or c.args.s.now 0 0 in
    let z : n ≡ 0 → ⊥ = c.if-n-eq0.false in
    (whole-record c.args.s.now (omega arith) z _ refl (omega arith), (refl, (above n z, omega arith)))
  where
    above : (k : ℕ) → (k ≡ 0 → ⊥) → 1 < 1 + k
    above zero z = absurd (z refl)
    above (suc k) z = omega arith
