use mathlib.Core.Path.{◌≡◌}
use mathlib.Core.List.{[], ◌∷◌}
use Prim.Native.Nat.{◌<◌, ◌≤◌, ◌-◌}
use native.Mathlib.Omega.{arith}
use borrow.Author.Tests.{lt-ltb, le-ltb}
use Rattle.codes.proofs.IdLaws.{handed}
use Rattle.codes.specs.Ids.{octet_of}
use Rattle.printing.specs.Numbers.{id_text, decimal}
use Rattle.printing.proofs.JoinLaws.{join}
use Rattle.printing.proofs.numbers.put_id.Goals as goal

pub returns-then-octet-lt128 : goal.returns-then-octet-lt128
unfolding id_text
returns-then-octet-lt128 c =
    let e : c.octet_of-octet.result ≡ octet_of c.args.id = handed c.ranges.id c.octet_of-octet.ensures in
    let l : octet_of c.args.id < 128 = omega arith in
    rw (lt-ltb _ _ l, ← e) (c.put_decimal.ensures.0, (c.put_decimal.ensures.1.0, omega arith))

pub returns-else-octet-lt128 : goal.returns-else-octet-lt128
unfolding id_text
returns-else-octet-lt128 c =
    let a = c.args in
    let e : c.octet_of-octet.result ≡ octet_of a.id = handed c.ranges.id c.octet_of-octet.ensures in
    let l : 128 ≤ octet_of a.id = omega arith in
    let j = join a.page.now a.at (45 ∷ []) (decimal (256 - c.octet_of-octet.result)) _ _ _ _ (omega arith) c.put_words-next.ensures (c.put_decimal-else-octet-lt128.ensures.0, c.put_decimal-else-octet-lt128.ensures.1.0) in
    rw (le-ltb _ _ l, ← e) (j.0, (j.1, omega arith))
