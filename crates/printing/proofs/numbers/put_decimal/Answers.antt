use mathlib.Core.Path.{◌≡◌, ◌∙◌}
use Prim.Native.Nat.{◌≤◌}
use native.Mathlib.Omega.{arith}
use lib.ListN.{take}
use Rattle.printing.specs.Numbers.{decimal}
use Rattle.printing.proofs.DecimalLaws.{at-most-twenty, is-decimal}
use Rattle.printing.proofs.numbers.put_decimal.Goals as goal

pub put_words-requires : goal.put_words-requires
put_words-requires c =
    let l : c.decimal-count.result ≤ 20 = at-most-twenty c.decimal-count.result c.args.n c.decimal-count.ensures.len c.ranges.n.fits in
    omega (arith, c.decimal-count.ensures.in_bounds)

pub returns : goal.returns
returns c =
    let a = c.args in
    let l : c.decimal-count.result ≤ 20 = at-most-twenty c.decimal-count.result a.n c.decimal-count.ensures.len c.ranges.n.fits in
    let e : take c.decimal-count.result c.decimal-count.new.out ≡ decimal a.n = c.decimal-count.ensures.digits ∙ is-decimal c.decimal-count.result a.n c.decimal-count.ensures.len l in
    (rw e at c.put_words.ensures.0, (rw e at c.put_words.ensures.1, omega (arith, c.put_words.ensures.1, c.decimal-count.ensures.in_bounds)))
