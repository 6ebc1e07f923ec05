use native.Mathlib.Omega.{arith}
use mathlib.Core.Path.{refl}
use Rattle.elements.proofs.Paths.{no_length, short, one-cut, one, other, two-cut, two}
use Rattle.elements.proofs.read_length.Goals as goal

pub returns-then-s-lt1 : goal.returns-then-s-lt1
returns-then-s-lt1 c = (no_length c.args.s.now c.if-s-lt1.true, tt)

pub returns-then-first-lt128 : goal.returns-then-first-lt128
returns-then-first-lt128 c = (short c.args.s.now (omega arith) _ refl c.if-first-lt128.true, omega arith)

pub returns-then-s-lt2 : goal.returns-then-s-lt2
returns-then-s-lt2 c = (one-cut c.args.s.now (omega arith) c.if-first.true c.if-s-lt2.true, tt)

pub returns-then-first : goal.returns-then-first
returns-then-first c = (one c.args.s.now (omega arith) _ refl c.if-first.true c.if-s-lt2.false, omega (arith, c.type_inv.s 1))

pub returns-then-first-2 : goal.returns-then-first-2
returns-then-first-2 c = (other c.args.s.now (omega arith) c.if-first-lt128.false c.if-first.false c.if-first-2.true, tt)

pub returns-then-s-lt3 : goal.returns-then-s-lt3
returns-then-s-lt3 c = (two-cut c.args.s.now (omega arith) c.if-first-2.false c.if-s-lt3.true, tt)

pub overflow_mul-result : goal.overflow_mul-result
overflow_mul-result c = omega (arith, c.type_inv.s 1)

pub overflow_add-result : goal.overflow_add-result
overflow_add-result c = omega (arith, c.type_inv.s 1, c.type_inv.s 2)

pub returns : goal.returns
returns c = (two c.args.s.now (omega arith) c.if-first-2.false c.if-s-lt3.false, omega (arith, c.type_inv.s 1, c.type_inv.s 2))
