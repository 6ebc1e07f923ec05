use Prim.Native.Nat.{◌-◌, ◌/◌}
use native.Mathlib.Omega.{arith}
use Rattle.cells.proofs.SeptetLaws.{seven-left, fewer-left, bits_fit}
use Rattle.cells.proofs.septets.bits_at.Goals as goal

pub returns-then-i-eq7 : goal.returns-then-i-eq7
returns-then-i-eq7 c =
    let r = seven-left c.args.string.now c.args.i c.if-i-eq7.true in
    record { septet = rw c.requires.1 r.0; rest = rw c.requires.1 r.1 }

pub overflow_cast-result-2 : goal.overflow_cast-result-2
overflow_cast-result-2 c =
    let h = (c.type_inv.string (c.args.i - c.args.i / 8)).fits in
    omega (arith, h)

pub overflow_add-result : goal.overflow_add-result
overflow_add-result c =
    let a = c.args in
    let h = bits_fit a.string.now a.i c.if-i-eq7.false (c.type_inv.string (a.i - a.i / 8 - 1)).fits (c.type_inv.string (a.i - a.i / 8)).fits in
    rw c.requires.1 (record { fits = h })

pub returns : goal.returns
returns c =
    let a = c.args in
    let r = fewer-left a.string.now a.i c.if-i-eq7.false (c.type_inv.string (a.i - a.i / 8 - 1)).fits (c.type_inv.string (a.i - a.i / 8)).fits in
    record { septet = rw c.requires.1 r.0; rest = rw c.requires.1 r.1 }
