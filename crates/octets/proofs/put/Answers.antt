use native.Mathlib.Omega.{arith}
use mathlib.Core.Path.{◌∙◌}
use native.Mathlib.Nat.{le_antisymm}
use lib.Seq.{paste-zero}
use Rattle.octets.proofs.SpliceLaws.{turn, whole}
use Rattle.octets.proofs.put.Goals as goal

pub loop-j-init : goal.loop-j-init
loop-j-init c = paste-zero c.args.buf.now c.args.at c.args.src.now

pub loop-j-preserved : goal.loop-j-preserved
loop-j-preserved c =
    let a = c.args in turn a.buf.now a.at a.src.now c.loop-j.buf c.loop-j.j c.loop-j.invariant (omega arith) c.loop-j-test.true

pub returns : goal.returns
returns c =
    let a = c.args in c.loop-j.invariant ∙ whole a.buf.now a.at a.src.now c.loop-j.j (le_antisymm c.loop-j.auto.j-end c.loop-j-test.false)
