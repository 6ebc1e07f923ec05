use lib.ListN.{length}
use Rattle.trace_lines.proofs.ShownLaws.{part-fits, text-refused, text-sound, fills}
use Rattle.trace.proofs.FaultLaws.{at-sound, not_0}
use native.Mathlib.Omega.{arith}
use mathlib.Core.Path.{sym, ◌∙◌, ap}
use Rattle.trace_lines.proofs.shown.print_block.Goals as goal

pub returns-in-Err : goal.returns-in-Err
returns-in-Err c =
    let a = c.args in
    let text = text-refused a.place a.block.now _ (c.number-number.ensures ∙ c.in-Err.ensures) (λ z. not_0 _ (sym c.number-number.ensures ∙ z)) in
    record { page = fills 16384 80 _ _ _ _ c.clear.ensures text (omega arith) c.four_line.ensures; refused = c.in-Err.ensures }

pub record_part-requires : goal.record_part-requires
record_part-requires c = let w = (at-sound c.args.place c.args.block.now (sym c.in_default.ensures)).1.1.long in omega (arith, w)

pub record_lines-requires : goal.record_lines-requires
record_lines-requires c =
    let w = part-fits c.args.place c.args.block.now (sym c.in_default.ensures) in
    rw c.record_part.ensures (omega arith, (w.0, omega (arith, w.1, ap length c.clear.ensures)))

pub returns : goal.returns
returns c =
    let a = c.args in
    let z = sym c.in_default.ensures in
    let w = part-fits a.place a.block.now z in
    let text = rw c.record_part.ensures at c.record_lines.ensures in
    record { page = fills 16384 _ _ _ _ _ c.clear.ensures (text-sound a.place a.block.now z) (omega (arith, w.1)) text; refused = c.in_default.ensures }
