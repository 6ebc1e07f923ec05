use mathlib.Core.Path.{sym, ◌∙◌}
use native.Mathlib.Omega.{arith}
use lib.ListN.{drop}
use Rattle.printing.specs.Utf8.{cell_text}
use Rattle.printing.proofs.CellLaws.{cells-length, first_cell, no_cell}
use Rattle.printing.proofs.JoinLaws.{piece, ended}
use Rattle.printing.proofs.text.put_cells.Goals as goal

pub loop-character-preserved : goal.loop-character-preserved
loop-character-preserved c =
    let s = c.args.characters.now in
    let l = c.loop-character in
    let p = c.put_character-place in
    let b = cells-length s in
    let f = first_cell l.character-index s (omega arith) in
    let t = piece l.page l.place (cell_text (drop l.character-index s)) _ _ p.new.page p.result f (omega arith) (p.ensures.0, p.ensures.1.0) in
    (omega arith, (p.auto.page ∙ l.invariant.1.0, (t.0 ∙ l.invariant.1.1.0, t.1 ∙ l.invariant.1.1.1)))

pub returns : goal.returns
returns c =
    let s = c.args.characters.now in
    let l = c.loop-character in
    let e = ended l.page l.place (cell_text (drop l.character-index s)) (no_cell l.character-index s (omega arith)) in
    (sym e.0 ∙ l.invariant.1.1.0, (omega arith, omega arith))
