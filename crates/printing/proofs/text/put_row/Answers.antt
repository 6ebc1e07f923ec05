use mathlib.Core.List.{[], ◌∷◌}
use native.Mathlib.Omega.{arith}
use Rattle.printing.specs.Utf8.{cell_text}
use Rattle.printing.proofs.JoinLaws.{join}
use Rattle.printing.proofs.text.put_row.Goals as goal

pub returns : goal.returns
returns c =
    let a = c.args in
    let j = join a.page.now a.at (cell_text a.characters.now) (10 ∷ []) _ _ _ _ (omega arith) (c.put_cells-behind.ensures.0, c.put_cells-behind.ensures.1.0) c.put_words.ensures in
    (j.0, (j.1, omega arith))
