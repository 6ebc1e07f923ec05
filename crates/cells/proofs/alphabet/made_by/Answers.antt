use mathlib.Core.Path.{sym, ◌∙◌}
use Rattle.cells.proofs.AlphabetLaws.{mark-there, marked, currency, mark-turned, itself}
use Rattle.cells.proofs.alphabet.made_by.Goals as goal

pub mark-requires : goal.mark-requires
mark-requires c =
    rw c.place_of-place.ensures (mark-there c.args.escaped c.args.septet c.requires (rw c.place_of-place.ensures at c.if-place-ne59.true))

pub returns-then-place-ne59 : goal.returns-then-place-ne59
returns-then-place-ne59 c =
    c.mark.ensures ∙ rw c.place_of-place.ensures (marked c.args.escaped c.args.septet c.requires (rw c.place_of-place.ensures at c.if-place-ne59.true))

pub returns-then-septet-eq36 : goal.returns-then-septet-eq36
returns-then-septet-eq36 c =
    currency c.args.escaped c.args.septet c.requires (sym c.place_of-place.ensures ∙ c.if-place-ne59.false) c.if-septet-eq36.true

pub returns-then-septet-eq64 : goal.returns-then-septet-eq64
returns-then-septet-eq64 c =
    mark-turned c.args.escaped c.args.septet c.requires (sym c.place_of-place.ensures ∙ c.if-place-ne59.false) c.if-septet-eq36.false c.if-septet-eq64.true

pub returns : goal.returns
returns c =
    itself c.args.escaped c.args.septet c.requires (sym c.place_of-place.ensures ∙ c.if-place-ne59.false) c.if-septet-eq36.false c.if-septet-eq64.false
