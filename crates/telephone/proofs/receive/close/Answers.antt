use mathlib.Core.Path.{◌∙◌}
use Rattle.table.specs.Table.{entry_at}
use Rattle.table.proofs.ChangeLaws.{closes-holds}
use Rattle.telephone.proofs.Paths.{closes-is}
use Rattle.telephone.proofs.receive.close.Goals as goal

pub change_entry-requires : goal.change_entry-requires
change_entry-requires c =
    (c.requires.0, (c.requires.1, closes-holds (entry_at c.args.table.now c.args.k)))

pub returns : goal.returns
returns c =
    c.change_entry.ensures ∙ closes-is c.args.table.now c.args.k
