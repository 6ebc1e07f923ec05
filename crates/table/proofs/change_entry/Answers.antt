use Rattle.std.proofs.Common.{ℕ, List, ap, subst, ◌∙◌, ◌*◌}
use Rattle.octets.specs.Splice.{splice}
use Rattle.table.specs.Table.{size, image_in}
use Rattle.table.specs.Raw.{slot_of, IsOctets, slot_octets, slot_changed}
use Rattle.table.specs.declared.Slot.{Slot}
use Rattle.table.proofs.TableLaws.{fits-at}
use Rattle.table.proofs.Steps.{part-image, change-is}
use Rattle.table.proofs.change_entry.Goals as goal

pub image_of-requires : goal.image_of-requires
image_of-requires c = fits-at c.args.table.now c.args.k c.requires.0 c.requires.1.0

pub write_slot-requires : goal.write_slot-requires
write_slot-requires c = fits-at c.args.table.now c.args.k c.requires.0 c.requires.1.0

pub returns : goal.returns
returns c =
    let a = c.args in
    let i = ap (λ (s : List ℕ). image_in s 0) c.image_of.ensures ∙ part-image a.table.now a.k (fits-at a.table.now a.k c.requires.0 c.requires.1.0) in
    c.write_slot.ensures
    ∙ ap (λ (x : Slot). splice a.table.now (size * a.k) (slot_octets x)) (c.changed-next.ensures.value ∙ ap (λ (x : Slot). slot_changed x a.change) (c.read_slot.ensures.value ∙ ap slot_of i))
    ∙ change-is a.table.now a.k a.change c.requires.0 c.requires.1.0 (subst IsOctets i c.read_slot.ensures.octets) c.changed-next.ensures.change_fits c.requires.1.1
