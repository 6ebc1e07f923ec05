use Rattle.std.proofs.Common.{refl, sym, ◌∙◌}
use borrow.Author.Tests.{eq-eqb, ne_eqb}
use mathlib.Core.Bool.{false≢true}
use Rattle.table.proofs.Steps.{closed_is, open_is, eight-of}
use Rattle.table.proofs.is_sound.Goals as goal
use Rattle.table.proofs.is_sound.Goals.{then-state-state_of, else-state-state_of}

pub returns-then-slot-eq0 : goal.returns-then-slot-eq0
returns-then-slot-eq0 c =
    let r = c.read_slot-slot in
    let whole = closed_is _ _ r.result refl r.ensures.value (eight-of c.args.image.now c.told-image) c.if-state-eq0.true in
    rw c.if-slot-eq0.true at whole

pub returns-else-slot-eq0 : goal.returns-else-slot-eq0
returns-else-slot-eq0 c =
    let r = c.read_slot-slot in
    let whole = closed_is _ _ r.result refl r.ensures.value (eight-of c.args.image.now c.told-image) c.if-state-eq0.true in
    let n = ne_eqb r.result.own 0 c.if-slot-eq0.false in
    n ∙ (rw n at whole)

pub returns-then-is_sound : goal.returns-then-is_sound
returns-then-is_sound c =
    let r = c.read_slot-slot in
    let whole = open_is _ _ _ r.result refl r.ensures.value (eight-of c.args.image.now c.told-image) r.ensures.octets c.if-state-eq0.false c.state_of.ensures in
    elim c.if-state-state_of.branch [
      | then-state-state_of w ↦ c.is_sound-then-is_sound.ensures ∙ (rw (eq-eqb _ _ w.if-state-state_of.true, sym w.is_sound.ensures ∙ sym w.value-is ∙ c.if-is_sound.true) at whole)
      | else-state-state_of w ↦ absurd (false≢true (sym (ne_eqb _ _ w.if-state-state_of.false) ∙ sym w.value-is ∙ c.if-is_sound.true))
    ]

pub returns-else-is_sound : goal.returns-else-is_sound
returns-else-is_sound c =
    let r = c.read_slot-slot in
    let whole = open_is _ _ _ r.result refl r.ensures.value (eight-of c.args.image.now c.told-image) r.ensures.octets c.if-state-eq0.false c.state_of.ensures in
    elim c.if-state-state_of.branch [
      | then-state-state_of w ↦ c.if-is_sound.false ∙ (rw (eq-eqb _ _ w.if-state-state_of.true, sym w.is_sound.ensures ∙ sym w.value-is ∙ c.if-is_sound.false) at whole)
      | else-state-state_of w ↦ c.if-is_sound.false ∙ (rw (ne_eqb _ _ w.if-state-state_of.false) at whole)
    ]
