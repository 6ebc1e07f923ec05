use Rattle.std.proofs.Common.{◌%◌, sym, ◌∙◌, arith}
use Rattle.codes.proofs.IdLaws.{held}
use Rattle.sides.specs.Seen.{listed_for}
use Rattle.sides.proofs.Numbers.{sound-zero}
use Rattle.sides.proofs.Steps.{unlisted-away, twice-away, goes_on}
use Rattle.sides.proofs.is_sound.Goals as goal
use Rattle.sides.proofs.is_sound.Goals.{then-not-is_listed-via-then-not-is_listed, then-not-is_listed-via-else-not-is_listed+then-is_among}

pub returns-then-not-is_listed : goal.returns-then-not-is_listed
returns-then-not-is_listed c =
    let a = c.args in
    let rest = c.loop-rest.rest in
    let i = c.loop-rest.invariant in
    let l = rw c.operation_in.ensures at c.is_listed.ensures in
    let id = held (rest % 256) (omega arith) (rw c.id_in.ensures at c.id_of-id.ensures) in
    elim c.then-not-is_listed.branch [
      | then-not-is_listed-via-then-not-is_listed w ↦ unlisted-away a.ours rest i.fits c.loop-rest-test.true (sym l ∙ w.if-not-is_listed.true) ∙ i.sound
      | then-not-is_listed-via-else-not-is_listed+then-is_among w ↦ twice-away a.ours rest i.fits c.loop-rest-test.true (sym (rw id at w.is_among.ensures) ∙ w.if-is_among.true) ∙ i.sound
    ]

pub loop-rest-preserved : goal.loop-rest-preserved
loop-rest-preserved c =
    let rest = c.loop-rest.rest in
    let i = c.loop-rest.invariant in
    let l = rw c.operation_in.ensures at c.is_listed.ensures in
    let id = held (rest % 256) (omega arith) (rw c.id_in.ensures at c.id_of-id.ensures) in
    record {
      fits = omega arith;
      sound = goes_on c.args.ours rest i.fits (sym l ∙ c.if-not-is_listed.false) (sym (rw id at c.is_among.ensures) ∙ c.if-is_among.false) ∙ i.sound;
    }

pub returns : goal.returns
returns c = sym (sound-zero (listed_for c.args.ours)) ∙ (rw c.loop-rest-test.false at c.loop-rest.invariant.sound)
