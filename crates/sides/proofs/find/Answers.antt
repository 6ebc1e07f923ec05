use Rattle.std.proofs.Common.{sym, ◌∙◌, add-one, arith}
use Rattle.codes.proofs.IdLaws.{as_held, held-is}
use Rattle.sides.proofs.Numbers.{shifted-suc}
use Rattle.sides.proofs.Steps.{found_here, found-behind, found_nowhere, found-is, found-none, before-four}
use Rattle.sides.proofs.find.Goals as goal

pub overflow_add-place : goal.overflow_add-place
overflow_add-place c =
    let i = c.loop-id.invariant in
    let h = found-behind c.loop-id.rest i.fits (rw c.operation_in.ensures at c.loop-id-test.true) (as_held c.args.id) (λ e. c.if-id_in-wanted.false (c.id_in.ensures ∙ e ∙ sym i.octet)) in
    let k = before-four (as_held c.args.id) c.args.side in
    record { fits = omega (arith, h.0, k, i.count) }

pub loop-id-preserved : goal.loop-id-preserved
loop-id-preserved c =
    let i = c.loop-id.invariant in
    let h = found-behind c.loop-id.rest i.fits (rw c.operation_in.ensures at c.loop-id-test.true) (as_held c.args.id) (λ e. c.if-id_in-wanted.false (c.id_in.ensures ∙ e ∙ sym i.octet)) in
    record {
      octet = i.octet;
      fits = omega (arith, i.fits);
      count = omega (arith, h.0, i.count);
      found = sym h.1 ∙ i.found;
      behind = rw (add-one c.loop-id.place, shifted-suc c.loop-id.place c.args.side, i.behind);
    }

pub returns-then-id_in-wanted : goal.returns-then-id_in-wanted
returns-then-id_in-wanted c =
    let i = c.loop-id.invariant in
    let h = found_here c.loop-id.rest i.fits (rw c.operation_in.ensures at c.loop-id-test.true) (as_held c.args.id) (sym c.id_in.ensures ∙ c.if-id_in-wanted.true ∙ i.octet) in
    found-is (held-is c.ranges.id) c.args.side c.loop-id.place c.loop-id.rest (omega (arith, h.0, i.count)) i.behind (sym i.found ∙ h.1)

pub returns : goal.returns
returns c =
    let i = c.loop-id.invariant in
    found-none (held-is c.ranges.id) c.args.side (sym i.found ∙ found_nowhere (as_held c.args.id) c.loop-id.rest (sym c.operation_in.ensures ∙ c.loop-id-test.false))
