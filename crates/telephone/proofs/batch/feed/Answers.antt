use Prim.Native.Nat.{◌+◌}
use lib.ListN.{length}
use native.Mathlib.Omega.{arith}
use Rattle.octets.proofs.PartLaws.{rest_part_lem, left_over, none_left}
use Rattle.telephone.proofs.BatchLaws.{feeding-first, feeding-record, feeding-within, feeding-step, output-fed, table-fed}
use Rattle.telephone.proofs.batch.feed.Goals as goal

pub loop-rest-init : goal.loop-rest-init
loop-rest-init c = feeding-first _ _ _ c.requires

pub message_at-message-requires : goal.message_at-message-requires
message_at-message-requires c = feeding-record c.loop-rest.invariant (left_over _ c.loop-rest-test.ensures)

pub fill_slot-requires : goal.fill_slot-requires
fill_slot-requires c = (feeding-within c.loop-rest.invariant _ c.message_at-message.ensures.octets).0

pub overflow_add-rest : goal.overflow_add-rest
overflow_add-rest c =
    let w = feeding-within c.loop-rest.invariant _ c.message_at-message.ensures.octets in
    omega arith

pub slice_bounds-rest-start : goal.slice_bounds-rest-start
slice_bounds-rest-start c = (feeding-within c.loop-rest.invariant _ c.message_at-message.ensures.octets).1

pub slice_bounds-rest-count : goal.slice_bounds-rest-count
slice_bounds-rest-count c = (feeding-within c.loop-rest.invariant _ c.message_at-message.ensures.octets).1

pub overflow_add-at : goal.overflow_add-at
overflow_add-at c =
    let w = feeding-within c.loop-rest.invariant _ c.message_at-message.ensures.octets in
    omega arith

pub loop-rest-smaller : goal.loop-rest-smaller
loop-rest-smaller c =
    let w = feeding-within c.loop-rest.invariant _ c.message_at-message.ensures.octets in
    omega arith

pub loop-rest-preserved : goal.loop-rest-preserved
loop-rest-preserved c =
    feeding-step c.loop-rest.invariant _ c.message_at-message.ensures.octets _ _ _ c.fill_slot.ensures.table c.fill_slot.ensures.output c.fill_slot.auto.table c.fill_slot.auto.output (rest_part_lem (1 + length c.message_at-message.result.now) c.loop-rest.rest.now)

pub returns : goal.returns
returns c =
    let n = none_left _ c.loop-rest-test.ensures in
    record { output = output-fed c.loop-rest.invariant n; table = table-fed c.loop-rest.invariant n }
