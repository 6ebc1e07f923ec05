use Rattle.trace.proofs.RecordLaws.{good-was}
use Rattle.trace.proofs.CallPaths.{add-refused, add-bad, add-full, add_done}
use Rattle.trace.proofs.FaultLaws.{sound-row, not_0}
use Rattle.trace.specs.Blocks.{used_in}
use Rattle.trace.specs.Records.{Record}
use Rattle.std.proofs.Common.{sym, ◌∙◌}
use Rattle.std.proofs.lemmas.Result.{err_from_is_err_and}
use Rattle.trace.proofs.writing.add_record.Goals as goal

pub returns-in_err-block_fault : goal.returns-in_err-block_fault
returns-in_err-block_fault c =
    let a = c.args in
    let p = err_from_is_err_and c.from_residual.result c.from_residual.ensures.1 in
    let e = c.in_err-block_fault.ensures in
    let w = add-refused a.block.now (record { direction = a.direction; message = a.message.now }) (λ z. not_0 _ (e ∙ z)) in
    record { answer = rw (p.1, p.2, e) w.0; block = w.1 }

pub returns-then-not-is_good : goal.returns-then-not-is_good
returns-then-not-is_good c =
    let a = c.args in
    let w = add-bad a.block.now (record { direction = a.direction; message = a.message.now }) (sym c.in_ok-block_fault.ensures) (sym c.if-not-is_good.ensures) in
    record { answer = w.0; block = w.1 }

pub returns-then-used-message-gt504 : goal.returns-then-used-message-gt504
unfolding used_in
returns-then-used-message-gt504 c =
    let a = c.args in
    let r : Record = record { direction = a.direction; message = a.message.now } in
    let w = add-full a.block.now r (sym c.in_ok-block_fault.ensures) (sym c.if-not-is_good.ensures) (rw c.pair_at-used.ensures at c.if-used-message-gt504.true) in
    record { answer = w.0; block = w.1 }

pub put_record-requires : goal.put_record-requires
unfolding used_in
put_record-requires c =
    let a = c.args in
    let s = (sound-row a.block.now (sym c.in_ok-block_fault.ensures)).1 in
    let g = good-was (record { direction = a.direction; message = a.message.now }) (sym c.if-not-is_good.ensures) in
    (c.pair_at-used.ensures, (s.rest, (c.if-used-message-gt504.false, g.1.1)))

pub returns : goal.returns
unfolding used_in
returns c =
    let a = c.args in
    let r : Record = record { direction = a.direction; message = a.message.now } in
    let w = add_done a.block.now r (sym c.in_ok-block_fault.ensures) (sym c.if-not-is_good.ensures) (rw c.pair_at-used.ensures at c.if-used-message-gt504.false) in
    record { answer = w.0; block = c.put_record.ensures ∙ w.1 }
