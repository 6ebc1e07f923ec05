use native.Mathlib.Omega.{arith}
use mathlib.Core.Path.{◌≡◌, ap, ◌∙◌}
use lib.ListN.{length, length-set}
use Rattle.telephone.specs.Batch.{fed}
use Rattle.telephone.proofs.BatchLaws.{fed-written, fed-buffer, filled}
use Rattle.telephone.specs.declared.receive.Received.{Received}
use Rattle.telephone.proofs.batch.fill_slot.Goals as goal

pub overflow_cast-output : goal.overflow_cast-output
unfolding fed
overflow_cast-output c =
    let a = c.args in
    let w : c.smr_receive-received.result.written ≡ (fed a.table.now a.message.now).written = ap (λ (r : Received). r.written) c.smr_receive-received.ensures.returned in
    let h = fed-written a.table.now a.message.now in
    omega arith

pub bounds-output-at-2 : goal.bounds-output-at-2
bounds-output-at-2 c = simp length-set (omega arith)

pub put-requires : goal.put-requires
unfolding fed
put-requires c =
    let l : length c.smr_receive-received.new.reply ≡ 12 = ap length c.smr_receive-received.ensures.reply ∙ fed-buffer c.args.table.now c.args.message.now in
    simp length-set (omega arith)

pub returns : goal.returns
unfolding fed
returns c =
    let a = c.args in
    record {
      output = c.put.ensures
          ∙ filled a.output.now a.at _ _ _ (fed a.table.now a.message.now) c.requires (ap (λ (r : Received). r.code) c.smr_receive-received.ensures.returned) (ap (λ (r : Received). r.written) c.smr_receive-received.ensures.returned) c.smr_receive-received.ensures.reply;
      table = c.smr_receive-received.ensures.table;
    }
