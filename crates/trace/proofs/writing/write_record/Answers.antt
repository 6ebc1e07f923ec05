use Rattle.std.proofs.Common.{ap, ◌∙◌}
use Rattle.std.proofs.lemmas.Result.{err_from_is_err_and}
use Rattle.trace.proofs.CallPaths.{wrote-refused, wrote-added, wrote-full}
use Rattle.trace.specs.Calls.{add_leaves}
use Rattle.trace.specs.declared.Traced.{Traced}
use Rattle.trace.specs.Records.{Record}
use Rattle.trace.proofs.writing.write_record.Goals as goal

pub returns-in_err-add_record : goal.returns-in_err-add_record
returns-in_err-add_record c =
    let a = c.args in
    let p = err_from_is_err_and c.from_residual.result c.from_residual.ensures.1 in
    let e = c.in_err-add_record.ensures in
    let w = wrote-refused a.held.now a.number (record { direction = a.direction; message = a.message.now }) a.full.now _ e.answer in
    record { answer = rw (p.1, p.2) w.0; number = rw (p.1, p.2) (ap (λ (t : Traced). t.code) e.answer); held = e.block ∙ w.1.0; full = w.1.1 }

pub returns-then-branch : goal.returns-then-branch
returns-then-branch c =
    let a = c.args in
    let e = c.in_ok-add_record.ensures in
    let w = wrote-added a.held.now a.number (record { direction = a.direction; message = a.message.now }) a.full.now (rw c.if-branch.true at e.answer) in
    record { answer = w.0; number = tt; held = e.block ∙ w.1.0; full = w.1.1 }

pub returns : goal.returns
returns c =
    let a = c.args in
    let r : Record = record { direction = a.direction; message = a.message.now } in
    let e = c.in_ok-add_record.ensures in
    let w = wrote-full a.held.now a.number r a.full.now (rw c.if-branch.false at e.answer) in
    record {
      answer = w.0;
      number = tt;
      held = c.add_record-2.ensures.block ∙ ap (λ t. add_leaves t r) c.begin_block.ensures ∙ w.1.0;
      full = c.copy_from_slice.ensures.after ∙ e.block ∙ w.1.1;
    }
