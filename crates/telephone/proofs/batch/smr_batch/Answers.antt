use mathlib.Core.Path.{sym, ◌∙◌}
use Rattle.telephone.proofs.BatchLaws.{refused-table, refused-records, refused-room, can-feed, wholly-fed}
use Rattle.telephone.proofs.batch.smr_batch.Goals as goal

pub returns-then-not-is_valid : goal.returns-then-not-is_valid
returns-then-not-is_valid c =
    let a = c.args in
    let r = refused-table a.table.now a.records.now a.output.now _ (sym c.is_valid.ensures ∙ c.if-not-is_valid.true) c.refused.ensures in
    record { returned = r.0; output = r.1.0; table = r.1.1 }

pub returns-in_default : goal.returns-in_default
returns-in_default c =
    let a = c.args in
    let r = refused-records a.table.now a.records.now a.output.now (sym c.is_valid.ensures ∙ c.if-not-is_valid.false) _ (rw c.in_default.is at c.count_records.ensures) c.refused-in_default.ensures in
    record { returned = r.0; output = r.1.0; table = r.1.1 }

pub returns-then-output-n : goal.returns-then-output-n
returns-then-output-n c =
    let a = c.args in
    let r = refused-room a.table.now a.records.now a.output.now (sym c.is_valid.ensures ∙ c.if-not-is_valid.false) _ (rw c.in-Some.is at c.count_records.ensures) _ c.if-output-n.true c.refused-then-output-n.ensures in
    record { returned = r.0; output = r.1.0; table = r.1.1 }

pub feed-requires : goal.feed-requires
feed-requires c =
    let a = c.args in can-feed a.table.now a.records.now a.output.now (sym c.is_valid.ensures ∙ c.if-not-is_valid.false) _ (rw c.in-Some.is at c.count_records.ensures) c.if-output-n.false

pub returns : goal.returns
returns c =
    let a = c.args in
    let r = wholly-fed a.table.now a.records.now a.output.now (sym c.is_valid.ensures ∙ c.if-not-is_valid.false) _ (rw c.in-Some.is at c.count_records.ensures) c.if-output-n.false _ _ c.feed.ensures.output c.feed.ensures.table in
    record { returned = r.0; output = r.1.0; table = r.1.1 }
