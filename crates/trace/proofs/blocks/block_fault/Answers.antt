use Rattle.trace.proofs.Paths.{bad_sum_lem, bad-use, bad-rest, bad-records, no-fault}
use Rattle.trace.specs.Blocks.{sum_in, used_in, rest_part, record_part}
use Rattle.std.proofs.Common.{sym, ◌∙◌, rules}
use Rattle.trace.proofs.blocks.block_fault.Goals as goal

pub returns-then-sum_of-pair_at : goal.returns-then-sum_of-pair_at
unfolding sum_in
returns-then-sum_of-pair_at c = bad_sum_lem c.args.block.now (search rules) (λ e. c.if-sum_of-pair_at.true (c.sum_of.ensures ∙ e ∙ sym c.pair_at.ensures))

pub returns-then-used-gt504 : goal.returns-then-used-gt504
unfolding sum_in used_in
returns-then-used-gt504 c =
    bad-use c.args.block.now (search rules) (sym c.sum_of.ensures ∙ c.if-sum_of-pair_at.false ∙ c.pair_at.ensures) (rw c.pair_at-used.ensures at c.if-used-gt504.true)

pub returns-then-not-is_zero : goal.returns-then-not-is_zero
unfolding sum_in used_in rest_part
returns-then-not-is_zero c =
    bad-rest c.args.block.now (search rules) (sym c.sum_of.ensures ∙ c.if-sum_of-pair_at.false ∙ c.pair_at.ensures) (rw c.pair_at-used.ensures at c.if-used-gt504.false)
    (sym (rw c.pair_at-used.ensures at c.is_zero.ensures) ∙ c.if-not-is_zero.true)

pub returns-then-not-are_records : goal.returns-then-not-are_records
unfolding sum_in used_in rest_part record_part
returns-then-not-are_records c =
    bad-records c.args.block.now (search rules) (sym c.sum_of.ensures ∙ c.if-sum_of-pair_at.false ∙ c.pair_at.ensures) (rw c.pair_at-used.ensures at c.if-used-gt504.false)
    (sym (rw c.pair_at-used.ensures at c.is_zero.ensures) ∙ c.if-not-is_zero.false)
    (sym (rw c.pair_at-used.ensures at c.are_records.ensures) ∙ c.if-not-are_records.true)

pub returns : goal.returns
unfolding sum_in used_in rest_part record_part
returns c =
    no-fault c.args.block.now (search rules) (sym c.sum_of.ensures ∙ c.if-sum_of-pair_at.false ∙ c.pair_at.ensures) (rw c.pair_at-used.ensures at c.if-used-gt504.false)
    (sym (rw c.pair_at-used.ensures at c.is_zero.ensures) ∙ c.if-not-is_zero.false)
    (sym (rw c.pair_at-used.ensures at c.are_records.ensures) ∙ c.if-not-are_records.false)
