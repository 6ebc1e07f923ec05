-- The cases, by computation.
use mathlib.Core.Path.{refl}
use Rattle.records.specs.Records.{one_record}
use Rattle.trace.specs.Numbers.{sum_of}
use Rattle.trace.specs.Records.{trace_record, records_by, records_in}
use Rattle.trace.specs.Blocks.{number_in, used_in, sum_in, record_part, rest_part, sealed, body, block_of, block_records, records_at}
use Rattle.trace.specs.Files.{blocks_by, blocks_in, read_from, read_file}
use Rattle.trace.specs.Salvage.{fate_of, renumbered, salvage_from, salvaged}
use Rattle.trace_promises.specs.Cases.{W1Block, C28, C29, C30, C33, Cases}

w1-block : W1Block
unfolding block_of sealed body sum_of
w1-block = refl

c28 : C28
c28 = (refl, (refl, refl))

c29 : C29
unfolding read_file read_from blocks_in blocks_by records_at block_records records_in records_by trace_record one_record number_in used_in sum_in record_part rest_part block_of sealed body sum_of
c29 = (refl, (refl, (refl, (refl, refl))))

c30 : C30
unfolding block_of sealed body sum_of sum_in
c30 = refl

c33 : C33
unfolding salvaged salvage_from fate_of renumbered blocks_in blocks_by block_records records_in records_by trace_record one_record number_in used_in sum_in record_part rest_part block_of sealed body sum_of
c33 = (refl, (refl, (refl, (refl, refl))))

pub cases : Cases
cases = (w1-block, (c28, (c29, (c30, c33))))
