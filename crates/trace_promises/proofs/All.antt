-- All of it holds.
use Rattle.trace_promises.specs.All.{All}
use Rattle.trace_promises.proofs.Blocks.{all_blocks}
use Rattle.trace_promises.proofs.Faults.{in_order_lem, first-fault}
use Rattle.trace_promises.proofs.Written.{reads-back, few-blocks, opens-late}
use Rattle.trace_promises.proofs.Mended.{whole-stays, reads-mended, settles, each-block}
use Rattle.trace_promises.proofs.Built.{calls-build, writer-builds}
use Rattle.trace_promises.proofs.Programs.{reader-shows, salvage-gives, writer-writes}
use Rattle.trace_promises.proofs.Retold.{retold}
use Rattle.trace_promises.proofs.Gathered.{gathers, gathers_left, taken_as}
use Rattle.trace_promises.proofs.Cases.{cases}
use Rattle.trace_promises.proofs.Determined.{determined}

pub all : All
all = (all_blocks, (in_order_lem, (first-fault, (reads-back, (few-blocks, (opens-late, (whole-stays, (reads-mended, (settles, (each-block, (calls-build, (writer-builds, (reader-shows, (salvage-gives, (writer-writes, (retold, (gathers, (gathers_left, (taken_as, (cases, determined))))))))))))))))))))
