-- All that is proved of trace files: what they are, their faults, writing and reading, salvage, the calls, the programs, and that each contract leaves one answer.
use Rattle.trace_promises.specs.Blocks.{AllBlocks}
use Rattle.trace_promises.specs.Faults.{InOrder, FirstFault}
use Rattle.trace_promises.specs.Written.{ReadsBack, FewBlocks, OpensLate}
use Rattle.trace_promises.specs.Mended.{WholeStays, ReadsMended, Settles, EachBlock}
use Rattle.trace_promises.specs.Built.{CallsBuild, WriterBuilds}
use Rattle.trace_promises.specs.Programs.{ReaderShows, SalvageGives, WriterWrites}
use Rattle.trace_promises.specs.Retold.{Retold}
use Rattle.trace_promises.specs.Gathered.{Gathers, GathersLeft, TakenAs}
use Rattle.trace_promises.specs.Cases.{Cases}
use Rattle.trace_promises.specs.Determined.{Determined}

abbrev pub All : Type 0
All = AllBlocks × (InOrder × (FirstFault × (ReadsBack × (FewBlocks × (OpensLate × (WholeStays × (ReadsMended × (Settles × (EachBlock × (CallsBuild × (WriterBuilds × (ReaderShows × (SalvageGives × (WriterWrites × (Retold × (Gathers × (GathersLeft × (TakenAs × (Cases × Determined)))))))))))))))))))
