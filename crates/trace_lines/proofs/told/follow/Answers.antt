use Rattle.trace_lines.proofs.ToldLaws.{grown-lined, lined-by}
use Rattle.trace_lines.specs.Desk.{begun_seen}
use Rattle.trace_lines.specs.Told.{followed}
use Rattle.octets.proofs.PartLaws.{rest_part_lem}
use lib.ListN.{drop}
use mathlib.Core.Path.{refl}
use Rattle.trace_lines.proofs.told.follow.Goals as goal

pub returns-in_default : goal.returns-in_default
unfolding followed
returns-in_default c = rw (c.in-Onward.is, c.in_default.is) (record { next = (refl, tt); lined = λ h b. h })

pub returns-in-Passed : goal.returns-in-Passed
unfolding followed
returns-in-Passed c = rw c.in-Passed.is (record { next = (refl, c.requires.0); lined = λ h b. b })

pub grow-requires : goal.grow-requires
grow-requires c = (rw c.in-Some.is at c.requires.0, c.requires.1)

pub returns-in-Some : goal.returns-in-Some
unfolding followed
returns-in-Some c =
    rw (c.in-Onward.is, c.in-Some.is)
    (record { next = c.grow.ensures; lined = λ h b. lined-by _ _ c.grow.ensures.0 (grown-lined (begun_seen c.in-Some.pen c.args.message.now) c.args.line.now b) })

pub returns-in-First : goal.returns-in-First
unfolding followed
returns-in-First c =
    let e = rw (c.part.ensures.octets, rest_part_lem c.in-First.at c.args.line.now) at c.grow-in-First.ensures in
    rw c.in-First.is (record { next = e; lined = λ h b. lined-by _ _ e.0 (grown-lined _ (drop c.in-First.at c.args.line.now) h) })

pub returns-in-Other : goal.returns-in-Other
unfolding followed
returns-in-Other c = rw c.in-Other.is (record { next = (refl, tt); lined = λ h b. h })
