use mathlib.Core.Path.{sym, ap}
use mathlib.Core.Bool.{true}
use Rattle.octets.specs.declared.Span.{Span}
use Rattle.showing.specs.Views.{cause_view}
use Rattle.showing.proofs.Paths.{span-at}
use Rattle.showing.proofs.cause_view.Goals as goal

pub returns-in_default : goal.returns-in_default
unfolding cause_view
returns-in_default c = rw c.in_default.is

pub returns : goal.returns
unfolding cause_view
returns c =
    let p = c.in-Some.part in
    let w = rw c.in-Some.is at c.requires in
    rw c.in-Some.is (ap (λ (place : Span). record { is_there = true; contents = place }) (sym (span-at c.args.s.now p.start p.end w.0 w.1)))
