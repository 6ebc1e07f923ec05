use Prim.Native.Nat.{ℕ, ◌+◌, ◌-◌}
use mathlib.Core.Path.{◌≡◌, sym, ap, ◌∙◌}
use mathlib.Core.List.{List}
use native.Mathlib.Omega.{arith}
use lib.ListN.{length, take, drop}
use Rattle.components.specs.Seen.{shown_seen}
use Rattle.showing.specs.Views.{span_of, view_of, component_view}
use Rattle.showing.proofs.Paths.{span-at, parameter-is}
use Rattle.showing.proofs.component_view.Goals as goal

pub returns : goal.returns
unfolding component_view
returns c =
    let p = parameter-is c.args.shown c.args.s.now c.parameter_length-n.result c.args.end c.parameter_length-n.ensures c.requires.0 c.requires.1 in
    let k : 2 + c.args.end - c.parameter_length-n.result ≡ 2 + (c.args.end - c.parameter_length-n.result) = omega arith in
    let a = span-at c.args.s.now (c.args.end - c.parameter_length-n.result) c.args.end (omega arith) c.requires.1 in
    c.view_of.ensures (take c.args.end c.args.s.now) ∙ ap (view_of (shown_seen (take c.args.end c.args.s.now) c.args.shown)) (ap (λ (i : ℕ). record { start = i; end = 2 + c.args.end }) k ∙ sym a ∙ ap (λ (l : List ℕ). span_of (2 + length c.args.s.now) l (drop c.args.end c.args.s.now)) (sym p))
