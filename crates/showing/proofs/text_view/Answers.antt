use mathlib.Core.Path.{◌∙◌}
use native.Mathlib.Omega.{arith}
use lib.ListN.{take, drop}
use Rattle.components.specs.Seen.{shown_seen}
use Rattle.showing.proofs.Paths.{parameter-long, text-untold, text-taken}
use Rattle.showing.proofs.text_view.Goals as goal

pub returns-in_default : goal.returns-in_default
returns-in_default c =
    let a = c.args in
    let v = rw c.in_default.is at c.requires.1 in
    c.no_text.ensures ∙ text-untold (shown_seen (take a.end a.s.now) a.shown) (drop a.end a.s.now) _ v.0

pub returns : goal.returns
returns c =
    let a = c.args in
    let t = c.in-Some.told in
    let l = parameter-long a.shown a.s.now c.parameter_length.result a.end c.parameter_length.ensures c.requires.0.0 c.requires.0.1 in
    let v = rw c.in-Some.is at c.requires.1 in
    text-taken a.shown a.s.now c.parameter_length.result a.end c.parameter_length.ensures c.requires.0.0 c.requires.0.1 t.scheme t.start t.end v.1.0 (omega arith) v.0
