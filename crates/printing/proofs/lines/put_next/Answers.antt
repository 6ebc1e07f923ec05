use mathlib.Core.Path.{ap}
use mathlib.Core.List.{List, [], ◌∷◌}
use Prim.Native.Nat.{ℕ}
use native.Mathlib.Omega.{arith}
use borrow.Author.Tests.{lt-ltb, le-ltb}
use denote.Bor.{Bor}
use Rattle.printing.specs.Numbers.{pair}
use Rattle.printing.proofs.JoinLaws.{join}
use Rattle.printing.proofs.lines.put_next.Goals.{then-column-gt37, else-column-gt37}
use Rattle.printing.proofs.lines.put_next.Goals as goal

pub returns : goal.returns
unfolding pair
returns c =
    let a = c.args in
    let p = c.put_words-place in
    let q = c.put_pair in
    elim c.if-column-gt37.branch [
      | then-column-gt37 w ↦
          let v = rw (ap (λ (b : Bor (List ℕ)). b.now) w.put_words-is) at p.ensures in
          let j = join a.page.now a.at (10 ∷ 32 ∷ []) (pair a.octet) _ _ _ _ (omega arith) v (q.ensures.writes, q.ensures.next) in
          rw (lt-ltb 37 a.column w.if-column-gt37.true) (j.0, (j.1, omega arith))
      | else-column-gt37 w ↦
          let v = rw (ap (λ (b : Bor (List ℕ)). b.now) w.put_words-is) at p.ensures in
          let j = join a.page.now a.at (32 ∷ []) (pair a.octet) _ _ _ _ (omega arith) v (q.ensures.writes, q.ensures.next) in
          rw (le-ltb 37 a.column w.if-column-gt37.false) (j.0, (j.1, omega arith))
    ]
