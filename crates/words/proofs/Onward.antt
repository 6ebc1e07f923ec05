-- The input is used up: a piece of it always goes on.
use mathlib.Core.Path.{◌≡◌, refl}
use mathlib.Core.Bool.{Bool, true, false, cond}
use mathlib.Core.List.{List}
use Prim.Native.Nat.{ℕ, suc, ◌+◌, ◌≤◌, ◌<◌}
use native.Mathlib.Omega.{arith}
use borrow.Author.Tests.{ltb-false}
use lib.ListN.{length}
use lib.Dec.{ltb}
use Rattle.words.specs.Lines.{piece, gathered}
use Rattle.words.specs.declared.lines.Gathered.{Gathered}

behind : (from p n : ℕ) (b : Bool) → ltb p n ≡ b → from ≤ p → from < n → from < cond b (suc p) p
behind from p n true e h l = omega arith
behind from p n false e h l = let k = ltb-false p n e in omega (arith, k)

pub onward : (input : List ℕ) (from have : ℕ) (g : Gathered) → g ≡ gathered input from have → from < length input → from < g.next
unfolding gathered
onward input from have g e l = rw e (behind from (from + length (piece input from)) (length input) (ltb (from + length (piece input from)) (length input)) refl (omega arith) l)
