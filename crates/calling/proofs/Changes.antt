-- Each change that a call makes is one that its entry can make.
use Prim.Native.Nat.{ℕ, ◌≤◌, ◌<◌}
use native.Mathlib.Omega.{arith}
use mathlib.Core.Path.{◌≡◌}
use mathlib.Core.List.{List}
use mathlib.Core.Bool.{true, false, ◌||◌}
use lib.IntN.{ℤ}
use Rattle.codes.specs.Operations.{begins}
use Rattle.sides.specs.Side.{among, full}
use Rattle.sides.proofs.SideLaws.{neither}
use Rattle.table.specs.Table.{entry_at, valid}
use Rattle.table.specs.Change.{ours, peers, closes, adds, clears, CanChange}
use Rattle.table.proofs.TableLaws.{holds_at}
use Rattle.table.proofs.ChangeLaws.{adds-holds, begins-holds, clears-holds, closes-holds}

module _ (t : List ℕ) (k : ℕ) (v : valid t ≡ true) (h : k ≤ 13) where
  below : k < 14
  below = omega arith

  pub begun_within : (id : ℤ) (operation : ℕ) → (entry_at t k).is_open ≡ false → begins operation ≡ true → CanChange t k (adds ours id operation)
  begun_within id operation o b = (v, (below, begins-holds (entry_at t k) id operation (holds_at t k v below) o b))

  pub invoked_within : (id : ℤ) (operation : ℕ) → (full (entry_at t k).own || among id (entry_at t k).own) ≡ false → begins operation ≡ true → CanChange t k (adds ours id operation)
  invoked_within id operation f b =
      let w = neither (full (entry_at t k).own) (among id (entry_at t k).own) f in
      (v, (below, adds-holds (entry_at t k) (holds_at t k v below) ours id operation w.0 w.1 b))

  pub answered_within : (id : ℤ) → CanChange t k (clears peers id)
  answered_within id = (v, (below, clears-holds (entry_at t k) (holds_at t k v below) peers id))

  pub released_within : CanChange t k closes
  released_within = (v, (below, closes-holds (entry_at t k)))
