-- "Unused octets are 0 .. Any other image is damaged": no message and no call makes a damaged image of a sound one, so that
-- 28 is never this telephone's own doing. A table and a message are octets, and an id is an int8_t, as C has them.
use Rattle.std.specs.Prelude.{ℕ, ◌≡◌, List, true, ℤ}
use Rattle.std.specs.Int.{w8}
use Rattle.std.proofs.Common.{SFits}
use Rattle.octets.specs.Octets.{Octets}
use Rattle.table.specs.Table.{valid}
use Rattle.telephone.specs.Receive.{receive}
use Rattle.telephone.specs.Calls as calls

abbrev pub NeverDamaged : Type 0
NeverDamaged =
    (t m b p : List ℕ) (flag value operation code : ℕ) (id : ℤ) → Octets t → Octets m → SFits w8 id → valid t ≡ true
    → (valid (receive t m b).table ≡ true)
    × ((valid (calls.begin t b operation id p).table ≡ true)
    × ((valid (calls.invoke_within t b flag value operation id p).table ≡ true)
    × ((valid (calls.result t b flag value id p).table ≡ true)
    × ((valid (calls.error t b flag value id code p).table ≡ true) × (valid (calls.release t b flag value).table ≡ true)))))
