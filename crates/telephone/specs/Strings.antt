-- "04 of length 1 to 160 (string)", as C finds it: "a string that `smr_receive` shows has 1 to 160 octets".
use Rattle.std.specs.Prelude.{ℕ, ◌≤◌, ◌≡◌, List, true, length}
use Rattle.showing.specs.Views.{standing}
use Rattle.telephone.specs.Receive.{receive}
use Rattle.telephone.specs.FromC.{received_of}
use Rattle.telephone.specs.declared.receive.Received.{Received}

abbrev pub StringsShown : Type 0
StringsShown =
    (t m b : List ℕ) (r : Received) → r ≡ received_of (length m) (receive t m b) → r.text.is_there ≡ true
    → (1 ≤ length (standing m r.text.string)) × (length (standing m r.text.string) ≤ 160)
