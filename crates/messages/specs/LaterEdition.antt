-- What may stand before the Facility of a RELEASE COMPLETE, in a message and in its later edition.
use Rattle.std.specs.Prelude.{ℕ, ◌≡◌, List, []}
use Rattle.octets.specs.Reader.{sound, Taken}
use Rattle.messages.specs.Scan.{Information, information}

-- whole information elements in a row, none with the identifier w
pub data Passed (w : ℕ) : List ℕ → Type 0 where
  nothing : Passed w []
  another : {s : List ℕ} (g : Taken Information) → information s ≡ sound g → (g.value.identifier ≡ w → ⊥) → Passed w g.rest → Passed w s
