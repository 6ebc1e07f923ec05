-- An answer that is no whole element is a fault of the definition.
use Rattle.std.proofs.Common.{ℕ, ◌≡◌, List, sym}
use Rattle.std.specs.Prelude.{Err}
use Rattle.octets.specs.Reader.{fault}
use Rattle.messages.specs.Scan.{absent, cut, information}
use Rattle.messages.specs.Seen.{item_seen}
use Rattle.messages.specs.declared.scan.Ending.{Ending}

pub not-whole : (e : Ending) (s : List ℕ) → item_seen s (Err e) ≡ information s → (n : ℕ) × (information s ≡ fault n)
not-whole Ending.End s q = (absent, sym q)
not-whole Ending.Cut s q = (cut, sym q)
