-- "The parameter is handed back as a part of the caller's own message": of every message, from every table and buffer, each
-- place that C gets lies within the message, and what stands there is what is shown.
use Rattle.std.specs.Prelude.{ℕ, List, length}
use Rattle.telephone.specs.Receive.{receive}
use Rattle.telephone.specs.FromC.{received_of}
use Rattle.telephone.specs.Stands.{Stands}

abbrev pub PartsStand : Type 0
PartsStand = (t m b : List ℕ) → Stands m (receive t m b) (received_of (length m) (receive t m b))
