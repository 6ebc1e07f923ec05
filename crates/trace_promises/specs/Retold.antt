-- C23: "What it prints the writer takes, and gives a file with the same records."
use Rattle.std.specs.Prelude.{ℕ, ◌≡◌, List, [], ◌∷◌, cond, eqb}
use Rattle.std.proofs.Math.Option.{none}
use Rattle.octets.specs.Octets.{Octets}
use Rattle.trace.specs.Records.{Record, Good}
use Rattle.trace_lines.specs.Shown.{record_lines}
use Rattle.trace_lines.specs.Told.{told}

-- lines end at 10; "the last line may lack its line feed"
abbrev pub into_first : ℕ → List (List ℕ) → List (List ℕ)
into_first c [] = (c ∷ []) ∷ []
into_first c (line ∷ others) = (c ∷ line) ∷ others

abbrev pub lines_in : List ℕ → List (List ℕ)
lines_in [] = []
lines_in (c ∷ text) = cond (eqb c 10) ([] ∷ lines_in text) (into_first c (lines_in text))

abbrev pub AllOctets : List Record → Type 0
AllOctets [] = Unit {0}
AllOctets (r ∷ others) = Octets r.message × AllOctets others

abbrev pub Retold : Type 0
Retold = (records : List Record) → Good records → AllOctets records → told (lines_in (record_lines records)) ≡ record { records = records; bad = none }
