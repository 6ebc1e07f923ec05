-- A list of refusals, read downwards: this one unless its test holds, and then the next.
use Rattle.std.specs.Prelude.{Bool, true, false}

abbrev pub unless : {A : Type 0} → Bool → A → A → A
unless true refusal next = next
unless false refusal next = refusal
