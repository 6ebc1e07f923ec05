-- What a received message or a local call returns and leaves.
use Rattle.std.specs.Prelude.{ℕ, List}
use Rattle.std.proofs.Math.Option.{Option, none}
use Rattle.octets.specs.Reader.{Taken}
use Rattle.components.specs.Shows.{Shows}

pub record Outcome : Type 0 where
  -- the verdict; 0 for a call that succeeds; the number of a refusal
  pub code : ℕ
  -- how many octets are written, at the front of the buffer
  pub written : ℕ
  -- "for begin, the value taken"; else 0
  pub value : ℕ
  pub shown : Shows
  -- the contents of the 08, and what stands behind them
  pub cause : Option (Taken (List ℕ))
  pub buffer : List ℕ
  pub table : List ℕ

-- "A refusal .. returns its number, reply length 0 and nothing shown"; "table and buffer unchanged"
abbrev pub untouched : List ℕ → List ℕ → ℕ → Outcome
untouched table buffer code =
    record {
      code = code;
      written = 0;
      value = 0;
      shown = none;
      cause = none;
      buffer = buffer;
      table = table;
    }
