-- 01, "Local calls": what each returns and leaves.
use Rattle.std.specs.Prelude.{ℕ, List, ℤ, length}
use Rattle.std.proofs.Math.Option.{none}
use Rattle.octets.specs.Reader.{Answer, fault, sound}
use Rattle.octets.specs.Splice.{splice}
use Rattle.table.specs.Change.{with_change}
use Rattle.calling.specs.Calls.{Sending}
use Rattle.calling.specs.Calls as calls
use Rattle.telephone.specs.Outcome.{Outcome, untouched}

-- "Success returns 0, the message's length and, for begin, the value taken."
abbrev pub call_outcome : List ℕ → List ℕ → (Sending → ℕ) → Answer Sending → Outcome
call_outcome table buffer value (fault number) = untouched table buffer number
call_outcome table buffer value (sound s) =
    record {
      code = 0;
      written = length s.message;
      value = value s;
      shown = none;
      cause = none;
      buffer = splice buffer 0 s.message;
      table = with_change table s.entry s.change;
    }

abbrev pub no_value : Sending → ℕ
no_value s = 0

-- our values are 0 to 6, and so are the numbers of their entries
unfoldable pub begin : List ℕ → List ℕ → ℕ → ℤ → List ℕ → Outcome
begin table buffer operation id p = call_outcome table buffer (λ s. s.entry) (calls.send_begin table (length buffer) operation id p)

unfoldable pub invoke_within : List ℕ → List ℕ → ℕ → ℕ → ℕ → ℤ → List ℕ → Outcome
invoke_within table buffer flag value operation id p = call_outcome table buffer no_value (calls.send_invoke table (length buffer) flag value operation id p)

unfoldable pub result : List ℕ → List ℕ → ℕ → ℕ → ℤ → List ℕ → Outcome
result table buffer flag value id p = call_outcome table buffer no_value (calls.send_result table (length buffer) flag value id p)

unfoldable pub error : List ℕ → List ℕ → ℕ → ℕ → ℤ → ℕ → List ℕ → Outcome
error table buffer flag value id code p = call_outcome table buffer no_value (calls.send_error table (length buffer) flag value id code p)

unfoldable pub release : List ℕ → List ℕ → ℕ → ℕ → Outcome
release table buffer flag value = call_outcome table buffer no_value (calls.send_release table (length buffer) flag value)
