-- 01, the table of verdicts: each column is a definition.
use Rattle.std.specs.Prelude.{ℕ, List, [], length}
use Rattle.std.proofs.Math.Option.{Option, none}
use Rattle.octets.specs.Reader.{Taken}
use Rattle.octets.specs.Splice.{splice}
use Rattle.components.specs.Component.{reject}
use Rattle.components.specs.Written.{component_octets}
use Rattle.messages.specs.Layout.{release_empty, release_cause, release_facility}
use Rattle.table.specs.Table.{closed, with_entry}
use Rattle.table.specs.Change.{with_change}
use Rattle.deciding.specs.Decision.{Decision, silent, with_cause, with_reject, on_reject, released, taken, shown_by}
use Rattle.deciding.specs.Steps.{picked_entry, reply_first, decide}
use Rattle.telephone.specs.Outcome.{Outcome}

-- "Verdict"
abbrev pub verdict_of : Decision → ℕ
verdict_of (silent code) = code
verdict_of (with_cause number) = 2
verdict_of (with_reject id tag number) = 3
verdict_of (on_reject shown) = 4
verdict_of (released shown cause) = 5
verdict_of (taken change shown) = 0

-- "Sent"
abbrev pub sent_by : List ℕ → Decision → List ℕ
sent_by m (silent code) = []
sent_by m (with_cause number) = release_cause (reply_first m) number
sent_by m (with_reject id tag number) = release_facility (reply_first m) (component_octets (reject id tag number))
sent_by m (on_reject shown) = release_empty (reply_first m)
sent_by m (released shown cause) = []
sent_by m (taken change shown) = []

-- "Table"
abbrev pub table_by : List ℕ → List ℕ → Decision → List ℕ
table_by table m (silent code) = table
table_by table m (with_cause number) = with_entry table (picked_entry m) closed
table_by table m (with_reject id tag number) = with_entry table (picked_entry m) closed
table_by table m (on_reject shown) = with_entry table (picked_entry m) closed
table_by table m (released shown cause) = with_entry table (picked_entry m) closed
table_by table m (taken change shown) = with_change table (picked_entry m) change

abbrev pub cause_by : Decision → Option (Taken (List ℕ))
cause_by (silent code) = none
cause_by (with_cause number) = none
cause_by (with_reject id tag number) = none
cause_by (on_reject shown) = none
cause_by (released shown cause) = cause
cause_by (taken change shown) = none

-- "In every call buffer octets after what is written stay as lent."
unfoldable pub act : List ℕ → List ℕ → List ℕ → Decision → Outcome
act table m buffer d =
    record {
      code = verdict_of d;
      written = length (sent_by m d);
      value = 0;
      shown = shown_by d;
      cause = cause_by d;
      buffer = splice buffer 0 (sent_by m d);
      table = table_by table m d;
    }

unfoldable pub receive : List ℕ → List ℕ → List ℕ → Outcome
receive table m buffer = act table m buffer (decide table m (length buffer))
