-- What C gets of an outcome: every field is told by it.
use Rattle.std.specs.Prelude.{ℕ, ◌≡◌, List, None}
use Rattle.std.proofs.Math.Option.{Option}
use Rattle.octets.specs.Reader.{Taken}
use Rattle.octets.specs.Seen.{part_found, PartWithin}
use Rattle.components.specs.Shows.{Shows}
use Rattle.showing.specs.Views.{component_view, text_view, cause_view}
use Rattle.telephone.specs.Outcome.{Outcome}
use Rattle.telephone.specs.Batch.{Batch}
use Rattle.telephone.specs.declared.receive.Acted.{Acted}
use Rattle.telephone.specs.declared.receive.Received.{Received}
use Rattle.telephone.specs.declared.calls.Called.{Called}
use Rattle.telephone.specs.declared.batch.Batched.{Batched}

-- of a received message of n octets
abbrev pub shown_as : ℕ → ℕ → ℕ → Shows → Option (Taken (List ℕ)) → Received
shown_as n code written shows cause =
    record {
      code = code;
      written = written;
      shown = component_view n shows;
      text = text_view n shows;
      cause = cause_view n cause;
    }

abbrev pub received_of : ℕ → Outcome → Received
received_of n o = shown_as n o.code o.written o.shown o.cause

-- what is done, before it is shown; s are the octets behind the type
abbrev pub ActedAs : List ℕ → Acted → Outcome → Type 0
ActedAs s r o = (r.code ≡ o.code) × ((r.written ≡ o.written) × ((part_found s r.cause ≡ o.cause) × PartWithin s r.cause))

abbrev pub without_cause : ℕ → ℕ → Acted
without_cause code written = record { code = code; written = written; cause = None }

abbrev pub called_of : Outcome → Called
called_of o = record { code = o.code; value = o.value; written = o.written }

abbrev pub refused_call : ℕ → Called
refused_call code = record { code = code; value = 0; written = 0 }

abbrev pub sent_call : ℕ → ℕ → Called
sent_call value written = record { code = 0; value = value; written = written }

abbrev pub batched_of : Batch → Batched
batched_of b = record { code = b.code; slots = b.slots }

abbrev pub refused_batch : ℕ → Batched
refused_batch code = record { code = code; slots = 0 }
