-- Demand 2: "What is written for a component reads back as that component", read as step 5 reads, apart from the table. The
-- messages are those that the calls leave at the front of the buffer.
use Rattle.std.specs.Prelude.{ℕ, ◌≡◌, List, ◌∷◌, ℤ, take}
use Rattle.std.proofs.Math.Option.{Option, none, some}
use Rattle.std.specs.Int.{w8}
use Rattle.std.proofs.Common.{SFits}
use Rattle.octets.specs.Octets.{Octets}
use Rattle.octets.specs.Reader.{took}
use Rattle.components.specs.Component.{Component, invoke, error, reject}
use Rattle.components.specs.Facility.{shows, facility}
use Rattle.components.specs.Written.{component_octets, result_for, Writable}
use Rattle.messages.specs.Layout.{sent_first, register_type, facility_type, release_type}
use Rattle.messages.specs.Scan.{required, first_whole}
use Rattle.sides.specs.Side.{operation_of}
use Rattle.table.specs.Table.{named, entry_at}
use Rattle.deciding.specs.Steps.{reply_first}
use Rattle.telephone.specs.Outcome.{Outcome}
use Rattle.telephone.specs.Receive.{receive}
use Rattle.telephone.specs.Calls as calls

-- every component that can be written: each kind, every id from -128 to 127, a parameter or none
abbrev pub ComponentReadsBack : Type 0
ComponentReadsBack = (c : Component) → Writable c → facility (component_octets c) ≡ shows c

-- what is sent
abbrev pub sent_octets : Outcome → List ℕ
sent_octets o = take o.written o.buffer

-- what is sent has this first octet and type, and behind them 01's layout with the Facility value of c, which shows c
pub record Carries (first type : ℕ) (o : Outcome) (c : Component) : Type 0 where
  pub body : List ℕ
  pub front : sent_octets o ≡ first ∷ type ∷ body
  pub behind : List ℕ
  pub found : required type body ≡ took (component_octets c) behind
  pub back : facility (component_octets c) ≡ shows c

-- every message that a local call writes
abbrev pub CallReadsBack : Type 0
CallReadsBack =
    (t b p : List ℕ) (flag value operation code : ℕ) (id : ℤ) → SFits w8 id
    → ((calls.begin t b operation id p).code ≡ 0
    → Carries (sent_first 1 (calls.begin t b operation id p).value) register_type (calls.begin t b operation id p) (invoke id none operation p))
    × (((calls.invoke_within t b flag value operation id p).code ≡ 0
    → Carries (sent_first flag value) facility_type (calls.invoke_within t b flag value operation id p) (invoke id none operation p))
    × (((calls.result t b flag value id p).code ≡ 0 → (k : ℕ) → named flag value ≡ some k
    → Carries (sent_first flag value) facility_type (calls.result t b flag value id p) (result_for id (operation_of id (entry_at t k).peer) p))
    × ((calls.error t b flag value id code p).code ≡ 0 → Carries (sent_first flag value) facility_type (calls.error t b flag value id code p) (error id code p))))

-- a release with a Reject, which is found under 1C and shows its id and problem
pub record CarriesReject (first : ℕ) (o : Outcome) : Type 0 where
  pub id : Option ℤ
  pub tag : ℕ
  pub number : ℕ
  pub body : List ℕ
  pub front : sent_octets o ≡ first ∷ release_type ∷ body
  pub found : first_whole 0x1C body ≡ some (component_octets (reject id tag number))
  pub back : facility (component_octets (reject id tag number)) ≡ shows (reject id tag number)

-- every Reject that a verdict sends
abbrev pub RejectReadsBack : Type 0
RejectReadsBack = (t m b : List ℕ) → Octets m → (receive t m b).code ≡ 3 → CarriesReject (reply_first m) (receive t m b)
