-- "that reaches step 6 of 01": what the table, the buffer and the message must be, step by step.
use Rattle.std.specs.Prelude.{ℕ, ◌≤◌, ◌≡◌, List, Bool, true, false, ◌||◌, ℤ, length, get_or, drop, eqb, ltb}
use Rattle.std.proofs.Math.Option.{none, some}
use Rattle.octets.specs.Reader.{took}
use Rattle.octets.specs.Splice.{splice}
use Rattle.components.specs.Component.{Component, reject}
use Rattle.components.specs.Facility.{shows, facility}
use Rattle.components.specs.Shows.{Shows}
use Rattle.components.specs.Written.{component_octets}
use Rattle.messages.specs.Layout.{discriminator, value, flag, register_type, facility_type, release_type, release_facility}
use Rattle.messages.specs.Scan.{required, first_taken}
use Rattle.sides.specs.Side.{Waiting}
use Rattle.table.specs.Table.{entry_at, closed, valid, with_entry}
use Rattle.table.specs.Change.{Change, with_change}
use Rattle.deciding.specs.Steps.{first_octet, picked_entry, reply_first}
use Rattle.telephone.specs.Outcome.{Outcome}

-- what we have outstanding in the message's transaction, as the table has it before
abbrev pub outstanding : List ℕ → List ℕ → List Waiting
outstanding t m = (entry_at t (picked_entry m)).own

-- "fewer than four": there is a place for another
abbrev pub fewer_than_four : List Waiting → Bool
fewer_than_four ws = ltb (length ws) 4

-- taken, or released by the network: the verdicts that show a result or an error
abbrev pub taken_or_released : ℕ → Bool
taken_or_released verdict = eqb verdict 0 || eqb verdict 5

-- 28 and 27, step 1, and step 2's value 7
pub record Arrives (t m b : List ℕ) : Type 0 where
  pub image : valid t ≡ true
  pub room : 12 ≤ length b
  pub most : length m ≤ 255
  pub least : 2 ≤ length m
  pub protocol : discriminator (first_octet m) ≡ 11
  pub transaction : value (first_octet m) ≡ 7 → ⊥

-- "In REGISTER or FACILITY": of its type, and with its entry as steps 2 and 3 want it
pub data Passes (t m : List ℕ) : ℕ → Type 0 where
  in_register : get_or m 1 0 ≡ register_type → flag (first_octet m) ≡ 0 → (entry_at t (picked_entry m)).is_open ≡ false → Passes t m register_type
  in_facility : get_or m 1 0 ≡ facility_type → (entry_at t (picked_entry m)).is_open ≡ true → Passes t m facility_type

pub record ReachesStepSix (t m b : List ℕ) (c : Component) : Type 0 where
  -- 1.
  pub arrives : Arrives t m b
  -- 2. and 3.
  pub type : ℕ
  pub passes : Passes t m type
  -- 4.
  pub facility_value : List ℕ
  pub behind : List ℕ
  pub facility_read : required type (drop 2 m) ≡ took facility_value behind
  -- 5.
  pub component_read : facility facility_value ≡ shows c

-- "Steps 5 and 6 run for RELEASE COMPLETE too"
pub record ReachesInRelease (t m b : List ℕ) (c : Component) : Type 0 where
  pub arrives : Arrives t m b
  pub is_release : get_or m 1 0 ≡ release_type
  pub is_open : (entry_at t (picked_entry m)).is_open ≡ true
  pub facility_value : List ℕ
  pub behind : List ℕ
  pub facility_read : first_taken 0x1C (drop 2 m) ≡ some (record { value = facility_value; rest = behind })
  pub component_read : facility facility_value ≡ shows c

-- "released with Reject": a release with a Reject of this id and problem
abbrev pub rejection : List ℕ → ℤ → ℕ → ℕ → List ℕ
rejection m id tag number = release_facility (reply_first m) (component_octets (reject (some id) tag number))

-- verdict 3, that release sent and nothing else written, nothing shown, and the entry closed
abbrev pub rejected : List ℕ → List ℕ → List ℕ → ℤ → ℕ → ℕ → Outcome
rejected t m b id tag number =
    record {
      code = 3;
      written = length (rejection m id tag number);
      value = 0;
      shown = none;
      cause = none;
      buffer = splice b 0 (rejection m id tag number);
      table = with_entry t (picked_entry m) closed;
    }

-- verdict 0, nothing sent or written, this shown, and one change of the entry
abbrev pub taken_with : List ℕ → List ℕ → List ℕ → Change → Shows → Outcome
taken_with t m b change shown =
    record {
      code = 0;
      written = 0;
      value = 0;
      shown = shown;
      cause = none;
      buffer = b;
      table = with_change t (picked_entry m) change;
    }

-- verdict 5, nothing sent or written, this shown and the contents of the 08, and the entry closed
abbrev pub released_with : List ℕ → List ℕ → List ℕ → Shows → Outcome
released_with t m b shown =
    record {
      code = 5;
      written = 0;
      value = 0;
      shown = shown;
      cause = first_taken 0x08 (drop 2 m);
      buffer = b;
      table = with_entry t (picked_entry m) closed;
    }
