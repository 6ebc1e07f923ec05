-- Demand 1: "A message of any length and content, in any state of the transaction table, gets the one verdict that 01 names,
-- and so does each local call. Nobody is asked to check beforehand. A refused call writes nothing and changes no transaction;
-- a verdict that sends a release writes that reply alone and closes its entry."
use Rattle.std.specs.Prelude.{ℕ, ◌≤◌, ◌≡◌, List, [], Bool, true, ◌||◌, ◌&&◌, ℤ, length, take, drop, leb, eqb}
use Rattle.std.proofs.Math.Option.{Option, none, some}
use Rattle.codes.specs.Problems.{is_problem}
use Rattle.components.specs.Component.{reject}
use Rattle.components.specs.Written.{component_octets}
use Rattle.messages.specs.Layout.{sent_first, release_empty, release_cause, release_facility}
use Rattle.table.specs.Table.{entry_at, closed, named, lowest_closed}
use Rattle.deciding.specs.Steps.{picked_entry, reply_first}
use Rattle.telephone.specs.Outcome.{Outcome, untouched}
use Rattle.telephone.specs.Receive.{receive}
use Rattle.telephone.specs.Calls as calls

-- these octets are written at the front of the buffer, and what stood behind them stays
pub record Writes (b message : List ℕ) (o : Outcome) : Type 0 where
  pub written : o.written ≡ length message
  pub front : take (length message) o.buffer ≡ message
  pub behind : drop (length message) o.buffer ≡ drop (length message) b
  pub room : length message ≤ length b

-- no entry changes but k
abbrev pub ChangesOnly : List ℕ → ℕ → Outcome → Type 0
ChangesOnly t k o = (j : ℕ) → (j ≡ k → ⊥) → entry_at o.table j ≡ entry_at t j

-- k is closed, and no other entry changes
pub record Closes (t : List ℕ) (k : ℕ) (o : Outcome) : Type 0 where
  pub own : entry_at o.table k ≡ closed
  pub others : ChangesOnly t k o

-- the verdicts that send nothing and change nothing, and the refusals of a received message
abbrev pub sends_nothing : ℕ → Bool
sends_nothing code = eqb code 1 || eqb code 6 || eqb code 7 || eqb code 27 || eqb code 28

-- the causes of steps 2 to 5
abbrev pub is_cause : ℕ → Bool
is_cause number = eqb number 29 || eqb number 81 || eqb number 96 || eqb number 97 || eqb number 98

-- 01's table of verdicts, a case a row
pub data Verdict (t m b : List ℕ) (o : Outcome) : Type 0 where
  ignored : sends_nothing o.code ≡ true → o ≡ untouched t b o.code → Verdict t m b o
  with_cause : o.code ≡ 2 → (number : ℕ) → is_cause number ≡ true → Writes b (release_cause (reply_first m) number) o → Closes t (picked_entry m) o → o.shown ≡ none → Verdict t m b o
  with_reject : o.code ≡ 3 → (id : Option ℤ) (tag number : ℕ) → is_problem tag number ≡ true → Writes b (release_facility (reply_first m) (component_octets (reject id tag number))) o → Closes t (picked_entry m) o
      → o.shown ≡ none → Verdict t m b o
  on_reject : o.code ≡ 4 → Writes b (release_empty (reply_first m)) o → Closes t (picked_entry m) o → Verdict t m b o
  released : o.code ≡ 5 → Writes b [] o → Closes t (picked_entry m) o → Verdict t m b o
  taken : o.code ≡ 0 → Writes b [] o → ChangesOnly t (picked_entry m) o → (entry_at o.table (picked_entry m)).is_open ≡ true → Verdict t m b o

abbrev pub EveryMessage : Type 0
EveryMessage = (t m b : List ℕ) → Verdict t m b (receive t m b)

-- the refusals of a local call
abbrev pub is_refusal : ℕ → Bool
is_refusal code = leb 20 code && leb code 28

-- a local call is refused and changes nothing, or it writes one message and changes the entry that it names and no other
pub data CallVerdict (t b : List ℕ) (names : Option ℕ) (o : Outcome) : Type 0 where
  refused : is_refusal o.code ≡ true → o ≡ untouched t b o.code → CallVerdict t b names o
  sent : o.code ≡ 0 → (message : List ℕ) → Writes b message o → length message ≤ 255 → (k : ℕ) → names ≡ some k → ChangesOnly t k o → CallVerdict t b names o

-- a release that succeeds sends the two octets of RELEASE COMPLETE and closes its entry
abbrev pub Releases : List ℕ → List ℕ → ℕ → ℕ → Outcome → Type 0
Releases t b flag value o = o.code ≡ 0 → Writes b (release_empty (sent_first flag value)) o × ((k : ℕ) → named flag value ≡ some k → Closes t k o)

-- begin names the lowest closed own value, the others a transaction by its flag and value
abbrev pub EveryCall : Type 0
EveryCall =
    (t b p : List ℕ) (flag value operation code : ℕ) (id : ℤ)
    → CallVerdict t b (lowest_closed t) (calls.begin t b operation id p)
    × (CallVerdict t b (named flag value) (calls.invoke_within t b flag value operation id p)
    × (CallVerdict t b (named flag value) (calls.result t b flag value id p)
    × (CallVerdict t b (named flag value) (calls.error t b flag value id code p)
    × (CallVerdict t b (named flag value) (calls.release t b flag value) × Releases t b flag value (calls.release t b flag value)))))

abbrev pub Demand1 : Type 0
Demand1 = EveryMessage × EveryCall
