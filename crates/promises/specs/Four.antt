-- 02, [5]: "An entry is to hold up to four own and four peer invokes." What waits after a message or a call is what waited, with one
-- change; and those that wait don't disturb each other. Entries are read from the table's octets, before and after.
use Rattle.std.specs.Prelude.{ℕ, ◌≤◌, ◌<◌, ◌≡◌, List, [], ◌∷◌, ◌++◌, true, false, cond, ℤ, length}
use Rattle.std.proofs.Math.Option.{Option, none, some}
use Rattle.std.specs.Int.{w8}
use Rattle.std.proofs.Common.{SFits}
use Rattle.octets.specs.Octets.{Octets}
use Rattle.codes.specs.Ids.{octet_of}
use Rattle.codes.specs.Operations.{waits}
use Rattle.components.specs.Component.{Component, invoke, result, error, reject}
use Rattle.components.specs.Shows.{Shows}
use Rattle.sides.specs.Side.{Waiting, among, operation_of, without}
use Rattle.table.specs.Table.{Entry, named, entry_at, valid}
use Rattle.deciding.specs.Steps.{picked_entry}
use Rattle.telephone.specs.Outcome.{Outcome}
use Rattle.telephone.specs.Receive.{receive}
use Rattle.telephone.specs.Calls as calls
use Rattle.telephone.specs.FromC.{received_of}
use Rattle.promises.specs.Reaches.{fewer_than_four, ReachesStepSix, ReachesInRelease}

-- "A result or error clears the place with its id; the others keep their order."
pub record Cleared (id : ℤ) (ws vs : List Waiting) : Type 0 where
  pub before : List Waiting
  pub one : Waiting
  pub behind : List Waiting
  pub was : ws ≡ before ++ (one ∷ behind)
  pub its : octet_of one.id ≡ octet_of id
  pub is : vs ≡ before ++ behind

abbrev pub waiting_for : ℤ → ℕ → Waiting
waiting_for id operation = record { id = id; operation = operation }

-- "A new one comes behind the last"
abbrev pub Behind : ℤ → ℕ → List Waiting → List Waiting → Type 0
Behind id operation ws vs = vs ≡ ws ++ (waiting_for id operation ∷ [])

-- a message that is taken, by what it shows: an Invoke that waits for our answer comes behind the peer's, any other changes nothing;
-- a result or error clears ours; an empty Facility value changes nothing
abbrev pub AfterTaken : Entry → Component → Entry → Type 0
AfterTaken e (invoke id linked operation p) f = (f.own ≡ e.own) × ((waits operation ≡ true → Behind id operation e.peer f.peer) × (waits operation ≡ false → f.peer ≡ e.peer))
AfterTaken e (result id operation p) f = Cleared id e.own f.own × (f.peer ≡ e.peer)
AfterTaken e (error id code p) f = Cleared id e.own f.own × (f.peer ≡ e.peer)
AfterTaken e (reject id tag number) f = ⊥

abbrev pub AfterShown : Entry → Shows → Entry → Type 0
AfterShown e none f = (f.own ≡ e.own) × (f.peer ≡ e.peer)
AfterShown e (some w) f = AfterTaken e w.component f

-- Every other verdict leaves the table or closes the entry, and no other entry changes at all: that is in Demand1.
abbrev pub WaitsAfterMessage : Type 0
WaitsAfterMessage =
    (t m b : List ℕ) → Octets t → Octets m → (receive t m b).code ≡ 0
    → AfterShown (entry_at t (picked_entry m)) (receive t m b).shown (entry_at (receive t m b).table (picked_entry m))

-- a call that succeeds; one that is refused leaves the table, and release closes: Demand1
abbrev pub WaitsAfterCall : Type 0
WaitsAfterCall =
    (t b p : List ℕ) (flag value operation code : ℕ) (id : ℤ) → Octets t → SFits w8 id
    → ((calls.begin t b operation id p).code ≡ 0
    → entry_at (calls.begin t b operation id p).table (calls.begin t b operation id p).value ≡ record { is_open = true; own = waiting_for id operation ∷ []; peer = [] })
    × ((k : ℕ) → named flag value ≡ some k
    → ((calls.invoke_within t b flag value operation id p).code ≡ 0
    → Behind id operation (entry_at t k).own (entry_at (calls.invoke_within t b flag value operation id p).table k).own
    × ((entry_at (calls.invoke_within t b flag value operation id p).table k).peer ≡ (entry_at t k).peer))
    × (((calls.result t b flag value id p).code ≡ 0
    → Cleared id (entry_at t k).peer (entry_at (calls.result t b flag value id p).table k).peer × ((entry_at (calls.result t b flag value id p).table k).own ≡ (entry_at t k).own))
    × ((calls.error t b flag value id code p).code ≡ 0
    → Cleared id (entry_at t k).peer (entry_at (calls.error t b flag value id code p).table k).peer × ((entry_at (calls.error t b flag value id code p).table k).own ≡ (entry_at t k).own))))

-- what is known of a side in a sound table: at most four wait, and "the place with its id" is one place
abbrev pub KnownOf : List Waiting → Type 0
KnownOf ws = (length ws ≤ 4) × ((id : ℤ) → among id (without id ws) ≡ false)

abbrev pub SidesKnown : Type 0
SidesKnown = (t : List ℕ) (k : ℕ) → valid t ≡ true → k < 14 → KnownOf (entry_at t k).own × KnownOf (entry_at t k).peer

-- all that a message gets but the table: verdict, reply, what is shown and the cause, and so all that C gets of it
abbrev pub SameButTable : Outcome → Outcome → Type 0
SameButTable o q =
    (o.code ≡ q.code)
    × ((o.written ≡ q.written)
    × ((o.buffer ≡ q.buffer) × ((o.shown ≡ q.shown) × ((o.cause ≡ q.cause) × ((octets : ℕ) → received_of octets o ≡ received_of octets q)))))

-- another sound table in which the message's transaction is open if it is here
abbrev pub AlsoThere : List ℕ → List ℕ → List ℕ → Type 0
AlsoThere t u m = (valid u ≡ true) × ((entry_at u (picked_entry m)).is_open ≡ (entry_at t (picked_entry m)).is_open)

-- An Invoke, when fewer than four wait and none has its id, fares as where none waits.
abbrev pub InvokesApart : Type 0
InvokesApart =
    (t u m b : List ℕ) (id : ℤ) (linked : Option ℤ) (operation : ℕ) (p : List ℕ) → AlsoThere t u m
    → fewer_than_four (entry_at t (picked_entry m)).peer ≡ true → among id (entry_at t (picked_entry m)).peer ≡ false
    → (entry_at u (picked_entry m)).own ≡ (entry_at t (picked_entry m)).own → (entry_at u (picked_entry m)).peer ≡ []
    → (ReachesStepSix t m b (invoke id linked operation p) → SameButTable (receive t m b) (receive u m b))
    × (ReachesInRelease t m b (invoke id linked operation p) → SameButTable (receive t m b) (receive u m b))

-- of those that wait, the one with this id
abbrev pub only : ℤ → List Waiting → List Waiting
only id ws = cond (among id ws) (waiting_for id (operation_of id ws) ∷ []) []

-- A result or error fares as where only the invoke with its id waits.
abbrev pub AnswersApart : Type 0
AnswersApart =
    (t u m b : List ℕ) (id : ℤ) → AlsoThere t u m → (entry_at u (picked_entry m)).own ≡ only id (entry_at t (picked_entry m)).own
    → ((operation : Option ℕ) (p : List ℕ)
    → (ReachesStepSix t m b (result id operation p) → SameButTable (receive t m b) (receive u m b))
    × (ReachesInRelease t m b (result id operation p) → SameButTable (receive t m b) (receive u m b)))
    × ((code : ℕ) (p : List ℕ)
    → (ReachesStepSix t m b (error id code p) → SameButTable (receive t m b) (receive u m b))
    × (ReachesInRelease t m b (error id code p) → SameButTable (receive t m b) (receive u m b)))

abbrev pub Four : Type 0
Four = WaitsAfterMessage × (WaitsAfterCall × (SidesKnown × (InvokesApart × AnswersApart)))
