-- 02, [4], "Passwords are digits": "tag 12, length 4, each octet 30 to 39 hex. This holds for the result we write (25 now covers
-- it) and for the result of 17 that we read (result problem 2). Demand 2 reads with it."
use Rattle.std.specs.Prelude.{ℕ, ◌≤◌, ◌≡◌, List, [], ◌∷◌, true, ℤ, length}
use Rattle.std.proofs.Math.Option.{Option, none, some}
use Rattle.std.specs.Int.{w8}
use Rattle.std.proofs.Common.{SFits}
use Rattle.octets.specs.Reader.{took}
use Rattle.elements.specs.Element.{element}
use Rattle.codes.specs.Problems.{result_problem}
use Rattle.components.specs.Component.{result, result_tag}
use Rattle.messages.specs.Layout.{sent_first, facility_type}
use Rattle.sides.specs.Side.{among, operation_of}
use Rattle.table.specs.Table.{named, entry_at, valid}
use Rattle.table.specs.Change.{ours, clears}
use Rattle.deciding.specs.Steps.{shown}
use Rattle.showing.specs.Views.{standing}
use Rattle.telephone.specs.Outcome.{Outcome, untouched}
use Rattle.telephone.specs.Receive.{receive}
use Rattle.telephone.specs.FromC.{received_of}
use Rattle.telephone.specs.Calls as calls
use Rattle.promises.specs.Reaches.{outstanding, taken_or_released, ReachesStepSix, ReachesInRelease, rejected, taken_with, released_with}
use Rattle.promises.specs.ReadBack.{Carries}

abbrev pub Digit : ℕ → Type 0
Digit octet = (0x30 ≤ octet) × (octet ≤ 0x39)

-- one element under the tag 12, however its length is written, with four digits in it and nothing behind it
pub record FourDigits (p : List ℕ) : Type 0 where
  pub first : ℕ
  pub second : ℕ
  pub third : ℕ
  pub fourth : ℕ
  pub is : element p ≡ took (record { tag = 0x12; contents = first ∷ second ∷ third ∷ fourth ∷ [] }) []
  pub digits : Digit first × (Digit second × (Digit third × Digit fourth))

-- where a result of getPassword, 18, stands in what a call sends, its parameter is four digits
abbrev pub SendsDigits : Outcome → Type 0
SendsDigits o = (first type : ℕ) (id : ℤ) (p : List ℕ) → Carries first type o (result id (some 18) p) → FourDigits p

-- every local call
abbrev pub WrittenAreDigits : Type 0
WrittenAreDigits =
    (t b p : List ℕ) (flag value operation code : ℕ) (id : ℤ) → SFits w8 id
    → SendsDigits (calls.begin t b operation id p)
    × (SendsDigits (calls.invoke_within t b flag value operation id p)
    × (SendsDigits (calls.result t b flag value id p)
    × (SendsDigits (calls.error t b flag value id code p)
    × SendsDigits (calls.release t b flag value))))

-- a getPassword waits for our answer: its id, and the open transaction that flag and value name
pub record AsksPassword (t : List ℕ) (flag value : ℕ) (id : ℤ) : Type 0 where
  pub image : valid t ≡ true
  pub entry : ℕ
  pub names : named flag value ≡ some entry
  pub is_open : (entry_at t entry).is_open ≡ true
  pub waits : among id (entry_at t entry).peer ≡ true
  pub operation : operation_of id (entry_at t entry).peer ≡ 18

-- "25 now covers it", whatever the buffer is: nothing is written, and nothing changes
abbrev pub OthersAreNotWritten : Type 0
OthersAreNotWritten =
    (t b p : List ℕ) (flag value : ℕ) (id : ℤ) → AsksPassword t flag value id → (FourDigits p → ⊥) → calls.result t b flag value id p ≡ untouched t b 25

-- four digits are written into every buffer of 21 octets: none needs more
abbrev pub DigitsAreWritten : Type 0
DigitsAreWritten =
    (t b p : List ℕ) (flag value : ℕ) (id : ℤ) → SFits w8 id → AsksPassword t flag value id → FourDigits p → 21 ≤ length b
    → ((calls.result t b flag value id p).code ≡ 0)
    × Carries (sent_first flag value) facility_type (calls.result t b flag value id p) (result id (some 18) p)

-- our registerPassword, 17, is outstanding under this id in the message's transaction
abbrev pub WaitsForPassword : List ℕ → List ℕ → ℤ → Type 0
WaitsForPassword t m id = (among id (outstanding t m) ≡ true) × (operation_of id (outstanding t m) ≡ 17)

-- a result that is shown, of our 17, was taken, or came with a release; its id was outstanding, and its parameter is four digits
abbrev pub ShownAreDigits : Type 0
ShownAreDigits =
    (t m b : List ℕ) (id : ℤ) (operation : Option ℕ) (p behind : List ℕ) → (receive t m b).shown ≡ some (record { component = result id operation p; behind = behind })
    → operation_of id (outstanding t m) ≡ 17 → (taken_or_released (receive t m b).code ≡ true) × ((among id (outstanding t m) ≡ true) × FourDigits p)

-- and as C sees it: where a result of 17 is shown, four digits stand at the place of its parameter
abbrev pub DigitsInC : Type 0
DigitsInC =
    (t m b : List ℕ) → (received_of (length m) (receive t m b)).shown.kind ≡ result_tag → (received_of (length m) (receive t m b)).shown.operation ≡ 17
    → FourDigits (standing m (received_of (length m) (receive t m b)).shown.parameter)

-- "result problem 2"; in RELEASE COMPLETE nothing is shown
abbrev pub OthersAreNotShown : Type 0
OthersAreNotShown =
    (t m b : List ℕ) (id : ℤ) (operation : Option ℕ) (p : List ℕ) → WaitsForPassword t m id → (FourDigits p → ⊥)
    → (ReachesStepSix t m b (result id operation p) → receive t m b ≡ rejected t m b id result_problem 2)
    × (ReachesInRelease t m b (result id operation p) → receive t m b ≡ released_with t m b none)

-- four digits are shown, and nothing waits under that id any more
abbrev pub DigitsAreShown : Type 0
DigitsAreShown =
    (t m b : List ℕ) (id : ℤ) (p : List ℕ) → WaitsForPassword t m id → FourDigits p
    → ((r : ReachesStepSix t m b (result id (some 17) p))
    → receive t m b ≡ taken_with t m b (clears ours id) (shown (result id (some 17) p) r.behind))
    × ((r : ReachesInRelease t m b (result id (some 17) p)) → receive t m b ≡ released_with t m b (shown (result id (some 17) p) r.behind))

abbrev pub Passwords : Type 0
Passwords = WrittenAreDigits × (OthersAreNotWritten × (DigitsAreWritten × (ShownAreDigits × (DigitsInC × (OthersAreNotShown × DigitsAreShown)))))
