-- What the code's answers mean, and what is promised of them. The message is told by the entry and the operation; it is not written yet.
use Rattle.std.specs.Prelude.{ℕ, ◌≤◌, ◌≡◌, List, cond, ℤ, Option, None, Some, Result, Ok, Err, length, leb}
use Rattle.std.proofs.Math.Option.{none}
use Rattle.octets.specs.Reader.{Answer, fault, sound}
use Rattle.codes.specs.Refusals.{number_of}
use Rattle.codes.specs.declared.refusals.Refusal.{Refusal}
use Rattle.components.specs.Component.{invoke, error}
use Rattle.components.specs.Written.{component_octets, result_for}
use Rattle.messages.specs.Layout.{sent_first, register, facility_message, release_empty}
use Rattle.sides.specs.Side.{operation_of}
use Rattle.table.specs.Table.{entry_at}
use Rattle.table.specs.Change.{CanChange}
use Rattle.table.specs.Seen.{named_seen, change_seen}
use Rattle.calling.specs.Calls.{Sending, or_refused, transaction, send_begin, send_invoke, send_result, send_error, send_release}
use Rattle.calling.specs.declared.Going.{Going}

abbrev pub call_seen : (ℕ → ℕ → List ℕ) → Result Going Refusal → Answer Sending
call_seen message (Err refusal) = fault (number_of refusal)
call_seen message (Ok g) = sound (record { entry = g.entry; change = change_seen g.change; message = message g.entry g.operation })

-- whoever acts finds an entry that can change so, a first octet to send, and room for the message
abbrev pub CallWithin : List ℕ → ℕ → ℕ → ℕ → (ℕ → ℕ → List ℕ) → Result Going Refusal → Type 0
CallWithin table room flag value message (Err refusal) = Unit {0}
CallWithin table room flag value message (Ok g) =
    CanChange table g.entry (change_seen g.change)
    × ((flag ≤ 1) × ((value ≤ 6) × ((length (message g.entry g.operation) ≤ 255) × (length (message g.entry g.operation) ≤ room))))

-- which operation is told with an entry, for whoever writes the message
abbrev pub CallNames : (ℕ → ℕ) → Result Going Refusal → Type 0
CallNames named (Err refusal) = Unit {0}
CallNames named (Ok g) = g.operation ≡ named g.entry

-- a call is refused or goes as its definition says
abbrev pub DecidesCall : Answer Sending → (ℕ → ℕ → List ℕ) → (ℕ → ℕ) → List ℕ → ℕ → ℕ → ℕ → Result Going Refusal → Type 0
DecidesCall definition message named table room flag value call =
    (call_seen message call ≡ definition) × (CallWithin table room flag value message call × CallNames named call)

-- the message of each call, by the entry and the operation that are told
abbrev pub begun : ℕ → ℤ → List ℕ → ℕ → ℕ → List ℕ
begun operation id p v o = register (sent_first 1 v) (component_octets (invoke id none operation p))

abbrev pub invoked : ℕ → ℕ → ℕ → ℤ → List ℕ → ℕ → ℕ → List ℕ
invoked flag value operation id p k o = facility_message (sent_first flag value) (component_octets (invoke id none operation p))

abbrev pub answered : ℕ → ℕ → ℤ → List ℕ → ℕ → ℕ → List ℕ
answered flag value id p k o = facility_message (sent_first flag value) (component_octets (result_for id o p))

abbrev pub erred : ℕ → ℕ → ℤ → ℕ → List ℕ → ℕ → ℕ → List ℕ
erred flag value id code p k o = facility_message (sent_first flag value) (component_octets (error id code p))

abbrev pub release_sent : ℕ → ℕ → ℕ → ℕ → List ℕ
release_sent flag value k o = release_empty (sent_first flag value)

abbrev pub DecidesBegin : List ℕ → ℕ → ℕ → ℤ → List ℕ → Result Going Refusal → Type 0
DecidesBegin table room operation id p call =
    DecidesCall (send_begin table room operation id p) (begun operation id p) (λ k. operation) table room 1 0 call

abbrev pub DecidesInvoke : List ℕ → ℕ → ℕ → ℕ → ℕ → ℤ → List ℕ → Result Going Refusal → Type 0
DecidesInvoke table room flag value operation id p call =
    DecidesCall (send_invoke table room flag value operation id p) (invoked flag value operation id p) (λ k. operation) table room flag value call

abbrev pub DecidesResult : List ℕ → ℕ → ℕ → ℕ → ℤ → List ℕ → Result Going Refusal → Type 0
DecidesResult table room flag value id p call =
    DecidesCall (send_result table room flag value id p) (answered flag value id p) (λ k. operation_of id (entry_at table k).peer) table room flag value call

abbrev pub DecidesError : List ℕ → ℕ → ℕ → ℕ → ℤ → ℕ → List ℕ → Result Going Refusal → Type 0
DecidesError table room flag value id code p call =
    DecidesCall (send_error table room flag value id code p) (erred flag value id code p) (λ k. 0) table room flag value call

abbrev pub DecidesRelease : List ℕ → ℕ → ℕ → ℕ → Result Going Refusal → Type 0
DecidesRelease table room flag value call =
    DecidesCall (send_release table room flag value) (release_sent flag value) (λ k. 0) table room flag value call

-- the refusal of a message by its length
abbrev pub length_refusal : ℕ → ℕ → Result (Unit {0}) Refusal
length_refusal n room = cond (leb n 255) (cond (leb n room) (Ok tt) (Err Refusal.BufferTooShort)) (Err Refusal.MessageTooLong)

-- an entry that is named lies in the table, by a flag and a value that may be sent
abbrev pub NamedWithin : ℕ → ℕ → Option ℕ → Type 0
NamedWithin flag value None = Unit {0}
NamedWithin flag value (Some k) = (flag ≤ 1) × ((value ≤ 6) × (k ≤ 13))

-- the entry of an open transaction, or 22
abbrev pub FindsOpen : List ℕ → ℕ → ℕ → Option ℕ → Type 0
FindsOpen table flag value named = (or_refused 22 (named_seen named) ≡ transaction table flag value) × NamedWithin flag value named
