-- 01, "Local calls: begin, invoke within, result, error, release". Each is refused with its number, in 01's order, or it
-- sends a message and changes the entry of its transaction.
use Rattle.std.specs.Prelude.{ℕ, List, not, ◌||◌, ℤ, length, leb}
use Rattle.std.proofs.Math.Option.{Option, none, some}
use Rattle.octets.specs.Reader.{Answer, fault, sound, and_then, check}
use Rattle.codes.specs.Operations.{begins}
use Rattle.codes.specs.Errors.{listed}
use Rattle.parameters.specs.Suits.{suits, none_or_one, InvokeWritten, ResultWritten}
use Rattle.components.specs.Component.{invoke, error}
use Rattle.components.specs.Written.{component_octets, result_for}
use Rattle.messages.specs.Layout.{sent_first, register, facility_message, release_empty}
use Rattle.sides.specs.Side.{among, full, operation_of}
use Rattle.table.specs.Table.{entry_number, named, entry_at, valid, lowest_closed}
use Rattle.table.specs.Change.{Change, ours, peers, closes, adds, clears}

pub record Sending : Type 0 where
  pub entry : ℕ
  pub change : Change
  pub message : List ℕ

abbrev pub or_refused : ℕ → Option ℕ → Answer ℕ
or_refused number none = fault number
or_refused number (some k) = sound k

-- "22 transaction not open"; "a flag over 1 or a value over 6 is 22"
unfoldable pub transaction : List ℕ → ℕ → ℕ → Answer ℕ
transaction table flag value = and_then (or_refused 22 (named flag value)) (λ k. check (entry_at table k).is_open 22 (sound k))

-- "26 message over 255; 27 buffer shorter than the message"
unfoldable pub fitting : ℕ → Sending → Answer Sending
fitting room s = check (leb (length s.message) 255) 26 (check (leb (length s.message) room) 27 (sound s))

-- "28 damaged image or not 238 octets; 20 operation not listed; 21 no own value closed; 25 parameter"
unfoldable pub send_begin : List ℕ → ℕ → ℕ → ℤ → List ℕ → Answer Sending
send_begin table room operation id p =
    check (valid table) 28
    (check (begins operation) 20
    (and_then (or_refused 21 (lowest_closed table)) (λ v.
    check (suits InvokeWritten operation p) 25
    (fitting room
    (record {
      entry = entry_number 1 v;
      change = adds ours id operation;
      message = register (sent_first 1 v) (component_octets (invoke id none operation p));
    })))))

-- "22 transaction not open; 23 own invoke outstanding": "23 is given when four wait or when the id is already among ours"
unfoldable pub send_invoke : List ℕ → ℕ → ℕ → ℕ → ℕ → ℤ → List ℕ → Answer Sending
send_invoke table room flag value operation id p =
    check (valid table) 28
    (check (begins operation) 20
    (and_then (transaction table flag value) (λ k.
    check (not (full (entry_at table k).own || among id (entry_at table k).own)) 23
    (check (suits InvokeWritten operation p) 25
    (fitting room
    (record {
      entry = k;
      change = adds ours id operation;
      message = facility_message (sent_first flag value) (component_octets (invoke id none operation p));
    }))))))

-- "24 no such peer invoke". Answering clears the place with its id.
unfoldable pub send_result : List ℕ → ℕ → ℕ → ℕ → ℤ → List ℕ → Answer Sending
send_result table room flag value id p =
    check (valid table) 28
    (and_then (transaction table flag value) (λ k.
    check (among id (entry_at table k).peer) 24
    (check (suits ResultWritten (operation_of id (entry_at table k).peer) p) 25
    (fitting room
    (record {
      entry = k;
      change = clears peers id;
      message = facility_message (sent_first flag value) (component_octets (result_for id (operation_of id (entry_at table k).peer) p));
    })))))

-- "20 .. error code not listed"; "25 parameter, which for an error is none or one element"
unfoldable pub send_error : List ℕ → ℕ → ℕ → ℕ → ℤ → ℕ → List ℕ → Answer Sending
send_error table room flag value id code p =
    check (valid table) 28
    (check (listed code) 20
    (and_then (transaction table flag value) (λ k.
    check (among id (entry_at table k).peer) 24
    (check (none_or_one p) 25
    (fitting room
    (record {
      entry = k;
      change = clears peers id;
      message = facility_message (sent_first flag value) (component_octets (error id code p));
    }))))))

-- "Release closes the entry"; "release sends the two octets of RELEASE COMPLETE"
unfoldable pub send_release : List ℕ → ℕ → ℕ → ℕ → Answer Sending
send_release table room flag value =
    check (valid table) 28
    (and_then (transaction table flag value) (λ k.
    fitting room (record { entry = k; change = closes; message = release_empty (sent_first flag value) })))
