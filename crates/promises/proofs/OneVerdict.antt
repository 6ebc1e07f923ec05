-- Demand 1 holds.
use Prim.Native.Nat.{ℕ, ◌+◌, ◌*◌, ◌≤◌}
use mathlib.Core.Path.{◌≡◌, refl, sym, ap, ◌∙◌, subst}
use mathlib.Core.List.{List}
use mathlib.Core.Bool.{true, false≢true}
use mathlib.Core.Option.{Option, some}
use native.Mathlib.Omega.{arith}
use lib.ListN.{length}
use Rattle.octets.specs.Reader.{Answer, fault, sound}
use Rattle.octets.proofs.ReaderLaws.{through, passed}
use Rattle.messages.specs.Layout.{sent_first, release_empty as released-octets}
use Rattle.table.specs.Table.{size, closed, named, entry_at, with_entry, valid, lowest_closed}
use Rattle.table.specs.Change.{closes as toClosed, changed, with_change}
use Rattle.table.proofs.ChangeLaws.{closes-holds}
use Rattle.table.proofs.TableLaws.{read-written, open-written, others-stay, fits-at}
use Rattle.deciding.specs.Decision.{Decision, silent, with_cause, with_reject, on_reject, released, taken}
use Rattle.deciding.specs.Steps.{picked_entry, decide}
use Rattle.deciding.specs.Seen.{Ready, Keeps}
use Rattle.deciding.proofs.Keeps.{decide-keeps}
use Rattle.calling.specs.Calls.{Sending, transaction, send_begin as toBegin, send_invoke as toInvoke, send_result, send_error, send_release}
use Rattle.telephone.specs.Receive.{sent_by, act, receive}
use Rattle.telephone.specs.Calls.{call_outcome, no_value, begin, invoke_within, result, error, release}
use Rattle.telephone.proofs.Paths.{entry-there, closes-is, fitting-is}
use Rattle.telephone.proofs.Shown.{some_inj}
use Rattle.telephone.proofs.OutcomeLaws.{front-is, behind-stays, sent-room, silent-untouched, others-kept, call-others}
use Rattle.promises.specs.OneVerdict.{Writes, Closes, Verdict, ignored, EveryMessage, CallVerdict, refused, sent, Releases, EveryCall, Demand1}
use Rattle.promises.specs.OneVerdict as row
use Rattle.promises.proofs.CallFacts.{Fine, fine-begin, fine-invoke, fine-result, fine-error, fine-release, transaction-is}
use Rattle.promises.proofs.Listed.{Tells, decide-tells}
use Rattle.promises.proofs.Silence.{Says, decide-says, is_loud, loud-ready}

-- an entry that is closed reads back as closed
closed-back : (t : List ℕ) (k : ℕ) → size * k + size ≤ length t → entry_at (with_entry t k closed) k ≡ closed
unfolding changed
closed-back t k h = read-written t k closed h (closes-holds closed) tt tt

module _ (t m b : List ℕ) where
  writes : (d : Decision) → length (sent_by m d) ≤ length b → Writes b (sent_by m d) (act t m b d)
  unfolding act
  writes d h = record { written = refl; front = front-is b (sent_by m d); behind = behind-stays b (sent_by m d); room = h }

  closes : (d : Decision) → size * picked_entry m + size ≤ length t → (act t m b d).table ≡ with_entry t (picked_entry m) closed → Closes t (picked_entry m) (act t m b d)
  closes d h e = record { own = ap (λ (x : List ℕ). entry_at x (picked_entry m)) e ∙ closed-back t (picked_entry m) h; others = λ j n. others-kept t m b d j h n }

  room_for : Ready t m (length b) → size * picked_entry m + size ≤ length t
  room_for w = let e = entry-there t m (length b) w in fits-at t (picked_entry m) e.0 e.1

  -- 01's table of verdicts, row by row
  each : (d : Decision) → Says d ≡ true → Tells d → Keeps (entry_at t (picked_entry m)) d → (is_loud d ≡ true → Ready t m (length b)) → Verdict t m b (act t m b d)
  unfolding act with_change
  each (silent code) s l k r = ignored s (silent-untouched t m b code)
  each (with_cause n) s l k r =
      let w = r refl in
      let f = room_for w in
      row.with_cause refl n l (writes (with_cause n) (omega arith)) (closes (with_cause n) f refl) refl
  each (with_reject id tag n) s l k r =
      let w = r refl in
      let f = room_for w in
      let x = sent-room m (with_reject id tag n) in
      row.with_reject refl id tag n l (writes (with_reject id tag n) (omega arith)) (closes (with_reject id tag n) f refl) refl
  each (on_reject shown) s l k r =
      let w = r refl in
      row.on_reject refl (writes (on_reject shown) (omega arith)) (closes (on_reject shown) (room_for w) refl)
  each (released shown cause) s l k r =
      let w = r refl in
      row.released refl (writes (released shown cause) (omega arith)) (closes (released shown cause) (room_for w) refl)
  each (taken change shown) s l k r =
      let w = r refl in
      row.taken refl (writes (taken change shown) (omega arith)) (λ j n. others-kept t m b (taken change shown) j (room_for w) n)
      (open-written t (picked_entry m) (changed (entry_at t (picked_entry m)) change) (room_for w) k.1)

every-message : EveryMessage
unfolding receive
every-message t m b =
    let n = length b in
    each t m b (decide t m n) (decide-says t m n) (decide-tells t m n) (decide-keeps t m n) (loud-ready t m n)

called-fine : (t b : List ℕ) (which : Option ℕ) (said : Type 0) (value : Sending → ℕ) (o : Answer Sending) → Fine t (length b) which said o → CallVerdict t b which (call_outcome t b value o)
called-fine t b which said value (fault n) h = refused h refl
called-fine t b which said value (sound s) h =
    sent refl s.message (record { written = refl; front = front-is b s.message; behind = behind-stays b s.message; room = h.fits }) h.short s.entry h.names
    (λ j n. call-others t b value s j (fits-at t s.entry h.can.0 h.can.1.0) n)

-- a release that is sent is the two octets, and closes
release-is : (t : List ℕ) (room flag value : ℕ) (s : Sending) → send_release t room flag value ≡ sound s
    → (s.message ≡ released-octets (sent_first flag value)) × ((s.change ≡ toClosed) × ((valid t ≡ true) × (named flag value ≡ some s.entry)))
unfolding send_release
release-is t room flag value s e =
    passed (valid t) 28 _ s e λ v e₁.
    through (transaction t flag value) _ s e₁ λ k e₂ e₃.
    let z = fitting-is room _ s e₃ in
    let i : k ≡ s.entry = ap (λ (x : Sending). x.entry) z in
    (sym (ap (λ (x : Sending). x.message) z), (sym (ap (λ (x : Sending). x.change) z), (v, transaction-is t flag value k e₂ ∙ ap some i)))

releases : (t b : List ℕ) (flag value : ℕ) → Releases t b flag value (release t b flag value)
unfolding release
releases t b flag value = go (send_release t (length b) flag value) refl (fine-release t (length b) flag value)
  where
    go : (o : Answer Sending) → send_release t (length b) flag value ≡ o → Fine t (length b) (named flag value) (Unit {0}) o → Releases t b flag value (call_outcome t b no_value o)
    go (fault n) e h z = absurd (false≢true (rw z at h))
    go (sound s) e h z =
        let r = release-is t (length b) flag value s e in
        let f = fits-at t s.entry h.can.0 h.can.1.0 in (
          subst (λ (x : List ℕ). Writes b x (call_outcome t b no_value (sound s))) r.0 (record { written = refl; front = front-is b s.message; behind = behind-stays b s.message; room = h.fits }),
          λ k n.
              let y : s.entry ≡ k = some_inj (sym r.1.1.1 ∙ n) in
              rw (← y, r.1.0, closes-is t s.entry) (record { own = closed-back t s.entry f; others = λ j m. others-stay t j s.entry closed f m }),
        )

every_call : EveryCall
unfolding begin invoke_within result error release
every_call t b p flag value operation code id =
    let n = length b in (
      called-fine t b (lowest_closed t) _ (λ s. s.entry) (toBegin t n operation id p) (fine-begin t n operation id p),
      (
        called-fine t b (named flag value) _ no_value (toInvoke t n flag value operation id p) (fine-invoke t n flag value operation id p),
        (
          called-fine t b (named flag value) _ no_value (send_result t n flag value id p) (fine-result t n flag value id p),
          (
            called-fine t b (named flag value) _ no_value (send_error t n flag value id code p) (fine-error t n flag value id code p),
            (called-fine t b (named flag value) _ no_value (send_release t n flag value) (fine-release t n flag value), releases t b flag value),
          ),
        ),
      ),
    )

pub demand-1 : Demand1
demand-1 = (every-message, every_call)
