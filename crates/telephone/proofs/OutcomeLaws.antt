-- What every outcome keeps: the octets that are sent stand at the front of the buffer, what stands behind stays, and no
-- entry but one changes.
use Prim.Native.Nat.{ℕ, ◌+◌, ◌*◌, ◌≤◌}
use mathlib.Core.Path.{◌≡◌, refl, sym, ap}
use mathlib.Core.List.{List}
use mathlib.Core.Option.{none}
use native.Mathlib.Omega.{arith}
use lib.ListN.{length, take, drop}
use lib.Seq.{take-append_seam, drop-append_seam}
use Rattle.octets.specs.Reader.{sound}
use Rattle.octets.specs.Splice.{splice}
use Rattle.octets.proofs.SpliceLaws.{splice_front}
use Rattle.table.specs.Table.{size, entry_at}
use Rattle.table.specs.Change.{changed, with_change}
use Rattle.table.proofs.TableLaws.{others-stay}
use Rattle.deciding.specs.Decision.{Decision, silent, with_cause, with_reject, on_reject, released, taken}
use Rattle.components.specs.Component.{reject}
use Rattle.components.specs.Written.{component_octets}
use Rattle.messages.specs.Layout.{release_facility}
use Rattle.writing.proofs.WriteLaws.{reject-octets, reject-bound}
use Rattle.deciding.specs.Steps.{picked_entry, reply_first}
use Rattle.calling.specs.Calls.{Sending}
use Rattle.telephone.specs.Outcome.{untouched}
use Rattle.telephone.specs.Receive.{sent_by, act}
use Rattle.telephone.specs.Calls.{call_outcome}
use Rattle.telephone.proofs.Paths.{splice_none}

-- a message written at the front: it stands there, and what stood behind it stays
pub front-is : (b x : List ℕ) → take (length x) (splice b 0 x) ≡ x
front-is b x = rw (splice_front b x) (take-append_seam x (drop (length x) b))

pub behind-stays : (b x : List ℕ) → drop (length x) (splice b 0 x) ≡ drop (length x) b
behind-stays b x = rw (splice_front b x) (drop-append_seam x (drop (length x) b))

-- every reply finds room in twelve octets

facility-length : (first : ℕ) (v : List ℕ) → length (release_facility first v) ≡ 4 + length v
unfolding release_facility
facility-length first v = omega arith

pub sent-room : (m : List ℕ) (d : Decision) → length (sent_by m d) ≤ 12
sent-room m (silent code) = omega arith
sent-room m (with_cause number) = omega arith
sent-room m (with_reject id tag number) = omega (arith, facility-length (reply_first m) (component_octets (reject id tag number)), reject-octets id tag number, reject-bound id)
sent-room m (on_reject shown) = omega arith
sent-room m (released shown cause) = omega arith
sent-room m (taken change shown) = omega arith

module _ (t m b : List ℕ) where
  -- verdicts 1, 6 and 7, and the refusals 28 and 27
  pub silent-untouched : (code : ℕ) → act t m b (silent code) ≡ untouched t b code
  unfolding act
  silent-untouched code = ap (λ (x : List ℕ). record { code = code; written = 0; value = 0; shown = none; cause = none; buffer = x; table = t }) (sym (splice_none b))

  pub reply-is : (d : Decision) → take (act t m b d).written (act t m b d).buffer ≡ sent_by m d
  unfolding act
  reply-is d = front-is b (sent_by m d)

  -- no entry changes but the message's own
  pub others-kept : (d : Decision) (j : ℕ) → size * picked_entry m + size ≤ length t → (j ≡ picked_entry m → ⊥) → entry_at (act t m b d).table j ≡ entry_at t j
  unfolding act with_change
  others-kept (silent code) j h n = refl
  others-kept (with_cause number) j h n = others-stay t j (picked_entry m) _ h n
  others-kept (with_reject id tag number) j h n = others-stay t j (picked_entry m) _ h n
  others-kept (on_reject shown) j h n = others-stay t j (picked_entry m) _ h n
  others-kept (released shown cause) j h n = others-stay t j (picked_entry m) _ h n
  others-kept (taken change shown) j h n = others-stay t j (picked_entry m) _ h n

module _ (t b : List ℕ) (value : Sending → ℕ) where
  pub call-others : (s : Sending) (j : ℕ) → size * s.entry + size ≤ length t → (j ≡ s.entry → ⊥) → entry_at (call_outcome t b value (sound s)).table j ≡ entry_at t j
  unfolding with_change
  call-others s j h n = others-stay t j s.entry (changed (entry_at t s.entry) s.change) h n
