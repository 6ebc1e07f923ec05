-- No message and no call damages the table: every change that is made leaves an entry that an image can hold.
use Prim.Native.Nat.{ℕ}
use mathlib.Core.Path.{◌≡◌, refl}
use mathlib.Core.List.{List}
use mathlib.Core.Bool.{true}
use mathlib.Core.Option.{Option}
use lib.ListN.{length}
use Rattle.octets.specs.Octets.{Octets}
use Rattle.octets.specs.Reader.{Answer, fault, sound}
use Rattle.table.specs.Table.{closed, entry_at, named, lowest_closed, valid, with_entry}
use Rattle.table.specs.Change.{Change, closes, with_change, CanChange}
use Rattle.table.proofs.ChangeLaws.{SaidIn, change-valid, closes-holds}
use Rattle.deciding.specs.Decision.{Decision, silent, with_cause, with_reject, on_reject, released, taken}
use Rattle.deciding.specs.Steps.{picked_entry, decide}
use Rattle.deciding.specs.Seen.{Ready, Keeps}
use Rattle.deciding.proofs.Keeps.{decide-keeps}
use Rattle.calling.specs.Calls.{Sending, send_begin as toBegin, send_invoke as toInvoke, send_result, send_error, send_release}
use Rattle.telephone.specs.Receive.{act, receive}
use Rattle.telephone.specs.Calls.{call_outcome, no_value, begin, invoke_within, result, error, release}
use Rattle.telephone.proofs.Paths.{entry-there, closes-is}
use Rattle.promises.proofs.Silence.{is_loud, loud-ready}
use Rattle.promises.proofs.RejectBack.{Rejects, decide-rejects}
use Rattle.promises.proofs.TableOctets.{change-octets}
use Rattle.promises.proofs.CallFacts.{Fine, fine-begin, fine-invoke, fine-result, fine-error, fine-release}
use Rattle.promises.specs.NeverDamaged.{NeverDamaged}

abbrev pub SoundOctets : List ℕ → Type 0
SoundOctets t = (valid t ≡ true) × Octets t

module _ (t m b : List ℕ) (o : Octets t) where
  changed-sound : (c : Change) → SaidIn c → CanChange t (picked_entry m) c → SoundOctets (with_change t (picked_entry m) c)
  changed-sound c s h = (change-valid t (picked_entry m) c o s h, change-octets t (picked_entry m) c o s h)

  closed-sound : Ready t m (length b) → SoundOctets (with_entry t (picked_entry m) closed)
  closed-sound r =
      let w = entry-there t m (length b) r in
      rw (← closes-is t (picked_entry m)) (changed-sound closes tt (w.0, (w.1, closes-holds (entry_at t (picked_entry m)))))

  act-sound : (d : Decision) → valid t ≡ true → (is_loud d ≡ true → Ready t m (length b)) → Keeps (entry_at t (picked_entry m)) d → Rejects d → SoundOctets (act t m b d).table
  unfolding act
  act-sound (silent code) v r h s = (v, o)
  act-sound (with_cause n) v r h s = closed-sound (r refl)
  act-sound (with_reject id tag n) v r h s = closed-sound (r refl)
  act-sound (on_reject shown) v r h s = closed-sound (r refl)
  act-sound (released shown cause) v r h s = closed-sound (r refl)
  act-sound (taken change shown) v r h s =
      let w = entry-there t m (length b) (r refl) in
      changed-sound change s (w.0, (w.1, h.0))

  pub receive-sound : Octets m → valid t ≡ true → SoundOctets (receive t m b).table
  unfolding receive
  receive-sound q v = let n = length b in act-sound (decide t m n) v (loud-ready t m n) (decide-keeps t m n) (decide-rejects t m n q)

called-valid : (t b : List ℕ) (which : Option ℕ) (said : Type 0) (f : Sending → ℕ) (o : Answer Sending) → Octets t → said → valid t ≡ true → Fine t (length b) which said o
    → valid (call_outcome t b f o).table ≡ true
called-valid t b which said f (fault n) x i v h = v
called-valid t b which said f (sound s) x i v h = change-valid t s.entry s.change x (h.says i) h.can

pub never-damaged : NeverDamaged
unfolding receive begin invoke_within result error release
never-damaged t m b p flag value operation code id o q i v =
    let n = length b in (
      (receive-sound t m b o q v).0,
      (
        called-valid t b (lowest_closed t) _ (λ s. s.entry) (toBegin t n operation id p) o i v (fine-begin t n operation id p),
        (
          called-valid t b (named flag value) _ no_value (toInvoke t n flag value operation id p) o i v (fine-invoke t n flag value operation id p),
          (
            called-valid t b (named flag value) _ no_value (send_result t n flag value id p) o i v (fine-result t n flag value id p),
            (
              called-valid t b (named flag value) _ no_value (send_error t n flag value id code p) o i v (fine-error t n flag value id code p),
              called-valid t b (named flag value) _ no_value (send_release t n flag value) o tt v (fine-release t n flag value),
            ),
          ),
        ),
      ),
    )
