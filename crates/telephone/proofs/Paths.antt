-- What the definitions say on each path through the code.
use Prim.Native.Nat.{ℕ, ◌+◌, ◌≤◌, ◌<◌}
use mathlib.Core.Path.{◌≡◌, refl, sym, ap, subst, ◌∙◌}
use mathlib.Core.List.{List, []}
use mathlib.Core.Bool.{Bool, true, false, cond}
use mathlib.Core.Option.{Option as Maybe, none, some}
use Rattle.std.specs.Prelude.{Option}
use native.Mathlib.Omega.{arith}
use lib.ListN.{length, drop, length-drop}
use lib.IntN.{ℤ}
use lib.Dec.{leb, eqb}
use Rattle.octets.specs.Reader.{sound}
use Rattle.octets.specs.Splice.{splice}
use Rattle.octets.proofs.ReaderLaws.{sound-inj, through, passed}
use Rattle.codes.specs.Operations.{begins}
use Rattle.parameters.specs.Suits.{suits, InvokeWritten}
use Rattle.messages.specs.Layout.{flag, value}
use Rattle.octets.specs.Seen.{part_found}
use Rattle.table.specs.Table.{closed, entry_at, valid, lowest_closed, with_entry}
use Rattle.table.specs.Change.{closes, changed, with_change, CanChange}
use Rattle.table.specs.Seen.{change_seen}
use Rattle.table.specs.declared.Change.{Change}
use Rattle.table.proofs.TableLaws.{lowest-closed-is}
use Rattle.calling.specs.Calls.{Sending, or_refused, fitting, send_begin}
use Rattle.showing.specs.Views.{component_view, text_view, cause_view}
use Rattle.deciding.specs.Steps.{first_octet, picked_entry}
use Rattle.deciding.specs.Seen.{told_seen, act_seen, ActWithin, decision_seen, DecisionWithin, acts_not, is_silent, Ready, Keeps}
use Rattle.deciding.specs.declared.Told.{Told}
use Rattle.deciding.specs.declared.Act.{Act}
use Rattle.deciding.specs.declared.Decision.{Decision as Made}
use Rattle.telephone.specs.Receive.{verdict_of, sent_by, cause_by, act}
use Rattle.telephone.specs.FromC.{shown_as, received_of, ActedAs}
use Rattle.telephone.specs.declared.receive.Acted.{Acted}
use Rattle.telephone.specs.declared.receive.Received.{Received}

place-most : (b : Bool) (v : ℕ) → v < 7 → cond b v (7 + v) < 14
place-most true v h = omega arith
place-most false v h = omega arith

-- the entry of a message that is acted on is one of a sound image
pub entry-there : (t m : List ℕ) (room : ℕ) → Ready t m room → (valid t ≡ true) × (picked_entry m < 14)
unfolding picked_entry
entry-there t m room h = (h.0, place-most (eqb (flag (first_octet m)) 1) (value (first_octet m)) h.1.1.1)

-- so is the entry that is acted on, which the code has by its number
module _ (t m : List ℕ) (room k : ℕ) (d : Made) (p : k ≡ picked_entry m) (r : is_silent d ≡ false → Ready t m room) where
  pub acted-there : (a : Act) → d.act ≡ a → acts_not a ≡ false → (valid t ≡ true) × (k < 14)
  acted-there a e n = rw p (entry-there t m room (r (ap (λ (x : Act). acts_not x) e ∙ n)))

  -- a change that is taken can be made
  pub taken-there : (c : Change) → d.act ≡ Act.Taken c → Keeps (entry_at t (picked_entry m)) (decision_seen (drop 2 m) d) → CanChange t k (change_seen c)
  taken-there c e h =
      let w = acted-there (Act.Taken c) e refl in
      (w.0, (w.1, rw p (subst (λ (a : Act). Keeps (entry_at t (picked_entry m)) (act_seen (drop 2 m) a (told_seen (drop 2 m) d.told))) e h).0))

-- the change that closes leaves a closed entry
pub closes-is : (t : List ℕ) (k : ℕ) → with_change t k closes ≡ with_entry t k closed
unfolding with_change changed
closes-is t k = refl

-- nothing written leaves the buffer as lent
pub splice_none : (b : List ℕ) → b ≡ splice b 0 []
unfolding splice
splice_none b = refl

-- what is shown of the octets behind the head is shown of the message
module _ (t m b : List ℕ) where
  behind-head : 2 ≤ length m → 2 + length (drop 2 m) ≡ length m
  behind-head k = omega (arith, length-drop 2 m)

  whole : (a : Act) (told : Option Told) → (acts_not a ≡ false → 2 ≤ length m) → ActWithin (drop 2 m) a told
      → shown_as (2 + length (drop 2 m)) (verdict_of (act_seen (drop 2 m) a (told_seen (drop 2 m) told))) (length (sent_by m (act_seen (drop 2 m) a (told_seen (drop 2 m) told)))) (told_seen (drop 2 m) told) (cause_by (act_seen (drop 2 m) a (told_seen (drop 2 m) told)))
      ≡ received_of (length m) (act t m b (act_seen (drop 2 m) a (told_seen (drop 2 m) told)))
  unfolding act component_view text_view cause_view
  whole (Act.Silent silence) told h w = rw w
  whole (Act.WithCause number) told h w = rw (behind-head (h refl), w.0)
  whole (Act.WithReject id problem) told h w = rw (behind-head (h refl), w)
  whole Act.OnReject told h w = rw (behind-head (h refl))
  whole (Act.Released cause) told h w = rw (behind-head (h refl))
  whole (Act.Taken change) told h w = rw (behind-head (h refl))

  pub shown-as : (d : Made) (x : Acted) (p : List ℕ) (r : Received) → (is_silent d ≡ false → Ready t m (length b)) → DecisionWithin (drop 2 m) d → p ≡ drop 2 m
      → ActedAs (drop 2 m) x (act t m b (decision_seen (drop 2 m) d))
      → r ≡ shown_as (2 + length p) x.code x.written (told_seen p d.told) (part_found p x.cause)
      → r ≡ received_of (length m) (act t m b (decision_seen (drop 2 m) d))
  unfolding act
  shown-as d x p r h w e f q =
      q ∙ rw (e, f.0, f.1.0, f.1.1.0) (whole d.act d.told (λ z. (h z).1.1.0) w.1)

pub named_value : (o : Maybe ℕ) (v : ℕ) → or_refused 21 o ≡ sound v → o ≡ some v
named_value none v e = cc
named_value (some k) v e = ap some (sound-inj e)

-- what fits is sent as it is
pub fitting-is : (room : ℕ) (x s : Sending) → fitting room x ≡ sound s → x ≡ s
unfolding fitting
fitting-is room x s e = passed (leb (length x.message) 255) 26 _ s e λ a f. passed (leb (length x.message) room) 27 _ s f λ b g. sound-inj g

-- the value that a begin takes is one of ours
pub begin-value : (t : List ℕ) (room o : ℕ) (id : ℤ) (p : List ℕ) (s : Sending) → sound s ≡ send_begin t room o id p → s.entry < 7
unfolding send_begin
begin-value t room o id p s e =
    passed (valid t) 28 _ s (sym e) λ e₁ f₁.
    passed (begins o) 20 _ s f₁ λ e₂ f₂.
    through (or_refused 21 (lowest_closed t)) _ s f₂ λ v e₃ f₃.
    passed (suits InvokeWritten o p) 25 _ s f₃ λ e₄ f₄.
    let h : v ≡ s.entry = ap (λ (z : Sending). z.entry) (fitting-is room _ s f₄) in
    let k = (lowest-closed-is t v (named_value (lowest_closed t) v e₃)).0 in
    omega arith
