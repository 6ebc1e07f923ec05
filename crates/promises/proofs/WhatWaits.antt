-- What waits after a message or a call is what waited, with one change.
use Prim.Native.Nat.{ℕ}
use mathlib.Core.Path.{◌≡◌, refl, sym, ap, subst, ◌∙◌}
use mathlib.Core.List.{List, [], ◌∷◌}
use mathlib.Core.Bool.{Bool, true, false, cond, not, ◌||◌, false≢true}
use mathlib.Core.Option.{Option, none, some}
use native.Mathlib.Omega.{arith}
use borrow.Author.Tests.{eqb-true, not-true}
use lib.IntN.{ℤ}
use lib.ListN.{length}
use Rattle.octets.specs.Octets.{Octets}
use Rattle.octets.specs.Reader.{Answer, fault, sound}
use Rattle.octets.proofs.ReaderLaws.{through, passed}
use Rattle.octets.proofs.TestLaws.{both}
use Rattle.codes.specs.Ids.{octet_of}
use Rattle.codes.specs.Operations.{begins, waits}
use Rattle.codes.specs.Errors.{listed}
use Rattle.codes.proofs.IdLaws.{IsId}
use Rattle.parameters.specs.Suits.{suits, none_or_one, InvokeWritten, ResultWritten}
use Rattle.components.specs.Component.{Component, invoke, reject}
use Rattle.components.specs.Component as component
use Rattle.components.specs.Facility.{Finding, empty, shows, general, left_over, faulty_reject, facility}
use Rattle.components.specs.Shows.{Shows}
use Rattle.messages.specs.Layout.{value, flag}
use Rattle.sides.specs.Side.{Waiting, same_id, among, full, operation_of, without, none_twice}
use Rattle.sides.proofs.SideLaws.{fit_of}
use Rattle.table.specs.Table.{Entry, named, entry_at, valid, lowest_closed}
use Rattle.table.specs.Change.{Change, ours, peers, opens, adds, clears, changed, with_change, CanChange}
use Rattle.table.proofs.TableLaws.{holds_parts, holds_at, ids_at, fits-at, read-written, lowest-closed-is}
use Rattle.table.proofs.ChangeLaws.{SaidIn, changed-ids, closed_none}
use Rattle.judging.specs.StepSix.{kept, cleared}
use Rattle.judging.proofs.Walk.{walk-invoke, walk-result, walk-error}
use Rattle.deciding.specs.Decision.{Decision, silent, with_cause, with_reject, on_reject, released, taken}
use Rattle.deciding.specs.Steps.{picked_entry, on_judged, step_six, five_and_six, decide}
use Rattle.deciding.specs.Seen.{Ready, Keeps}
use Rattle.deciding.proofs.Keeps.{decide-keeps}
use Rattle.calling.specs.Calls.{Sending, or_refused, transaction, send_begin, send_invoke, send_result, send_error}
use Rattle.telephone.specs.Receive.{act, receive}
use Rattle.telephone.specs.Calls.{call_outcome, no_value, begin, invoke_within, result, error}
use Rattle.telephone.proofs.Paths.{entry-there, named_value, fitting-is}
use Rattle.promises.specs.Four.{Cleared, Behind, AfterTaken, AfterShown, WaitsAfterMessage, WaitsAfterCall, SidesKnown, waiting_for}
use Rattle.promises.proofs.Walk.{walk}
use Rattle.promises.proofs.Silence.{Says, decide-says, is_loud, loud-ready}
use Rattle.promises.proofs.RejectBack.{Rejects, decide-rejects}
use Rattle.promises.proofs.CallFacts.{Fine, fine-begin, fine-invoke, fine-result, fine-error, transaction-is}

-- the place with an id is cleared, and the others keep their order
cleared-step : (id : ℤ) (w : Waiting) (ws : List Waiting) (b : Bool) → same_id w.id id ≡ b → (b || among id ws) ≡ true → (among id ws ≡ true → Cleared id ws (without id ws))
    → Cleared id (w ∷ ws) (cond {A = List Waiting} b ws (w ∷ without id ws))
cleared-step id w ws true s e h = record { before = []; one = w; behind = ws; was = refl; its = eqb-true (octet_of w.id) (octet_of id) s; is = refl }
cleared-step id w ws false s e h =
    let c = h e in
    record { before = w ∷ c.before; one = c.one; behind = c.behind; was = ap (λ (l : List Waiting). w ∷ l) c.was; its = c.its; is = ap (λ (l : List Waiting). w ∷ l) c.is }

cleared-of : (id : ℤ) (ws : List Waiting) → among id ws ≡ true → Cleared id ws (without id ws)
unfolding among without
cleared-of id [] e = absurd (false≢true e)
cleared-of id (w ∷ ws) e = cleared-step id w ws (same_id w.id id) refl e (cleared-of id ws)

-- what is taken, by what it shows
abbrev ByComponent : Entry → Component → Change → Type 0
ByComponent e (invoke id linked o p) change = change ≡ kept id o
ByComponent e (component.result id o p) change = (change ≡ cleared id) × (among id e.own ≡ true)
ByComponent e (component.error id code p) change = (change ≡ cleared id) × (among id e.own ≡ true)
ByComponent e (reject id tag n) change = ⊥

abbrev ByShown : Entry → Shows → Change → Type 0
ByShown e none change = change ≡ opens
ByShown e (some w) change = ByComponent e w.component change

abbrev Relates : Entry → Decision → Type 0
Relates e (silent code) = Unit {0}
Relates e (with_cause number) = Unit {0}
Relates e (with_reject id tag number) = Unit {0}
Relates e (on_reject shown) = Unit {0}
Relates e (released shown cause) = Unit {0}
Relates e (taken change shown) = ByShown e shown change

module _ (e : Entry) (r : List ℕ) where
  six-relates : (c : Component) → Relates e (step_six e c r)
  unfolding step_six
  six-relates (invoke id linked o p) = walk-invoke (λ j. Relates e (on_judged j id (invoke id linked o p) r)) (λ tag n z. tt) e id linked o p λ a f. refl
  six-relates (component.result id o p) = walk-result (λ j. Relates e (on_judged j id (component.result id o p) r)) (λ tag n z. tt) e id o p λ a u. (refl, a)
  six-relates (component.error id code p) = walk-error (λ j. Relates e (on_judged j id (component.error id code p) r)) (λ tag n z. tt) e id code λ a u. (refl, a)
  six-relates (reject id tag n) = tt

  five-relates : (f : Finding) → Relates e (five_and_six e f r)
  unfolding five_and_six
  five-relates empty = refl
  five-relates (shows c) = six-relates c
  five-relates (general n id) = tt
  five-relates left_over = tt
  five-relates faulty_reject = tt

decide-relates : (t m : List ℕ) (room : ℕ) → Relates (entry_at t (picked_entry m)) (decide t m room)
decide-relates t m room =
    walk (Relates (entry_at t (picked_entry m))) (λ code k. tt) (λ n k. tt) (λ shown cause. tt) t m room
    (λ v n type g q. five-relates (entry_at t (picked_entry m)) g.rest (facility g.value))

-- what each change leaves on the two sides
module _ (e : Entry) where
  after_kept : (id : ℤ) (o : ℕ) (b : Bool) → waits o ≡ b
      → ((changed e (cond b (adds peers id o) opens)).own ≡ e.own)
      × ((waits o ≡ true → Behind id o e.peer (changed e (cond b (adds peers id o) opens)).peer) × (waits o ≡ false → (changed e (cond b (adds peers id o) opens)).peer ≡ e.peer))
  unfolding changed
  after_kept id o true w = (refl, (λ z. refl, λ z. absurd (false≢true (sym z ∙ w))))
  after_kept id o false w = (refl, (λ z. absurd (false≢true (sym w ∙ z)), λ z. refl))

  after-cleared : (id : ℤ) → among id e.own ≡ true → Cleared id e.own (changed e (clears ours id)).own × ((changed e (clears ours id)).peer ≡ e.peer)
  unfolding changed
  after-cleared id a = (cleared-of id e.own a, refl)

  after-answered : (id : ℤ) → among id e.peer ≡ true → Cleared id e.peer (changed e (clears peers id)).peer × ((changed e (clears peers id)).own ≡ e.own)
  unfolding changed
  after-answered id a = (cleared-of id e.peer a, refl)

  after-opens : ((changed e opens).own ≡ e.own) × ((changed e opens).peer ≡ e.peer)
  unfolding changed
  after-opens = (refl, refl)

  after-component : (c : Component) (change : Change) → ByComponent e c change → AfterTaken e c (changed e change)
  after-component (invoke id linked o p) change h = rw h (after_kept id o (waits o) refl)
  after-component (component.result id o p) change h = rw h.0 (after-cleared id h.1)
  after-component (component.error id code p) change h = rw h.0 (after-cleared id h.1)
  after-component (reject id tag n) change h = h

  after-shown : (s : Shows) (change : Change) → ByShown e s change → AfterShown e s (changed e change)
  after-shown none change h = rw h after-opens
  after-shown (some w) change h = after-component w.component change h

-- an entry that was changed reads as it became
pub change-back : (t : List ℕ) (k : ℕ) (c : Change) → Octets t → SaidIn c → CanChange t k c → entry_at (with_change t k c) k ≡ changed (entry_at t k) c
unfolding with_change
change-back t k c o s h =
    let f = fits-at t k h.0 h.1.0 in
    let i = ids_at t k o f in
    let j = changed-ids (entry_at t k) c s i.0 i.1 in
    read-written t k (changed (entry_at t k) c) f h.1.1 j.0 j.1

module _ (t m b : List ℕ) (o : Octets t) where
  after-act : (d : Decision) → Says d ≡ true → Relates (entry_at t (picked_entry m)) d → Keeps (entry_at t (picked_entry m)) d → Rejects d → (is_loud d ≡ true → Ready t m (length b)) → (act t m b d).code ≡ 0
      → AfterShown (entry_at t (picked_entry m)) (act t m b d).shown (entry_at (act t m b d).table (picked_entry m))
  unfolding act
  after-act (silent code) s r k i l z = absurd (false≢true (rw z at s))
  after-act (with_cause number) s r k i l z = absurd (omega arith)
  after-act (with_reject id tag number) s r k i l z = absurd (omega arith)
  after-act (on_reject shown) s r k i l z = absurd (omega arith)
  after-act (released shown cause) s r k i l z = absurd (omega arith)
  after-act (taken change shown) s r k i l z =
      let w = entry-there t m (length b) (l refl) in
      rw (change-back t (picked_entry m) change o i (w.0, (w.1, k.0))) (after-shown (entry_at t (picked_entry m)) shown change r)

pub waits-after-message : WaitsAfterMessage
unfolding receive
waits-after-message t m b o q z =
    let n = length b in
    after-act t m b o (decide t m n) (decide-says t m n) (decide-relates t m n) (decide-keeps t m n) (decide-rejects t m n q) (loud-ready t m n) z

-- a call that is sent has passed its tests, and makes its change
module _ (t : List ℕ) (room : ℕ) (id : ℤ) (p : List ℕ) (s : Sending) where
  begin-change : (o : ℕ) → send_begin t room o id p ≡ sound s → (s.change ≡ adds ours id o) × (lowest_closed t ≡ some s.entry)
  unfolding send_begin
  begin-change o e =
      passed (valid t) 28 _ s e λ e₁ f₁.
      passed (begins o) 20 _ s f₁ λ e₂ f₂.
      through (or_refused 21 (lowest_closed t)) _ s f₂ λ v e₃ f₃.
      passed (suits InvokeWritten o p) 25 _ s f₃ λ e₄ f₄.
      let z = fitting-is room _ s f₄ in
      (sym (ap (λ (x : Sending). x.change) z), named_value (lowest_closed t) v e₃ ∙ ap some (ap (λ (x : Sending). x.entry) z))

  module _ (flag value : ℕ) where
    invoke-change : (o : ℕ) → send_invoke t room flag value o id p ≡ sound s → (s.change ≡ adds ours id o) × (named flag value ≡ some s.entry)
    unfolding send_invoke
    invoke-change o e =
        passed (valid t) 28 _ s e λ e₁ f₁.
        passed (begins o) 20 _ s f₁ λ e₂ f₂.
        through (transaction t flag value) _ s f₂ λ k e₃ f₃.
        passed (not (full (entry_at t k).own || among id (entry_at t k).own)) 23 _ s f₃ λ e₄ f₄.
        passed (suits InvokeWritten o p) 25 _ s f₄ λ e₅ f₅.
        let z = fitting-is room _ s f₅ in
        (sym (ap (λ (x : Sending). x.change) z), transaction-is t flag value k e₃ ∙ ap some (ap (λ (x : Sending). x.entry) z))

    Answered : Type 0
    Answered = (s.change ≡ clears peers id) × ((named flag value ≡ some s.entry) × (among id (entry_at t s.entry).peer ≡ true))

    answered-at : (k : ℕ) (x : Sending) → x ≡ s → x.entry ≡ k → x.change ≡ clears peers id → named flag value ≡ some k → among id (entry_at t k).peer ≡ true → Answered
    unfolding Answered
    answered-at k x e i c n a =
        let j : k ≡ s.entry = sym i ∙ ap (λ (y : Sending). y.entry) e in
        (sym (ap (λ (y : Sending). y.change) e) ∙ c, (n ∙ ap some j, ap (λ (y : ℕ). among id (entry_at t y).peer) (sym j) ∙ a))

    result-change : send_result t room flag value id p ≡ sound s → Answered
    unfolding send_result
    result-change e =
        passed (valid t) 28 _ s e λ e₁ f₁.
        through (transaction t flag value) _ s f₁ λ k e₃ f₃.
        passed (among id (entry_at t k).peer) 24 _ s f₃ λ e₄ f₄.
        passed (suits ResultWritten (operation_of id (entry_at t k).peer) p) 25 _ s f₄ λ e₅ f₅.
        answered-at k _ (fitting-is room _ s f₅) refl refl (transaction-is t flag value k e₃) e₄

    error-change : (code : ℕ) → send_error t room flag value id code p ≡ sound s → Answered
    unfolding send_error
    error-change code e =
        passed (valid t) 28 _ s e λ e₁ f₁.
        passed (listed code) 20 _ s f₁ λ e₂ f₂.
        through (transaction t flag value) _ s f₂ λ k e₃ f₃.
        passed (among id (entry_at t k).peer) 24 _ s f₃ λ e₄ f₄.
        passed (none_or_one p) 25 _ s f₄ λ e₅ f₅.
        answered-at k _ (fitting-is room _ s f₅) refl refl (transaction-is t flag value k e₃) e₄

-- what is known of a side in which no id stands twice
among_same : (a b : ℤ) (ws : List Waiting) → octet_of a ≡ octet_of b → among a ws ≡ among b ws
unfolding among
among_same a b [] e = refl
among_same a b (w ∷ ws) e = rw (among_same a b ws e, e)

once-step : (id : ℤ) (w : Waiting) (ws : List Waiting) (b : Bool) → same_id w.id id ≡ b → among w.id ws ≡ false → among id (without id ws) ≡ false
    → among id (cond {A = List Waiting} b ws (w ∷ without id ws)) ≡ false
unfolding among
once-step id w ws true s n h = sym (among_same w.id id ws (eqb-true (octet_of w.id) (octet_of id) s)) ∙ n
once-step id w ws false s n h = rw (s, h)

once : (id : ℤ) (ws : List Waiting) → none_twice ws ≡ true → among id (without id ws) ≡ false
unfolding none_twice without among
once id [] h = refl
once id (w ∷ ws) h =
    let p = both (not (among w.id ws)) (none_twice ws) h in
    once-step id w ws (same_id w.id id) refl (not-true (among w.id ws) p.0) (once id ws p.1)

pub sides-known : SidesKnown
sides-known t k v l =
    let w = holds_parts (entry_at t k) (holds_at t k v l) in
    let a = fit_of begins (entry_at t k).own w.0 in
    let b = fit_of waits (entry_at t k).peer w.1.0 in
    ((a.0, λ id. once id (entry_at t k).own a.1.1), (b.0, λ id. once id (entry_at t k).peer b.1.1))

-- the first of ours in a value that was closed
begun : (t : List ℕ) (k : ℕ) (id : ℤ) (o : ℕ) → valid t ≡ true → lowest_closed t ≡ some k → changed (entry_at t k) (adds ours id o) ≡ record { is_open = true; own = waiting_for id o ∷ []; peer = [] }
unfolding changed
begun t k id o v l =
    let c = lowest-closed-is t k l in
    let n = closed_none (entry_at t k) (holds_at t k v (omega (arith, c.0))) c.1 in
    rw (n.0, n.1)

invoked : (e : Entry) (id : ℤ) (o : ℕ) → Behind id o e.own (changed e (adds ours id o)).own × ((changed e (adds ours id o)).peer ≡ e.peer)
unfolding changed
invoked e id o = (refl, refl)

-- the entry that a flag and a value name is the one that was changed
named-is : (o : Option ℕ) (k j : ℕ) → o ≡ some k → o ≡ some j → j ≡ k
named-is o k j e f = let z : some j ≡ some k = sym f ∙ e in cc

module _ (t b p : List ℕ) (o : Octets t) (id : ℤ) (i : IsId id) where
  after-begin : (operation : ℕ) → (begin t b operation id p).code ≡ 0
      → entry_at (begin t b operation id p).table (begin t b operation id p).value ≡ record { is_open = true; own = waiting_for id operation ∷ []; peer = [] }
  unfolding begin
  after-begin operation z =
      go (send_begin t (length b) operation id p) refl (fine-begin t (length b) operation id p) z
    where
      go : (a : Answer Sending) → send_begin t (length b) operation id p ≡ a → Fine t (length b) (lowest_closed t) (IsId id) a → (call_outcome t b (λ s. s.entry) a).code ≡ 0
          → entry_at (call_outcome t b (λ s. s.entry) a).table (call_outcome t b (λ s. s.entry) a).value ≡ record { is_open = true; own = waiting_for id operation ∷ []; peer = [] }
      go (fault n) e h q = absurd (false≢true (rw q at h))
      go (sound s) e h q =
          let c = begin-change t (length b) id p s operation e in
          change-back t s.entry s.change o (h.says i) h.can
          ∙ ap (changed (entry_at t s.entry)) c.0
          ∙ begun t s.entry id operation h.can.0 c.1

  module _ (flag value k : ℕ) (n : named flag value ≡ some k) where
    -- what is said of the changed entry is said of the one that was named
    at_named : (P : Entry → Entry → Type 0) (a : Answer Sending) → Fine t (length b) (named flag value) (IsId id) a → (call_outcome t b no_value a).code ≡ 0
        → ((s : Sending) → a ≡ sound s → P (entry_at t s.entry) (changed (entry_at t s.entry) s.change)) → P (entry_at t k) (entry_at (call_outcome t b no_value a).table k)
    at_named P (fault x) h z next = absurd (false≢true (rw z at h))
    at_named P (sound s) h z next =
        let j = named-is (named flag value) k s.entry n h.names in
        subst (λ (y : ℕ). P (entry_at t y) (entry_at (with_change t s.entry s.change) y)) j
        (rw (change-back t s.entry s.change o (h.says i) h.can) (next s refl))

    after-invoke : (operation : ℕ) → (invoke_within t b flag value operation id p).code ≡ 0
        → Behind id operation (entry_at t k).own (entry_at (invoke_within t b flag value operation id p).table k).own
        × ((entry_at (invoke_within t b flag value operation id p).table k).peer ≡ (entry_at t k).peer)
    unfolding invoke_within
    after-invoke operation z =
        at_named (λ e f. Behind id operation e.own f.own × (f.peer ≡ e.peer)) (send_invoke t (length b) flag value operation id p) (fine-invoke t (length b) flag value operation id p) z
        (λ s e. rw (invoke-change t (length b) id p s flag value operation e).0 (invoked (entry_at t s.entry) id operation))

    answered : (s : Sending) → Answered t (length b) id p s flag value
        → Cleared id (entry_at t s.entry).peer (changed (entry_at t s.entry) s.change).peer × ((changed (entry_at t s.entry) s.change).own ≡ (entry_at t s.entry).own)
    unfolding Answered
    answered s c = rw c.0 (after-answered (entry_at t s.entry) id c.1.1)

    after-result : (result t b flag value id p).code ≡ 0
        → Cleared id (entry_at t k).peer (entry_at (result t b flag value id p).table k).peer × ((entry_at (result t b flag value id p).table k).own ≡ (entry_at t k).own)
    unfolding result
    after-result z =
        at_named (λ e f. Cleared id e.peer f.peer × (f.own ≡ e.own)) (send_result t (length b) flag value id p) (fine-result t (length b) flag value id p) z
        (λ s e. answered s (result-change t (length b) id p s flag value e))

    after-error : (code : ℕ) → (error t b flag value id code p).code ≡ 0
        → Cleared id (entry_at t k).peer (entry_at (error t b flag value id code p).table k).peer × ((entry_at (error t b flag value id code p).table k).own ≡ (entry_at t k).own)
    unfolding error
    after-error code z =
        at_named (λ e f. Cleared id e.peer f.peer × (f.own ≡ e.own)) (send_error t (length b) flag value id code p) (fine-error t (length b) flag value id code p) z
        (λ s e. answered s (error-change t (length b) id p s flag value code e))

pub waits-after-call : WaitsAfterCall
waits-after-call t b p flag value operation code id o i = (
  after-begin t b p o id i operation,
  λ k n. (after-invoke t b p o id i flag value k n operation, (after-result t b p o id i flag value k n, after-error t b p o id i flag value k n code)),
)
