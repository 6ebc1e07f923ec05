-- Every Password that a local call writes is four digits.
use Prim.Native.Nat.{ℕ, ◌+◌, ◌≤◌}
use mathlib.Core.Path.{◌≡◌, refl, sym, ap, subst, ◌∙◌}
use mathlib.Core.List.{List, [], ◌∷◌}
use mathlib.Core.Bool.{Bool, true, false, cond}
use mathlib.Core.Option.{Option, none, some}
use native.Mathlib.Omega.{arith}
use lib.IntN.{ℤ}
use lib.ListN.{length}
use lib.Dec.{eqb}
use mir.Syntax.{w8}
use mir.Val.{SFits}
use borrow.Author.Tests.{le-leb}
use Rattle.octets.specs.Reader.{Answer, fault, sound, Taken, took, is_empty}
use Rattle.octets.proofs.ReaderLaws.{sound-inj, not_sound, through, passed}
use Rattle.elements.specs.Element.{element, shortest}
use Rattle.elements.proofs.ElementLaws.{one-octet}
use Rattle.parameters.specs.Parameter.{password}
use Rattle.parameters.specs.Suits.{suits, suits_result_written, ResultWritten}
use Rattle.components.specs.Component.{Component, invoke, result, error, result_tag}
use Rattle.components.specs.Facility.{shows, facility}
use Rattle.components.specs.Written.{component_octets, tag_of, result_for, enclosed_length, result_length}
use Rattle.messages.specs.Layout.{release_type, sized, mandatory, release_empty, facility_message, sent_first}
use Rattle.messages.specs.Scan.{required}
use Rattle.sides.specs.Side.{among, operation_of}
use Rattle.table.specs.Table.{named, entry_at, valid}
use Rattle.calling.specs.Calls.{Sending, transaction, fitting, send_begin, send_invoke, send_result, send_error, send_release}
use Rattle.calling.proofs.Lengths.{facility-answer}
use Rattle.telephone.specs.Outcome.{Outcome}
use Rattle.telephone.specs.Calls.{call_outcome, no_value, begin, invoke_within, result as calls-result, error as calls-error, release}
use Rattle.telephone.proofs.OutcomeLaws.{front-is}
use Rattle.telephone.proofs.Paths.{fitting-is}
use Rattle.telephone.proofs.Shown.{some_inj, nothing-shown}
use Rattle.promises.specs.Passwords.{FourDigits, SendsDigits, WrittenAreDigits, AsksPassword, OthersAreNotWritten, DigitsAreWritten}
use Rattle.promises.specs.ReadBack.{sent_octets, Carries}
use Rattle.promises.proofs.CallFacts.{transaction-is}
use Rattle.promises.proofs.FourDigits.{are-four, is-password, at-most-eight, no-password}
use Rattle.promises.proofs.ReadBack.{call-reads-back}

-- where 18 is answered, the parameter that suits is a Password
written_is : (o : ℕ) (p : List ℕ) → o ≡ 18 → suits ResultWritten o p ≡ password p
unfolding suits suits_result_written
written_is o p e = rw e

-- what is sent carries one component
shows-inj : {c d : Component} → shows c ≡ shows d → c ≡ d
shows-inj e = cc

carries-one : (o : Outcome) (first type first' type' : ℕ) (c d : Component) → Carries first type o c → Carries first' type' o d → c ≡ d
carries-one o first type first' type' c d x y =
    let f : first ∷ type ∷ x.body ≡ first' ∷ type' ∷ y.body = sym x.front ∙ y.front in
    let a : type ≡ type' = cc in
    let b : x.body ≡ y.body = cc in
    let u : took (component_octets c) x.behind ≡ took (component_octets d) y.behind = sym x.found ∙ rw (a, b) y.found in
    let v : component_octets c ≡ component_octets d = ap (λ (g : Taken (List ℕ)). g.value) (sound-inj u) in
    shows-inj (sym x.back ∙ ap facility v ∙ y.back)

module _ (t b : List ℕ) (value : Sending → ℕ) where
  -- a call that sends something is one that is not refused
  answered : {first : ℕ} {rest : List ℕ} (o : Answer Sending) → sent_octets (call_outcome t b value o) ≡ first ∷ rest → (s : Sending) × (o ≡ sound s)
  answered (fault n) e = let z : ◌≡◌ {A = ℕ} 0 1 = cc in absurd (omega arith)
  answered (sound s) e = (s, refl)

  done-with : {s : Sending} (o : Answer Sending) → o ≡ sound s → (call_outcome t b value o).code ≡ 0
  done-with o e = rw e

  -- one that sends another component sends no result
  sends-other : (o : Answer Sending) (first type : ℕ) (c : Component) → (tag_of c ≡ result_tag → ⊥)
      → ((call_outcome t b value o).code ≡ 0 → Carries first type (call_outcome t b value o) c) → SendsDigits (call_outcome t b value o)
  sends-other o first type c n k first' type' id p g =
      let z = done-with o (answered o g.front).1 in
      absurd (n (ap tag_of (carries-one _ first type first' type' c (result id (some 18) p) (k z) g)))

module _ (t : List ℕ) (room flag value : ℕ) (s : Sending) where
  result-suits : (id : ℤ) (p : List ℕ) → send_result t room flag value id p ≡ sound s
      → (k : ℕ) × (named flag value ≡ some k) × (suits ResultWritten (operation_of id (entry_at t k).peer) p ≡ true)
  unfolding send_result
  result-suits id p e =
      passed (valid t) 28 _ s e λ e₁ f₁.
      through (transaction t flag value) _ s f₁ λ k e₂ f₂.
      passed (among id (entry_at t k).peer) 24 _ s f₂ λ e₃ f₃.
      passed (suits ResultWritten (operation_of id (entry_at t k).peer) p) 25 _ s f₃ λ e₄ f₄. (k, transaction-is t flag value k e₂, e₄)

  release-message : send_release t room flag value ≡ sound s → s.message ≡ release_empty (sent_first flag value)
  unfolding send_release
  release-message e =
      passed (valid t) 28 _ s e λ e₁ f₁.
      through (transaction t flag value) _ s f₁ λ k e₂ f₂. sym (ap (λ (x : Sending). x.message) (fitting-is room _ s f₂))

-- a result of 18 that is written for an operation is that operation's, with that parameter
result-for : (id j : ℤ) (o : ℕ) (p q : List ℕ) → result_for id o p ≡ result j (some 18) q → (o ≡ 18) × (p ≡ q)
unfolding result_for
result-for id j o p q e = go (is_empty p) e
  where
    go : (b : Bool) → cond b (result id none []) (result id (some o) p) ≡ result j (some 18) q → (o ≡ 18) × (p ≡ q)
    go true h = let z : ◌≡◌ {A = Option ℕ} none (some 18) = cc in nothing-shown z
    go false h = let z : ◌≡◌ {A = Option ℕ} (some o) (some 18) = cc in (some_inj z, cc)

result-sends : (t b p : List ℕ) (flag value : ℕ) (id : ℤ) → SFits w8 id → SendsDigits (calls-result t b flag value id p)
unfolding calls-result
result-sends t b p flag value id i first type j q g =
    let w = answered t b no_value (send_result t (length b) flag value id p) g.front in
    let k = result-suits t (length b) flag value w.0 id p w.1 in
    let z = (call-reads-back t b p flag value 0 0 id i).1.1.0 (done-with t b no_value _ w.1) k.0 k.1 in
    let e = result-for id j _ p q (carries-one _ _ _ first type _ (result j (some 18) q) z g) in
    subst FourDigits e.1 (are-four p (sym (written_is _ p e.0) ∙ k.2))

release-sends : (t b : List ℕ) (flag value : ℕ) → SendsDigits (release t b flag value)
unfolding release required mandatory sized
release-sends t b flag value first type j q g =
    let w = answered t b no_value (send_release t (length b) flag value) g.front in
    let r : sent_octets (call_outcome t b no_value (send_release t (length b) flag value)) ≡ release_empty (sent_first flag value) = rw w.1 (front-is b w.0.message ∙ release-message t (length b) flag value w.0 w.1) in
    let f : first ∷ type ∷ g.body ≡ sent_first flag value ∷ release_type ∷ [] = sym g.front ∙ r in
    let a : type ≡ release_type = cc in
    let c : g.body ≡ [] = cc in
    not_sound (rw (a, c) at g.found)

pub written-are-digits : WrittenAreDigits
unfolding begin invoke_within calls-error
written-are-digits t b p flag value operation code id i =
    let n = length b in
    let back = call-reads-back t b p flag value operation code id i in (
      sends-other t b (λ s. s.entry) (send_begin t n operation id p) _ _ (invoke id none operation p) (λ e. absurd (omega arith)) back.0,
      (
        sends-other t b no_value (send_invoke t n flag value operation id p) _ _ (invoke id none operation p) (λ e. absurd (omega arith)) back.1.0,
        (
          result-sends t b p flag value id i,
          (sends-other t b no_value (send_error t n flag value id code p) _ _ (error id code p) (λ e. absurd (omega arith)) back.1.1.1, release-sends t b flag value),
        ),
      ),
    )

pub others-are-not-written : OthersAreNotWritten
unfolding calls-result send_result transaction
others-are-not-written t b p flag value id a n = rw (a.image, a.names, a.is_open, a.waits, written_is _ p a.operation, no-password p n)

-- the message that answers with at most eight octets has at most 21
answer-most : (n : ℕ) → n ≤ 8 → 3 + result_length n ≤ 21
answer-most n h =
    go (eqb n 0) (ap length (one-octet 3 (omega arith))) (ap length (one-octet (3 + n) (omega arith))) (λ k. ap length (one-octet (3 + enclosed_length (3 + n)) (omega arith)))
  where
    go : (b : Bool) → length (shortest 3) ≡ 1 → length (shortest (3 + n)) ≡ 1 → (length (shortest (3 + n)) ≡ 1 → length (shortest (3 + enclosed_length (3 + n))) ≡ 1)
        → 3 + cond b (enclosed_length 3) (enclosed_length (3 + enclosed_length (3 + n))) ≤ 21
    go true x y z = omega arith
    go false x y z = let w = z y in omega arith

answer-is : (id : ℤ) (o : ℕ) (p : List ℕ) → FourDigits p → o ≡ 18 → result_for id o p ≡ result id (some 18) p
unfolding result_for element
answer-is id o [] f e = not_sound f.is
answer-is id o (a ∷ p) f e = rw e

sent : (t b p : List ℕ) (flag value : ℕ) (id : ℤ) (a : AsksPassword t flag value id) → FourDigits p
    → length (facility_message (sent_first flag value) (component_octets (result_for id (operation_of id (entry_at t a.entry).peer) p))) ≤ 21 → 21 ≤ length b
    → (calls-result t b flag value id p).code ≡ 0
unfolding calls-result send_result transaction fitting
sent t b p flag value id a f l h =
    let n = length (facility_message (sent_first flag value) (component_octets (result_for id (operation_of id (entry_at t a.entry).peer) p))) in
    rw (a.image, a.names, a.is_open, a.waits, written_is _ p a.operation, is-password p f, le-leb n 255 (omega arith), le-leb n (length b) (omega arith))

pub digits-are-written : DigitsAreWritten
digits-are-written t b p flag value id i a f h =
    let o = operation_of id (entry_at t a.entry).peer in
    let z = sent t b p flag value id a f (rw (facility-answer (sent_first flag value) id o p) (answer-most (length p) (at-most-eight p f))) (omega arith) in
    (z, subst (Carries _ _ _) (answer-is id o p f a.operation) ((call-reads-back t b p flag value 0 0 id i).1.1.0 z a.entry a.names))
