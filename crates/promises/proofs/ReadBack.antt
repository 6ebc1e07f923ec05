-- What is written reads back.
use Prim.Native.Nat.{ℕ}
use mathlib.Core.Path.{◌≡◌, refl, sym, ap, subst, ◌∙◌}
use mathlib.Core.List.{List, [], ◌∷◌}
use mathlib.Core.Bool.{Bool, true, false, cond, not, ◌&&◌, ◌||◌, false≢true}
use mathlib.Core.Option.{Option, none, some}
use lib.IntN.{ℤ}
use lib.ListN.{length, drop}
use lib.Dec.{leb, eqb}
use mir.Syntax.{w8}
use mir.Val.{SFits}
use Rattle.octets.specs.Reader.{Answer, fault, sound, Taken, took, and_then, check, is_empty, alone}
use Rattle.octets.proofs.ReaderLaws.{through, passed}
use Rattle.octets.proofs.TestLaws.{both}
use Rattle.elements.specs.Element.{Element, element}
use Rattle.codes.specs.Operations.{begins}
use Rattle.codes.specs.Errors.{listed}
use Rattle.parameters.specs.Parameter.{mistyped, is_sound, one, holding, contents_are, ussd, is_password, is_service_code, ussd_contents, password, service_code, ss_for_bs}
use Rattle.parameters.specs.Suits.{any_one, is_ussd, none_or_one, none_or_ussd, suits_invoke_written, suits_result_written, suits, InvokeWritten, ResultWritten}
use Rattle.places.specs.Places.{misplaced, parameter}
use Rattle.components.specs.Component.{Component, invoke, error}
use Rattle.components.specs.Facility.{shows, facility}
use Rattle.components.specs.Written.{component_octets, result_for, IsParameter, Writable}
use Rattle.components.proofs.ReadBack.{read_back, answer-writable}
use Rattle.messages.specs.Layout.{register_type, facility_type, sent_first, register, facility_message}
use Rattle.messages.specs.Scan.{required}
use Rattle.sending.proofs.SentBack.{register-found, facility-found}
use Rattle.sides.specs.Side.{among, full, operation_of}
use Rattle.table.specs.Table.{named, entry_at, valid, lowest_closed}
use Rattle.calling.specs.Calls.{Sending, or_refused, transaction, send_begin, send_invoke, send_result, send_error}
use Rattle.telephone.specs.Calls.{call_outcome, no_value, begin, invoke_within, result, error as calls-error}
use Rattle.telephone.proofs.Paths.{fitting-is}
use Rattle.telephone.proofs.OutcomeLaws.{front-is}
use Rattle.telephone.proofs.Shown.{some_inj}
use Rattle.promises.specs.ReadBack.{ComponentReadsBack, Carries, CallReadsBack}
use Rattle.promises.proofs.CallFacts.{Fine, fine-begin, fine-invoke, fine-result, fine-error, transaction-is}

-- one element, and nothing behind it, is a parameter
one-parameter : (p : List ℕ) → is_sound (one p) ≡ true → IsParameter p
unfolding parameter
one-parameter [] h = refl
one-parameter (a ∷ p) h = go (element (a ∷ p)) h
  where
    ended : (b : Bool) (e : Element) → is_sound (check b mistyped (sound e)) ≡ true → and_then (check b misplaced (sound e)) (λ x. sound (a ∷ p)) ≡ sound (a ∷ p)
    ended true e h = refl
    ended false e h = absurd (false≢true h)

    go : (o : Answer (Taken Element)) → is_sound (alone mistyped o) ≡ true → and_then (alone misplaced o) (λ x. sound (a ∷ p)) ≡ sound (a ∷ p)
    go (fault n) h = absurd (false≢true h)
    go (sound g) h = ended (is_empty g.rest) g.value h

-- contents held under a tag are those of one element
held_one : (tag : ℕ) (p : List ℕ) (test : List ℕ → Bool) → contents_are (holding tag p) test ≡ true → is_sound (one p) ≡ true
held_one tag p test h = go (one p) h
  where
    go : (o : Answer Element) → contents_are (and_then o (λ e. check (eqb e.tag tag) mistyped (sound e.contents))) test ≡ true → is_sound o ≡ true
    go (fault n) h = absurd (false≢true h)
    go (sound e) h = refl

ussd-one : (p : List ℕ) → is_ussd p ≡ true → is_sound (one p) ≡ true
unfolding ussd
ussd-one p h = go (one p) h
  where
    go : (o : Answer Element) → is_sound (and_then (and_then o (λ e. check (eqb e.tag 0x30) mistyped (sound e.contents))) ussd_contents) ≡ true → is_sound o ≡ true
    go (fault n) h = absurd (false≢true h)
    go (sound e) h = refl

-- the parameter of each operation that we begin
invoke-parameter : (o : ℕ) (p : List ℕ) → suits InvokeWritten o p ≡ true → IsParameter p
unfolding suits suits_invoke_written
invoke-parameter o p h = one-parameter p (go (eqb o 10) (leb 11 o && leb o 14) (eqb o 17) h)
  where
    go : (a b c : Bool) → cond a (any_one p) (cond b (ss_for_bs p) (cond c (service_code p) (eqb o 59 && is_ussd p))) ≡ true → is_sound (one p) ≡ true
    go true b c h = h
    go false true c h = held_one 0x30 p _ h
    go false false true h = held_one 0x04 p is_service_code h
    go false false false h = ussd-one p (both (eqb o 59) (is_ussd p) h).1

none_or : (p : List ℕ) (x : Bool) → (x ≡ true → is_sound (one p) ≡ true) → is_empty p || x ≡ true → IsParameter p
unfolding parameter
none_or [] x k h = refl
none_or (a ∷ p) x k h = one-parameter (a ∷ p) (k h)

no-parameter : (p : List ℕ) → is_empty p ≡ true → IsParameter p
unfolding parameter
no-parameter [] h = refl
no-parameter (a ∷ p) h = absurd (false≢true h)

-- and of each result that we write
result-parameter : (o : ℕ) (p : List ℕ) → suits ResultWritten o p ≡ true → IsParameter p
unfolding suits suits_result_written
result-parameter o p h = go (eqb o 18) (eqb o 60) h
  where
    go : (a b : Bool) → cond a (password p) (cond b (none_or_ussd p) (eqb o 61 && is_empty p)) ≡ true → IsParameter p
    go true b h = one-parameter p (held_one 0x12 p is_password h)
    go false true h = none_or p (is_ussd p) (ussd-one p) h
    go false false h = no-parameter p (both (eqb o 61) (is_empty p) h).1

-- a message to be sent: first octet and type, and behind them the Facility value of c
record Laid (first type : ℕ) (message : List ℕ) (c : Component) : Type 0 where
  pub body : List ℕ
  pub is : message ≡ first ∷ type ∷ body
  pub behind : List ℕ
  pub found : required type body ≡ took (component_octets c) behind
  pub back : facility (component_octets c) ≡ shows c

module _ (t p : List ℕ) (room : ℕ) (id : ℤ) (i : SFits w8 id) (s : Sending) where
  in-register : (first : ℕ) (c : Component) → Writable c → s.message ≡ register first (component_octets c) → Laid first register_type s.message c
  unfolding register
  in-register first c w e =
      record { body = drop 2 (register first (component_octets c)); is = e; behind = 0x7F ∷ 0x01 ∷ 0x00 ∷ []; found = register-found first (component_octets c); back = read_back c w }

  in-facility : (first : ℕ) (c : Component) → Writable c → s.message ≡ facility_message first (component_octets c) → Laid first facility_type s.message c
  unfolding facility_message
  in-facility first c w e =
      record { body = drop 2 (facility_message first (component_octets c)); is = e; behind = []; found = facility-found first (component_octets c); back = read_back c w }

  begin-laid : (o : ℕ) → send_begin t room o id p ≡ sound s → Laid (sent_first 1 s.entry) register_type s.message (invoke id none o p)
  unfolding send_begin
  begin-laid o e =
      passed (valid t) 28 _ s e λ e₁ f₁.
      passed (begins o) 20 _ s f₁ λ e₂ f₂.
      through (or_refused 21 (lowest_closed t)) _ s f₂ λ v e₃ f₃.
      passed (suits InvokeWritten o p) 25 _ s f₃ λ e₄ f₄.
      let z = fitting-is room _ s f₄ in
      let v-is : v ≡ s.entry = ap (λ (x : Sending). x.entry) z in
      subst (λ (k : ℕ). Laid (sent_first 1 k) register_type s.message (invoke id none o p)) v-is
      (in-register (sent_first 1 v) (invoke id none o p) (i, (tt, invoke-parameter o p e₄)) (sym (ap (λ (x : Sending). x.message) z)))

  module _ (flag value : ℕ) where
    invoke-laid : (o : ℕ) → send_invoke t room flag value o id p ≡ sound s → Laid (sent_first flag value) facility_type s.message (invoke id none o p)
    unfolding send_invoke
    invoke-laid o e =
        passed (valid t) 28 _ s e λ e₁ f₁.
        passed (begins o) 20 _ s f₁ λ e₂ f₂.
        through (transaction t flag value) _ s f₂ λ k e₃ f₃.
        passed (not (full (entry_at t k).own || among id (entry_at t k).own)) 23 _ s f₃ λ e₄ f₄.
        passed (suits InvokeWritten o p) 25 _ s f₄ λ e₅ f₅.
        in-facility (sent_first flag value) (invoke id none o p) (i, (tt, invoke-parameter o p e₅)) (sym (ap (λ (z : Sending). z.message) (fitting-is room _ s f₅)))

    result-laid : send_result t room flag value id p ≡ sound s → (k : ℕ) → named flag value ≡ some k
        → Laid (sent_first flag value) facility_type s.message (result_for id (operation_of id (entry_at t k).peer) p)
    unfolding send_result
    result-laid e k n =
        passed (valid t) 28 _ s e λ e₁ f₁.
        through (transaction t flag value) _ s f₁ λ j e₂ f₂.
        passed (among id (entry_at t j).peer) 24 _ s f₂ λ e₃ f₃.
        passed (suits ResultWritten (operation_of id (entry_at t j).peer) p) 25 _ s f₃ λ e₄ f₄.
        let m = sym (ap (λ (x : Sending). x.message) (fitting-is room _ s f₄)) in
        let k-is : j ≡ k = some_inj (sym (transaction-is t flag value j e₂) ∙ n) in
        subst (λ (l : ℕ). Laid (sent_first flag value) facility_type s.message (result_for id (operation_of id (entry_at t l).peer) p)) k-is
        (in-facility (sent_first flag value) _ (answer-writable id (operation_of id (entry_at t j).peer) p i (result-parameter (operation_of id (entry_at t j).peer) p e₄)) m)

    error-laid : (code : ℕ) → send_error t room flag value id code p ≡ sound s → Laid (sent_first flag value) facility_type s.message (error id code p)
    unfolding send_error
    error-laid code e =
        passed (valid t) 28 _ s e λ e₁ f₁.
        passed (listed code) 20 _ s f₁ λ e₂ f₂.
        through (transaction t flag value) _ s f₂ λ k e₃ f₃.
        passed (among id (entry_at t k).peer) 24 _ s f₃ λ e₄ f₄.
        passed (none_or_one p) 25 _ s f₄ λ e₅ f₅.
        in-facility (sent_first flag value) (error id code p) (i, none_or p (any_one p) (λ h. h) e₅) (sym (ap (λ (z : Sending). z.message) (fitting-is room _ s f₅)))

-- a call that succeeds leaves its message at the front of the buffer
module _ (t b : List ℕ) (value : Sending → ℕ) where
  carried : {C : Type 0} (which : Option ℕ) (said : Type 0) (o : Answer Sending) → Fine t (length b) which said o → (call_outcome t b value o).code ≡ 0 → ((s : Sending) → o ≡ sound s → C) → C
  carried which said (fault n) h z next = absurd (false≢true (rw z at h))
  carried which said (sound s) h z next = next s refl

  at_front : (first type : ℕ) (o : Answer Sending) (s : Sending) (c : Component) → o ≡ sound s → Laid first type s.message c → Carries first type (call_outcome t b value o) c
  at_front first type o s c e l = rw e (record { body = l.body; front = front-is b s.message ∙ l.is; behind = l.behind; found = l.found; back = l.back })

pub component-reads-back : ComponentReadsBack
component-reads-back c w = read_back c w

pub call-reads-back : CallReadsBack
unfolding begin invoke_within result calls-error
call-reads-back t b p flag value operation code id i =
    let n = length b in (
      (λ z. carried t b (λ s. s.entry) (lowest_closed t) _ (send_begin t n operation id p) (fine-begin t n operation id p) z λ s e.
          subst (λ (o : Answer Sending). Carries (sent_first 1 (call_outcome t b (λ x. x.entry) o).value) register_type (call_outcome t b (λ x. x.entry) o) (invoke id none operation p)) (sym e)
          (at_front t b (λ x. x.entry) _ register_type (sound s) s _ refl (begin-laid t p n id i s operation e))),
      (
        (λ z. carried t b no_value (named flag value) _ (send_invoke t n flag value operation id p) (fine-invoke t n flag value operation id p) z λ s e.
            at_front t b no_value _ facility_type _ s _ e (invoke-laid t p n id i s flag value operation e)),
        (
          (λ z k m. carried t b no_value (named flag value) _ (send_result t n flag value id p) (fine-result t n flag value id p) z λ s e.
              at_front t b no_value _ facility_type _ s _ e (result-laid t p n id i s flag value e k m)),
          λ z. carried t b no_value (named flag value) _ (send_error t n flag value id code p) (fine-error t n flag value id code p) z λ s e.
              at_front t b no_value _ facility_type _ s _ e (error-laid t p n id i s flag value code e),
        ),
      ),
    )
