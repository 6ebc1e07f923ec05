-- The contract leaves one answer: two decisions that say the same of a message, and lie within it, are equal.
use Prim.Native.Nat.{ℕ, ◌≤◌}
use mathlib.Core.Path.{◌≡◌, refl, sym, ap, ◌∙◌}
use mathlib.Core.List.{List}
use mathlib.Core.Option.{Option as Maybe, some}
use mathlib.Core.Bool.{cond}
use native.Mathlib.Omega.{arith}
use lib.IntN.{ℤ}
use lib.Dec.{eqb}
use lib.ListN.{length, take, length-take, length-drop}
use Rattle.std.specs.Prelude.{Option, None, Some, Result, Ok}
use Rattle.octets.specs.Reader.{Taken}
use Rattle.codes.specs.declared.refusals.Refusal.{Refusal}
use Rattle.places.proofs.Determined.{id-determined}
use Rattle.components.specs.Facility.{shows}
use Rattle.components.specs.Seen.{shown_seen, TextTold, parameter_length}
use Rattle.components.specs.declared.shown.Shown.{Shown}
use Rattle.components.specs.declared.facility.Unread.{Unread}
use Rattle.components.proofs.Determined.{reading-determined, text-determined}
use Rattle.octets.proofs.Determined.{found-determined}
use Rattle.table.specs.Change.{Change}
use Rattle.table.proofs.Determined.{change-determined}
use Rattle.judging.proofs.Determined.{problem-determined}
use Rattle.components.specs.Shows.{ShownComponent, Shows}
use Rattle.deciding.specs.Decision.{silent, with_cause, with_reject, on_reject, released, taken}
use Rattle.deciding.specs.Numbers.{silence_number, cause_number}
use Rattle.deciding.specs.Seen.{told_seen, ToldWithin, act_seen, ActWithin, decision_seen, DecisionWithin}
use Rattle.deciding.specs.declared.Told.{Told}
use Rattle.deciding.specs.declared.Silence.{Silence}
use Rattle.deciding.specs.declared.Cause.{Cause}
use Rattle.deciding.specs.declared.Act.{Act}
use Rattle.deciding.specs.declared.Decision.{Decision}

-- a silence and a cause are told by their numbers
abbrev refusal_back : ℕ → Refusal
refusal_back n =
    cond (eqb n 20) Refusal.NotListed
    (cond (eqb n 21) Refusal.NoValueFree
    (cond (eqb n 22) Refusal.NotOpen
    (cond (eqb n 23) Refusal.StillWaiting
    (cond (eqb n 24) Refusal.NoSuchInvoke
    (cond (eqb n 25) Refusal.WrongParameter
    (cond (eqb n 26) Refusal.MessageTooLong
    (cond (eqb n 27) Refusal.BufferTooShort
    (cond (eqb n 28) Refusal.TableDamaged
    (cond (eqb n 30) Refusal.BadRecord Refusal.OutputTooShort)))))))))

abbrev silence_back : ℕ → Silence
silence_back n =
    cond (eqb n 1) Silence.Ignored (cond (eqb n 6) Silence.TooLong (cond (eqb n 7) Silence.OtherProtocol (Silence.Refused (refusal_back n))))

silence-is : (x : Silence) → silence_back (silence_number x) ≡ x
silence-is Silence.Ignored = refl
silence-is Silence.TooLong = refl
silence-is Silence.OtherProtocol = refl
silence-is (Silence.Refused Refusal.NotListed) = refl
silence-is (Silence.Refused Refusal.NoValueFree) = refl
silence-is (Silence.Refused Refusal.NotOpen) = refl
silence-is (Silence.Refused Refusal.StillWaiting) = refl
silence-is (Silence.Refused Refusal.NoSuchInvoke) = refl
silence-is (Silence.Refused Refusal.WrongParameter) = refl
silence-is (Silence.Refused Refusal.MessageTooLong) = refl
silence-is (Silence.Refused Refusal.BufferTooShort) = refl
silence-is (Silence.Refused Refusal.TableDamaged) = refl
silence-is (Silence.Refused Refusal.BadRecord) = refl
silence-is (Silence.Refused Refusal.OutputTooShort) = refl

silence-determined : (x y : Silence) → silence_number x ≡ silence_number y → x ≡ y
silence-determined x y e = sym (silence-is x) ∙ ap silence_back e ∙ silence-is y

abbrev cause_back : ℕ → Cause
cause_back n =
    cond (eqb n 29) Cause.FacilityRejected
    (cond (eqb n 81) Cause.InvalidTransaction
    (cond (eqb n 96) Cause.InvalidMandatory
    (cond (eqb n 97) Cause.UnknownType Cause.WrongState)))

cause-is : (x : Cause) → cause_back (cause_number x) ≡ x
cause-is Cause.FacilityRejected = refl
cause-is Cause.InvalidTransaction = refl
cause-is Cause.InvalidMandatory = refl
cause-is Cause.UnknownType = refl
cause-is Cause.WrongState = refl

cause-determined : (x y : Cause) → cause_number x ≡ cause_number y → x ≡ y
cause-determined x y e = sym (cause-is x) ∙ ap cause_back e ∙ cause-is y

-- a component is a part of a reading
shows-inj : {r q : Shown} → ◌≡◌ {A = Result (Option Shown) Unread} (Ok (Some r)) (Ok (Some q)) → r ≡ q
shows-inj e = cc

shown-determined : (s : List ℕ) (r q : Shown) → parameter_length r ≤ length s → parameter_length q ≤ length s → shown_seen s r ≡ shown_seen s q → r ≡ q
shown-determined s r q a b e = shows-inj (reading-determined s (Ok (Some r)) (Ok (Some q)) a b (ap shows e))

some_inj : {a b : ShownComponent} → some a ≡ some b → a ≡ b
some_inj e = cc

told-determined : (s : List ℕ) (r q : Option Told) → ToldWithin s r → ToldWithin s q → told_seen s r ≡ told_seen s q → r ≡ q
told-determined s None None a b e = refl
told-determined s None (Some q) a b e = cc
told-determined s (Some r) None a b e = cc
told-determined s (Some r) (Some q) a b e =
    let g = some_inj e in
    let x : r.end ≡ q.end = omega (arith, simp length-drop at (ap (λ (h : ShownComponent). length h.behind) g)) in
    let f : shown_seen (take q.end s) r.shown ≡ shown_seen (take q.end s) q.shown = rw x at (ap (λ (h : ShownComponent). h.component) g) in
    let k : length (take q.end s) ≡ q.end = rw (length-take q.end s) (omega arith) in
    let y = shown-determined (take q.end s) r.shown q.shown (omega arith) (omega arith) f in
    let z : TextTold (shown_seen (take q.end s) q.shown) r.text = rw (sym f, sym x) a.1 in
    let v = text-determined (shown_seen (take q.end s) q.shown) r.text q.text z b.1 in
    λ n. Some (record { shown = y n; end = x n; text = v n })

silent-inj : {n m : ℕ} → silent n ≡ silent m → n ≡ m
silent-inj e = cc

cause-inj : {n m : ℕ} → with_cause n ≡ with_cause m → n ≡ m
cause-inj e = cc

reject-inj : {i j : Maybe ℤ} {t u n m : ℕ} → with_reject i t n ≡ with_reject j u m → (i ≡ j) × (t ≡ u) × (n ≡ m)
reject-inj e = (cc, cc, cc)

on-inj : {a b : Shows} → on_reject a ≡ on_reject b → a ≡ b
on-inj e = cc

released-inj : {a b : Shows} {p o : Maybe (Taken (List ℕ))} → released a p ≡ released b o → (a ≡ b) × (p ≡ o)
released-inj e = (cc, cc)

taken-inj : {z w : Change} {a b : Shows} → taken z a ≡ taken w b → (z ≡ w) × (a ≡ b)
taken-inj e = (cc, cc)

act-determined : (s : List ℕ) (x y : Option Told) (a b : Act) → ActWithin s a x → ActWithin s b y → act_seen s a (told_seen s x) ≡ act_seen s b (told_seen s y)
    → ToldWithin s x → ToldWithin s y → (a ≡ b) × (x ≡ y)
act-determined s x y (Act.Silent n) (Act.Silent m) h k e c d = (ap Act.Silent (silence-determined n m (silent-inj e)), h ∙ sym k)
act-determined s x y (Act.Silent n) (Act.WithCause m) h k e c d = (cc, cc)
act-determined s x y (Act.Silent n) (Act.WithReject j q) h k e c d = (cc, cc)
act-determined s x y (Act.Silent n) Act.OnReject h k e c d = (cc, cc)
act-determined s x y (Act.Silent n) (Act.Released o) h k e c d = (cc, cc)
act-determined s x y (Act.Silent n) (Act.Taken w) h k e c d = (cc, cc)
act-determined s x y (Act.WithCause n) (Act.Silent m) h k e c d = (cc, cc)
act-determined s x y (Act.WithCause n) (Act.WithCause m) h k e c d = (ap Act.WithCause (cause-determined n m (cause-inj e)), h.0 ∙ sym k.0)
act-determined s x y (Act.WithCause n) (Act.WithReject j q) h k e c d = (cc, cc)
act-determined s x y (Act.WithCause n) Act.OnReject h k e c d = (cc, cc)
act-determined s x y (Act.WithCause n) (Act.Released o) h k e c d = (cc, cc)
act-determined s x y (Act.WithCause n) (Act.Taken w) h k e c d = (cc, cc)
act-determined s x y (Act.WithReject i p) (Act.Silent m) h k e c d = (cc, cc)
act-determined s x y (Act.WithReject i p) (Act.WithCause m) h k e c d = (cc, cc)
act-determined s x y (Act.WithReject i p) (Act.WithReject j q) h k e c d =
    let f = reject-inj e in
    let g = id-determined i j f.0 in
    let r = problem-determined p q f.1 f.2 in
    ((λ l. Act.WithReject (g l) (r l)), h ∙ sym k)
act-determined s x y (Act.WithReject i p) Act.OnReject h k e c d = (cc, cc)
act-determined s x y (Act.WithReject i p) (Act.Released o) h k e c d = (cc, cc)
act-determined s x y (Act.WithReject i p) (Act.Taken w) h k e c d = (cc, cc)
act-determined s x y Act.OnReject (Act.Silent m) h k e c d = (cc, cc)
act-determined s x y Act.OnReject (Act.WithCause m) h k e c d = (cc, cc)
act-determined s x y Act.OnReject (Act.WithReject j q) h k e c d = (cc, cc)
act-determined s x y Act.OnReject Act.OnReject h k e c d = (refl, told-determined s x y c d (on-inj e))
act-determined s x y Act.OnReject (Act.Released o) h k e c d = (cc, cc)
act-determined s x y Act.OnReject (Act.Taken w) h k e c d = (cc, cc)
act-determined s x y (Act.Released p) (Act.Silent m) h k e c d = (cc, cc)
act-determined s x y (Act.Released p) (Act.WithCause m) h k e c d = (cc, cc)
act-determined s x y (Act.Released p) (Act.WithReject j q) h k e c d = (cc, cc)
act-determined s x y (Act.Released p) Act.OnReject h k e c d = (cc, cc)
act-determined s x y (Act.Released p) (Act.Released o) h k e c d =
    let f = released-inj e in
    (ap Act.Released (found-determined s p o h k f.1), told-determined s x y c d f.0)
act-determined s x y (Act.Released p) (Act.Taken w) h k e c d = (cc, cc)
act-determined s x y (Act.Taken z) (Act.Silent m) h k e c d = (cc, cc)
act-determined s x y (Act.Taken z) (Act.WithCause m) h k e c d = (cc, cc)
act-determined s x y (Act.Taken z) (Act.WithReject j q) h k e c d = (cc, cc)
act-determined s x y (Act.Taken z) Act.OnReject h k e c d = (cc, cc)
act-determined s x y (Act.Taken z) (Act.Released o) h k e c d = (cc, cc)
act-determined s x y (Act.Taken z) (Act.Taken w) h k e c d =
    let f = taken-inj e in
    (ap Act.Taken (change-determined z w f.0), told-determined s x y c d f.1)

pub decision-determined : (s : List ℕ) (r q : Decision) → DecisionWithin s r → DecisionWithin s q → decision_seen s r ≡ decision_seen s q → r ≡ q
decision-determined s r q a b e =
    let f = act-determined s r.told q.told r.act q.act a.1 b.1 e a.0 b.0 in
    λ i. record { act = f.0 i; told = f.1 i }
