-- The contracts leave one answer: two that say the same, and tell the same operation, are equal.
use Prim.Native.Nat.{ℕ}
use mathlib.Core.Path.{◌≡◌, refl, sym, ap, ◌∙◌}
use mathlib.Core.List.{List}
use mathlib.Core.Bool.{cond}
use lib.Dec.{eqb}
use Rattle.std.specs.Prelude.{Result, Ok, Err}
use Rattle.octets.specs.Reader.{Answer, fault, sound}
use Rattle.codes.specs.Refusals.{number_of}
use Rattle.codes.specs.declared.refusals.Refusal.{Refusal}
use Rattle.table.proofs.Determined.{change-determined}
use Rattle.calling.specs.Calls.{Sending}
use Rattle.calling.specs.Seen.{call_seen, CallNames}
use Rattle.calling.specs.declared.Going.{Going}

sound-inj : {a b : Sending} → sound a ≡ sound b → a ≡ b
sound-inj e = cc

fault-inj : {a b : ℕ} → ◌≡◌ {A = Answer Sending} (fault a) (fault b) → a ≡ b
fault-inj e = cc

-- no two refusals have one number
numbered : ℕ → Refusal
numbered n =
    cond (eqb n 20) Refusal.NotListed
    (cond (eqb n 21) Refusal.NoValueFree
    (cond (eqb n 22) Refusal.NotOpen
    (cond (eqb n 23) Refusal.StillWaiting
    (cond (eqb n 24) Refusal.NoSuchInvoke
    (cond (eqb n 25) Refusal.WrongParameter
    (cond (eqb n 26) Refusal.MessageTooLong
    (cond (eqb n 27) Refusal.BufferTooShort
    (cond (eqb n 28) Refusal.TableDamaged
    (cond (eqb n 30) Refusal.BadRecord Refusal.OutputTooShort)))))))))

number-back : (r : Refusal) → numbered (number_of r) ≡ r
unfolding numbered
number-back Refusal.NotListed = refl
number-back Refusal.NoValueFree = refl
number-back Refusal.NotOpen = refl
number-back Refusal.StillWaiting = refl
number-back Refusal.NoSuchInvoke = refl
number-back Refusal.WrongParameter = refl
number-back Refusal.MessageTooLong = refl
number-back Refusal.BufferTooShort = refl
number-back Refusal.TableDamaged = refl
number-back Refusal.BadRecord = refl
number-back Refusal.OutputTooShort = refl

pub call-determined : (message : ℕ → ℕ → List ℕ) (named : ℕ → ℕ) (r q : Result Going Refusal) → call_seen message r ≡ call_seen message q → CallNames named r → CallNames named q → r ≡ q
call-determined message named (Err n) (Err m) e a b = ap Err (sym (number-back n) ∙ ap numbered (fault-inj e) ∙ number-back m)
call-determined message named (Err n) (Ok g) e a b = cc
call-determined message named (Ok g) (Err m) e a b = cc
call-determined message named (Ok g) (Ok h) e a b =
    let s = sound-inj e in
    let x : g.entry ≡ h.entry = ap (λ (i : Sending). i.entry) s in
    let y = change-determined g.change h.change (ap (λ (i : Sending). i.change) s) in
    let z : g.operation ≡ h.operation = a ∙ ap named x ∙ sym b in
    λ n. Ok (record { entry = x n; change = y n; operation = z n })
