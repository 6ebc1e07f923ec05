use mathlib.Core.Path.{◌≡◌, refl, sym, ap, ◌∙◌}
use mathlib.Core.Bool.{Bool, true, false, false≢true}
use mathlib.Core.List.{List, [], ◌∷◌}
use mathlib.Core.Logic.{⊎_elim}
use Prim.Native.Nat.{ℕ}
use native.Mathlib.Omega.{arith}
use Rattle.codes.specs.Errors.{is_in, errors_of, may_return}
use Rattle.codes.proofs.ErrorLaws.{service-lists}
use Rattle.codes.proofs.Runs.{on}
use Rattle.codes.proofs.errors.may_return.Goals as goal

-- an operation that has no list
abbrev is_none : List ℕ → Bool
is_none [] = true
is_none (c ∷ cs) = false

abbrev has_none : ℕ → Bool
has_none operation = is_none (errors_of operation)

in-none : (code : ℕ) (cs : List ℕ) → is_none cs ≡ true → false ≡ is_in code cs
in-none code [] e = refl
in-none code (c ∷ cs) e = absurd (false≢true e)

pub returns-in-17 : goal.returns-in-17
unfolding may_return errors_of
returns-in-17 c = c.is_of_password.ensures ∙ sym (ap (λ (o : ℕ). may_return o c.args.code) c.in-17.is)

pub returns-in-59 : goal.returns-in-59
unfolding may_return errors_of
returns-in-59 c = c.is_of_ussd.ensures ∙ sym (ap (λ (o : ℕ). may_return o c.args.code) c.in-59.is)

pub returns-in-10-to-14 : goal.returns-in-10-to-14
returns-in-10-to-14 c =
    c.is_of_service.ensures ∙ service-lists c.args.operation c.args.code (omega arith) (omega arith) c.ranges.code.fits

pub returns-in_default : goal.returns-in_default
unfolding may_return errors_of
returns-in_default c =
    let a = c.args in in-none a.code (errors_of a.operation) (on has_none (λ o. true) [] 0 10 refl a.operation (omega arith) (omega arith) (λ e. e))

pub returns-in_default-2 : goal.returns-in_default-2
unfolding may_return errors_of
returns-in_default-2 c =
    let a = c.args in in-none a.code (errors_of a.operation) (on has_none (λ o. true) (17 ∷ 59 ∷ []) 15 241 refl a.operation (omega arith) (omega arith) (⊎_elim c.in_default.in_default-own.rest.0.1 c.in_default.in_default-own.rest.1))
