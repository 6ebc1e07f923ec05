use mathlib.Core.Path.{refl}
use mathlib.Core.Bool.{Bool, true, false}
use mathlib.Core.List.{List, [], ◌∷◌}
use Prim.Native.Nat.{ℕ}
use native.Mathlib.Omega.{arith}
use Rattle.codes.specs.Errors.{is_in, register_password-errors}
use Rattle.codes.proofs.Runs.{at_key, on}
use Rattle.codes.proofs.errors.is_of_password.Goals as goal

abbrev is_one : ℕ → Bool
is_one code = is_in code register_password-errors

abbrev keys : List ℕ
keys = 13 ∷ 19 ∷ 43 ∷ []

pub returns-in_default : goal.returns-in_default
returns-in_default c = on (λ k. false) is_one keys 0 34 refl c.args.code (omega arith) (omega arith) c.in_default.in_default-own.rest.1

pub returns-in_default-2 : goal.returns-in_default-2
returns-in_default-2 c = on (λ k. false) is_one keys 39 217 refl c.args.code (omega arith) (omega arith) c.in_default.in_default-own.rest.1

pub returns-in-13 : goal.returns-in-13
returns-in-13 c = at_key (λ k. true) is_one keys refl c.args.code c.in-13.in-13-own.keys1

pub returns-in-13-2 : goal.returns-in-13-2
returns-in-13-2 c = on (λ k. true) is_one [] 34 5 refl c.args.code (omega arith) (omega arith) (λ e. e)
