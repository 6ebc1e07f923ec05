use mathlib.Core.Path.{refl}
use mathlib.Core.Bool.{true, false}
use mathlib.Core.List.{List, [], ◌∷◌}
use Prim.Native.Nat.{ℕ}
use native.Mathlib.Omega.{arith}
use Rattle.codes.specs.Operations.{begins}
use Rattle.codes.proofs.Runs.{at_key, on}
use Rattle.codes.proofs.operations.is_begun.Goals as goal

abbrev keys : List ℕ
keys = 17 ∷ 59 ∷ []

pub returns-in_default : goal.returns-in_default
returns-in_default c = on (λ k. false) begins keys 0 10 refl c.args.operation (omega arith) (omega arith) c.in_default.in_default-own.rest.1

pub returns-in_default-2 : goal.returns-in_default-2
returns-in_default-2 c = on (λ k. false) begins keys 15 241 refl c.args.operation (omega arith) (omega arith) c.in_default.in_default-own.rest.1

pub returns-in-10-to-14 : goal.returns-in-10-to-14
returns-in-10-to-14 c = at_key (λ k. true) begins keys refl c.args.operation c.in-10-to-14.in-10-to-14-own.keys1

pub returns-in-10-to-14-2 : goal.returns-in-10-to-14-2
returns-in-10-to-14-2 c = on (λ k. true) begins keys 10 5 refl c.args.operation (omega arith) (omega arith) c.in-10-to-14.in_default-own.rest.1
