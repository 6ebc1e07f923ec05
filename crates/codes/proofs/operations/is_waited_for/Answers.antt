use mathlib.Core.Path.{refl}
use mathlib.Core.Bool.{true, false}
use mathlib.Core.List.{List, [], ◌∷◌}
use Prim.Native.Nat.{ℕ}
use native.Mathlib.Omega.{arith}
use Rattle.codes.specs.Operations.{waits}
use Rattle.codes.proofs.Runs.{at_key, on}
use Rattle.codes.proofs.operations.is_waited_for.Goals as goal

abbrev keys : List ℕ
keys = 18 ∷ []

pub returns-in_default : goal.returns-in_default
returns-in_default c = on (λ k. false) waits keys 0 60 refl c.args.operation (omega arith) (omega arith) c.in_default.in_default-own.rest.1

pub returns-in_default-2 : goal.returns-in_default-2
returns-in_default-2 c = on (λ k. false) waits keys 62 194 refl c.args.operation (omega arith) (omega arith) c.in_default.in_default-own.rest.1

pub returns-in-18 : goal.returns-in-18
returns-in-18 c = at_key (λ k. true) waits keys refl c.args.operation c.in-18.in-18-own.keys1

pub returns-in-18-2 : goal.returns-in-18-2
returns-in-18-2 c = on (λ k. true) waits keys 60 2 refl c.args.operation (omega arith) (omega arith) c.in-18.in_default-own.rest.1
