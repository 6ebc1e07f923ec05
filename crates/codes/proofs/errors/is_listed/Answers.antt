use mathlib.Core.Path.{refl}
use mathlib.Core.Bool.{true, false}
use mathlib.Core.List.{List, [], ◌∷◌}
use Prim.Native.Nat.{ℕ}
use native.Mathlib.Omega.{arith}
use Rattle.codes.specs.Errors.{listed}
use Rattle.codes.proofs.Runs.{at_key, on}
use Rattle.codes.proofs.errors.is_listed.Goals as goal

abbrev keys : List ℕ
keys = 1 ∷ 27 ∷ 43 ∷ []

pub returns-in_default : goal.returns-in_default
unfolding listed
returns-in_default c = on (λ k. false) listed keys 0 9 refl c.args.code (omega arith) (omega arith) c.in_default.in_default-own.rest.1

pub returns-in_default-2 : goal.returns-in_default-2
unfolding listed
returns-in_default-2 c = on (λ k. false) listed keys 14 2 refl c.args.code (omega arith) (omega arith) c.in_default.in_default-own.rest.1

pub returns-in_default-3 : goal.returns-in_default-3
unfolding listed
returns-in_default-3 c = on (λ k. false) listed keys 22 12 refl c.args.code (omega arith) (omega arith) c.in_default.in_default-own.rest.1

pub returns-in_default-4 : goal.returns-in_default-4
unfolding listed
returns-in_default-4 c = on (λ k. false) listed keys 39 32 refl c.args.code (omega arith) (omega arith) c.in_default.in_default-own.rest.1

pub returns-in_default-5 : goal.returns-in_default-5
unfolding listed
returns-in_default-5 c = on (λ k. false) listed keys 73 183 refl c.args.code (omega arith) (omega arith) c.in_default.in_default-own.rest.1

pub returns-in-1 : goal.returns-in-1
unfolding listed
returns-in-1 c = at_key (λ k. true) listed keys refl c.args.code c.in-1.in-1-own.keys1

pub returns-in-1-2 : goal.returns-in-1-2
unfolding listed
returns-in-1-2 c = on (λ k. true) listed keys 9 5 refl c.args.code (omega arith) (omega arith) c.in-1.in_default-own.rest.1

pub returns-in-1-3 : goal.returns-in-1-3
unfolding listed
returns-in-1-3 c = on (λ k. true) listed keys 16 6 refl c.args.code (omega arith) (omega arith) c.in-1.in_default-own.rest.1

pub returns-in-1-4 : goal.returns-in-1-4
unfolding listed
returns-in-1-4 c = on (λ k. true) listed keys 34 5 refl c.args.code (omega arith) (omega arith) c.in-1.in_default-own.rest.1

pub returns-in-1-5 : goal.returns-in-1-5
unfolding listed
returns-in-1-5 c = on (λ k. true) listed keys 71 2 refl c.args.code (omega arith) (omega arith) c.in-1.in_default-own.rest.1
