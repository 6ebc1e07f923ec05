use mathlib.Core.Path.{◌≡◌, refl, sym, ap, ◌∙◌}
use mathlib.Core.Bool.{Bool, true, false, not}
use mathlib.Core.List.{List, [], ◌∷◌, ◌++◌}
use mathlib.Core.Logic.{⊎_elim}
use Prim.Native.Nat.{ℕ, ◌+◌, ◌≤◌, ◌<◌}
use native.Mathlib.Omega.{arith}
use lib.Dec.{eqb}
use types.Run.{OneOf}
use Rattle.codes.specs.Errors.{of_service}
use Rattle.codes.proofs.Runs.{agree, agree_at, at_key, neither, on}
use Rattle.codes.proofs.errors.is_of_service.Goals as goal

-- the keys of the arms: two that all five share, three that 12 and 13 have, and the other three
abbrev shared : List ℕ
shared = 13 ∷ 16 ∷ []

abbrev of_two : List ℕ
of_two = 19 ∷ 38 ∷ 43 ∷ []

abbrev others : List ℕ
others = 17 ∷ 18 ∷ 20 ∷ of_two

-- the three for a run of operations
of_two_lem : (b : Bool) (low n : ℕ) → agree (λ o. true) (λ o. agree_at (λ k. b) (of_service o) of_two) [] low n ≡ true → (operation : ℕ) → low ≤ operation → operation < low + n → {code : ℕ} → OneOf of_two code → b ≡ of_service operation code
of_two_lem b low n t operation p q {code} h =
    at_key (λ k. b) (of_service operation) of_two (sym (on (λ o. true) (λ o. agree_at (λ k. b) (of_service o) of_two) [] low n t operation p q (λ e. e))) code h

pub returns-in-17 : goal.returns-in-17
returns-in-17 c =
    on (λ o. not (eqb o 14)) (λ o. of_service o 17) [] 0 256 refl c.args.operation (omega arith) c.ranges.operation.fits (λ e. e) ∙ sym (ap (of_service c.args.operation) c.in-17.is)

pub returns-in-18 : goal.returns-in-18
returns-in-18 c =
    on (λ o. eqb o 14) (λ o. of_service o 18) [] 0 256 refl c.args.operation (omega arith) c.ranges.operation.fits (λ e. e) ∙ sym (ap (of_service c.args.operation) c.in-18.is)

pub returns-in-12-to-13 : goal.returns-in-12-to-13
returns-in-12-to-13 c = of_two_lem true 12 2 refl c.args.operation (omega arith) (omega arith) c.in-19.is

pub returns-in_default-matches : goal.returns-in_default-matches
returns-in_default-matches c = of_two_lem false 0 12 refl c.args.operation (omega arith) (omega arith) c.in-19.is

pub returns-in_default-matches-3 : goal.returns-in_default-matches-3
returns-in_default-matches-3 c = of_two_lem false 14 242 refl c.args.operation (omega arith) (omega arith) c.in-19.is

pub returns-in-10 : goal.returns-in-10
returns-in-10 c =
    at_key (λ o. true) (λ o. of_service o 20) (10 ∷ 12 ∷ []) refl c.args.operation c.in-10.is ∙ sym (ap (of_service c.args.operation) c.in-20.is)

pub returns-in_default-matches-2 : goal.returns-in_default-matches-2
returns-in_default-matches-2 c =
    on (λ o. false) (λ o. of_service o 20) (10 ∷ 12 ∷ []) 0 256 refl c.args.operation (omega arith) (omega arith) c.in_default-matches-2.in_default-matches-2-own.rest.1 ∙ sym (ap (of_service c.args.operation) c.in-20.is)

pub returns-in_default : goal.returns-in_default
returns-in_default c = on (λ k. false) (of_service c.args.operation) [] 0 10 refl c.args.code (omega arith) (omega arith) (λ e. e)

-- between the ranges stand keys of each arm
pub returns-in_default-2 : goal.returns-in_default-2
returns-in_default-2 c =
    let a = c.args in
    on (λ k. false) (of_service a.operation) (shared ++ others) 12 22 refl a.code (omega arith) (omega arith)
    (neither shared others a.code c.in_default.in_default-own.rest.0.0.0.0.1 (⊎_elim c.in_default.in_default-own.rest.0.0.0.1 (⊎_elim c.in_default.in_default-own.rest.0.0.1 (⊎_elim c.in_default.in_default-own.rest.1 c.in_default.in_default-own.rest.0.1))))

pub returns-in_default-3 : goal.returns-in_default-3
returns-in_default-3 c =
    on (λ k. false) (of_service c.args.operation) of_two 37 219 refl c.args.code (omega arith) (omega arith) c.in_default.in_default-own.rest.0.1

pub returns-in-10-to-11 : goal.returns-in-10-to-11
returns-in-10-to-11 c = at_key (λ k. true) (of_service c.args.operation) shared refl c.args.code c.in-10-to-11.in-10-to-11-own.keys1

pub returns-in-10-to-11-2 : goal.returns-in-10-to-11-2
returns-in-10-to-11-2 c = on (λ k. true) (of_service c.args.operation) [] 10 2 refl c.args.code (omega arith) (omega arith) (λ e. e)

pub returns-in-10-to-11-3 : goal.returns-in-10-to-11-3
returns-in-10-to-11-3 c = on (λ k. true) (of_service c.args.operation) [] 34 3 refl c.args.code (omega arith) (omega arith) (λ e. e)
