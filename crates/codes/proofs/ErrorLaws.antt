-- The errors of each operation: each is one of 01's table, and lists that look alike differ.
use Prim.Native.Nat.{ℕ, ◌≤◌, ◌<◌}
use native.Mathlib.Omega.{arith}
use mathlib.Core.Path.{◌≡◌, refl, ap, ◌∙◌}
use mathlib.Core.Bool.{Bool, true, false, cond, ◌||◌, ◌&&◌, false≢true, and-eq-true_iff}
use mathlib.Core.List.{List, [], ◌∷◌}
use lib.Dec.{eqb}
use borrow.Author.Tests.{eqb-true}
use Rattle.codes.specs.Errors.{listed, register_ss_errors, erase_ss_errors, activate_ss_errors, deactivate_ss_errors, interrogate_ss_errors, register_password-errors, process_unstructured_ss_request_errors, errors_of, is_in, may_return, of_service}
use Rattle.codes.proofs.Runs.{agree, on}

abbrev AllListed : List ℕ → Type 0
AllListed cs = (code : ℕ) → is_in code cs ≡ true → listed code ≡ true

either_listed : (b : Bool) (cs ds : List ℕ) → AllListed cs → AllListed ds → AllListed (cond b cs ds)
either_listed true cs ds x y = x
either_listed false cs ds x y = y

-- a list whose codes are all listed, one after the other
abbrev each : List ℕ → Bool
each [] = true
each (c ∷ cs) = listed c && each cs

all_of : (cs : List ℕ) → each cs ≡ true → AllListed cs
all_of [] h code i = absurd (false≢true i)
all_of (c ∷ cs) h code i = let w = (and-eq-true_iff (listed c) (each cs)).0 h in go (eqb code c) refl w.0 (all_of cs w.1 code) i
  where
    go : (b : Bool) → eqb code c ≡ b → listed c ≡ true → (is_in code cs ≡ true → listed code ≡ true) → b || is_in code cs ≡ true → listed code ≡ true
    go true e l rest k = ap listed (eqb-true code c e) ∙ l
    go false e l rest k = rest k

-- "Each code of a list is in 01's table": what is refused with problem 3 was not refused with 2
pub listed-too : (operation code : ℕ) → may_return operation code ≡ true → listed code ≡ true
unfolding listed may_return errors_of
listed-too operation code h =
    either_listed (eqb operation 10) register_ss_errors _ (all_of register_ss_errors refl)
    (either_listed (eqb operation 11) erase_ss_errors _ (all_of erase_ss_errors refl)
    (either_listed (eqb operation 12) activate_ss_errors _ (all_of activate_ss_errors refl)
    (either_listed (eqb operation 13) deactivate_ss_errors _ (all_of deactivate_ss_errors refl)
    (either_listed (eqb operation 14) interrogate_ss_errors _ (all_of interrogate_ss_errors refl)
    (either_listed (eqb operation 17) register_password-errors _ (all_of register_password-errors refl)
    (either_listed (eqb operation 59) process_unstructured_ss_request_errors _ (all_of process_unstructured_ss_request_errors refl) (all_of [] refl)))))))
    code h

-- the lists of 10 to 14, code by code
abbrev all_codes : ℕ → Bool
all_codes operation = agree (of_service operation) (may_return operation) [] 0 256

pub service-lists : (operation code : ℕ) → 10 ≤ operation → operation ≤ 14 → code < 256 → of_service operation code ≡ may_return operation code
unfolding may_return errors_of
service-lists operation code low high octet =
    on (of_service operation) (may_return operation) [] 0 256 (on all_codes (λ o. true) [] 10 5 refl operation low (omega arith) (λ e. e)) code (omega arith) octet (λ e. e)

-- whether an error stands in the lists of 10, 11, 12, 13, 14, 17 and 59, in this order
abbrev in_lists : ℕ → List Bool
in_lists code = may_return 10 code ∷ may_return 11 code ∷ may_return 12 code ∷ may_return 13 code ∷ may_return 14 code ∷ may_return 17 code ∷ may_return 59 code ∷ []

abbrev nowhere : List Bool
nowhere = false ∷ false ∷ false ∷ false ∷ false ∷ false ∷ false ∷ []

pub errors-worked :
    -- in no list: unknownSubscriber, illegalSubscriber, illegalEquipment, facilityNotSupported, absentSubscriber, ussd-Busy
    (in_lists 1 ≡ nowhere) × (in_lists 9 ≡ nowhere) × (in_lists 12 ≡ nowhere) × (in_lists 21 ≡ nowhere) × (in_lists 27 ≡ nowhere) × (in_lists 72 ≡ nowhere)
    -- "17 is in 10 to 13 and not in 14; 18 in 14 alone; 20 in 10 and 12, not in 11 and 13; 19 in 12, 13 and 17, not in 10"
    × (in_lists 17 ≡ true ∷ true ∷ true ∷ true ∷ false ∷ false ∷ false ∷ [])
    × (in_lists 18 ≡ false ∷ false ∷ false ∷ false ∷ true ∷ false ∷ false ∷ [])
    × (in_lists 20 ≡ true ∷ false ∷ true ∷ false ∷ false ∷ false ∷ false ∷ [])
    × (in_lists 19 ≡ false ∷ false ∷ true ∷ true ∷ false ∷ true ∷ false ∷ [])
    × (in_lists 71 ≡ false ∷ false ∷ false ∷ false ∷ false ∷ false ∷ true ∷ [])
unfolding may_return errors_of
errors-worked = (refl, refl, refl, refl, refl, refl, refl, refl, refl, refl, refl)
