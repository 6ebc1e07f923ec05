-- Which parameter each operation takes, in each of the four places where a parameter stands.
use Rattle.std.specs.Prelude.{ℕ, List, Bool, cond, ◌&&◌, ◌||◌, leb, eqb}
use Rattle.octets.specs.Reader.{is_empty}
use Rattle.parameters.specs.Parameter.{is_sound, one, ussd, guidance, password, service_code, ss_for_bs}

abbrev pub any_one : List ℕ → Bool
any_one p = is_sound (one p)

abbrev pub is_ussd : List ℕ → Bool
is_ussd p = is_sound (ussd p)

-- "none or one element": the parameter of an error too
abbrev pub none_or_one : List ℕ → Bool
none_or_one p = is_empty p || any_one p

-- "USSD-Res or none"
abbrev pub none_or_ussd : List ℕ → Bool
none_or_ussd p = is_empty p || is_ussd p

-- "Operations we serve: 18 getPassword (Guidance), 60 unstructuredSS-Request and 61 unstructuredSS-Notify (USSD-Arg),
-- 38 forwardCheckSS-Indication (no parameter, ..)."
unfoldable pub suits_invoke_received : ℕ → List ℕ → Bool
suits_invoke_received operation p =
    cond (eqb operation 18) (guidance p)
    (cond (eqb operation 60 || eqb operation 61) (is_ussd p)
    (eqb operation 38 && is_empty p))

-- "Results read: 17 requires a Password; 59 takes USSD-Res or none; 10 to 14 take any one element or none."
unfoldable pub suits_result_received : ℕ → List ℕ → Bool
suits_result_received operation p =
    cond (eqb operation 17) (password p)
    (cond (eqb operation 59) (none_or_ussd p)
    (leb 10 operation && leb operation 14 && none_or_one p))

-- "Operations we begin: 10 registerSS (any one element), 11 eraseSS, 12 activateSS, 13 deactivateSS, 14 interrogateSS
-- (SS-ForBS), 17 registerPassword (service code), 59 processUnstructuredSS-Request (USSD-Arg). A parameter is required in each."
unfoldable pub suits_invoke_written : ℕ → List ℕ → Bool
suits_invoke_written operation p =
    cond (eqb operation 10) (any_one p)
    (cond (leb 11 operation && leb operation 14) (ss_for_bs p)
    (cond (eqb operation 17) (service_code p)
    (eqb operation 59 && is_ussd p)))

-- "Results we write: 18 a Password; 60 USSD-Res or none; 61 none."
unfoldable pub suits_result_written : ℕ → List ℕ → Bool
suits_result_written operation p =
    cond (eqb operation 18) (password p)
    (cond (eqb operation 60) (none_or_ussd p)
    (eqb operation 61 && is_empty p))

-- the four places
pub data Place : Type 0 where
  InvokeReceived ResultReceived InvokeWritten ResultWritten : Place

unfoldable pub suits : Place → ℕ → List ℕ → Bool
suits InvokeReceived operation p = suits_invoke_received operation p
suits ResultReceived operation p = suits_result_received operation p
suits InvokeWritten operation p = suits_invoke_written operation p
suits ResultWritten operation p = suits_result_written operation p
