-- "Error codes: 1, 9 to 13, 16 to 21, 27, 34 to 38, 43, 71, 72."
use Rattle.std.specs.Prelude.{ℕ, Bool, false, cond, not, ◌||◌, ◌&&◌, List, [], ◌∷◌, leb, eqb, take}

abbrev pub within : ℕ → ℕ → ℕ → Bool
within low high n = leb low n && leb n high

unfoldable pub listed : ℕ → Bool
listed code =
    eqb code 1 || within 9 13 code || within 16 21 code || eqb code 27 || within 34 38 code || eqb code 43 || eqb code 71 || eqb code 72

-- "Each operation's errors are listed in 001 clause 4.2, or in TS 29.002 where it imports from MAP." The names are those of 001,
-- 4.3.1, the numbers MAP's.
abbrev pub bearer_service_not_provisioned : ℕ
bearer_service_not_provisioned = 10

abbrev pub teleservice_not_provisioned : ℕ
teleservice_not_provisioned = 11

abbrev pub call_barred : ℕ
call_barred = 13

abbrev pub illegal_ss_operation : ℕ
illegal_ss_operation = 16

abbrev pub ss_error_status : ℕ
ss_error_status = 17

abbrev pub ss_not_available : ℕ
ss_not_available = 18

abbrev pub ss_subscription_violation : ℕ
ss_subscription_violation = 19

abbrev pub ss-Incompatibility : ℕ
ss-Incompatibility = 20

abbrev pub system_failure : ℕ
system_failure = 34

abbrev pub data_missing : ℕ
data_missing = 35

abbrev pub unexpected_data_value : ℕ
unexpected_data_value = 36

abbrev pub pw_registration_failure : ℕ
pw_registration_failure = 37

abbrev pub negative_pw_check : ℕ
negative_pw_check = 38

abbrev pub number_of_pw_attempts_violation : ℕ
number_of_pw_attempts_violation = 43

abbrev pub unknown_alphabet : ℕ
unknown_alphabet = 71

-- The lists, each in the order of its operation's definition.
abbrev pub register_ss_errors : List ℕ
register_ss_errors =
    system_failure ∷ data_missing ∷ unexpected_data_value ∷ bearer_service_not_provisioned ∷ teleservice_not_provisioned ∷ call_barred ∷ illegal_ss_operation
    ∷ ss_error_status ∷ ss-Incompatibility ∷ []

abbrev pub erase_ss_errors : List ℕ
erase_ss_errors =
    system_failure ∷ data_missing ∷ unexpected_data_value ∷ bearer_service_not_provisioned ∷ teleservice_not_provisioned ∷ call_barred ∷ illegal_ss_operation
    ∷ ss_error_status ∷ []

abbrev pub activate_ss_errors : List ℕ
activate_ss_errors =
    system_failure ∷ data_missing ∷ unexpected_data_value ∷ bearer_service_not_provisioned ∷ teleservice_not_provisioned ∷ call_barred ∷ illegal_ss_operation
    ∷ ss_error_status ∷ ss_subscription_violation ∷ ss-Incompatibility ∷ negative_pw_check ∷ number_of_pw_attempts_violation ∷ []

abbrev pub deactivate_ss_errors : List ℕ
deactivate_ss_errors =
    system_failure ∷ data_missing ∷ unexpected_data_value ∷ bearer_service_not_provisioned ∷ teleservice_not_provisioned ∷ call_barred ∷ illegal_ss_operation
    ∷ ss_error_status ∷ ss_subscription_violation ∷ negative_pw_check ∷ number_of_pw_attempts_violation ∷ []

abbrev pub interrogate_ss_errors : List ℕ
interrogate_ss_errors =
    system_failure ∷ data_missing ∷ unexpected_data_value ∷ bearer_service_not_provisioned ∷ teleservice_not_provisioned ∷ call_barred ∷ illegal_ss_operation
    ∷ ss_not_available ∷ []

abbrev pub register_password-errors : List ℕ
register_password-errors =
    system_failure ∷ data_missing ∷ unexpected_data_value ∷ call_barred ∷ ss_subscription_violation ∷ pw_registration_failure ∷ negative_pw_check
    ∷ number_of_pw_attempts_violation ∷ []

abbrev pub process_unstructured_ss_request_errors : List ℕ
process_unstructured_ss_request_errors = system_failure ∷ data_missing ∷ unexpected_data_value ∷ unknown_alphabet ∷ call_barred ∷ []

-- the list of each operation that we begin; no other has one
unfoldable pub errors_of : ℕ → List ℕ
errors_of operation =
    cond (eqb operation 10) register_ss_errors
    (cond (eqb operation 11) erase_ss_errors
    (cond (eqb operation 12) activate_ss_errors
    (cond (eqb operation 13) deactivate_ss_errors
    (cond (eqb operation 14) interrogate_ss_errors
    (cond (eqb operation 17) register_password-errors
    (cond (eqb operation 59) process_unstructured_ss_request_errors
    []))))))

abbrev pub is_in : ℕ → List ℕ → Bool
is_in code [] = false
is_in code (c ∷ cs) = eqb code c || is_in code cs

-- "in the list of the outstanding operation"
unfoldable pub may_return : ℕ → ℕ → Bool
may_return operation code = is_in code (errors_of operation)

-- The same of 10 to 14 code by code (`service-lists` proves it). The first seven of each list are the same; "17 is in 10 to 13
-- and not in 14; 18 in 14 alone; 20 in 10 and 12, not in 11 and 13; 19 in 12, 13", and so are 38 and 43.
abbrev pub of_service : ℕ → ℕ → Bool
of_service operation code =
    is_in code (take 7 register_ss_errors)
    || (eqb code 17 && not (eqb operation 14))
    || (eqb code 18 && eqb operation 14)
    || ((eqb code 19 || eqb code 38 || eqb code 43) && (eqb operation 12 || eqb operation 13))
    || (eqb code 20 && (eqb operation 10 || eqb operation 12))
