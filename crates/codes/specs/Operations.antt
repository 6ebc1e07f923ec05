-- 01, "Operations we begin", "Operations we serve".
use Rattle.std.specs.Prelude.{ℕ, Bool, ◌||◌, ◌&&◌, leb, eqb}

-- "10 registerSS, 11 eraseSS, 12 activateSS, 13 deactivateSS, 14 interrogateSS, 17 registerPassword,
-- 59 processUnstructuredSS-Request"
abbrev pub begins : ℕ → Bool
begins operation = (leb 10 operation && leb operation 14) || eqb operation 17 || eqb operation 59

-- of the operations we serve, those that wait for our answer: "18 getPassword, 60 unstructuredSS-Request and
-- 61 unstructuredSS-Notify"
abbrev pub waits : ℕ → Bool
waits operation = eqb operation 18 || eqb operation 60 || eqb operation 61

-- and "38 forwardCheckSS-Indication (no parameter, no answer, never outstanding)"
abbrev pub serves : ℕ → Bool
serves operation = waits operation || eqb operation 38
