-- The components that carry a USSD text, and the text.
use Rattle.std.specs.Prelude.{Bool, false, cond, ◌||◌, eqb}
use Rattle.std.proofs.Math.Option.{Option, none, some}
use Rattle.octets.specs.Reader.{Answer, fault, sound, Taken}
use Rattle.parameters.specs.Parameter.{Text, ussd}
use Rattle.components.specs.Component.{Component, invoke, result, error, reject, parameter_of}

-- "The three extensible places of the mission are the invokes 60 and 61 and the result of 59."
abbrev pub extensible : Component → Bool
extensible (invoke id linked operation p) = eqb operation 60 || eqb operation 61
extensible (result id none p) = false
extensible (result id (some operation) p) = eqb operation 59
extensible (error id code p) = false
extensible (reject id tag problem) = false

abbrev pub readable : Answer (Taken Text) → Option (Taken Text)
readable (fault n) = none
readable (sound g) = some g

-- coding scheme and string, and the tail that is left
unfoldable pub text_of : Component → Option (Taken Text)
text_of c = cond (extensible c) (readable (ussd (parameter_of c))) none
