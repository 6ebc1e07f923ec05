-- The request's story: "The bench sent ussd-Busy as the error to our eraseSS". What `ErrorLists` asks for can be met.
use Rattle.std.specs.Prelude.{ℕ, ◌≡◌, List, [], ◌∷◌, pos}
use Rattle.std.proofs.Math.Option.{none}
use Rattle.table.specs.Change.{ours, clears}
use Rattle.components.specs.Component.{error}
use Rattle.components.specs.Shows.{Shows}
use Rattle.deciding.specs.Steps.{shown}
use Rattle.telephone.specs.Receive.{receive}
use Rattle.promises.specs.Reaches.{taken_with, released_with}
use Rattle.promises.specs.Worked.{own_waits, buffer, Answers}
use Rattle.promises.specs.Editions.{own59}

-- our value 0 waits for the answer to eraseSS
abbrev pub own11 : List ℕ
own11 = own_waits 11

-- an error with this code, in FACILITY and in RELEASE COMPLETE
abbrev pub error_with : ℕ → List ℕ
error_with code = 0x8B ∷ 0x3A ∷ 0x08 ∷ 0xA3 ∷ 0x06 ∷ 0x02 ∷ 0x01 ∷ 0x01 ∷ 0x02 ∷ 0x01 ∷ code ∷ []

abbrev pub end_with : ℕ → List ℕ
end_with code = 0x8B ∷ 0x2A ∷ 0x1C ∷ 0x08 ∷ 0xA3 ∷ 0x06 ∷ 0x02 ∷ 0x01 ∷ 0x01 ∷ 0x02 ∷ 0x01 ∷ code ∷ []

-- unknownAlphabet, as it is shown
abbrev pub alphabet_shown : Shows
alphabet_shown = shown (error (pos 1) 71 []) []

-- ussd-Busy to eraseSS is refused; unknownAlphabet to 59 is shown, and nothing waits any more
abbrev pub ErrorCases : Type 0
ErrorCases =
    Answers 3 (0x0B ∷ 0x2A ∷ 0x1C ∷ 0x08 ∷ 0xA4 ∷ 0x06 ∷ 0x02 ∷ 0x01 ∷ 0x01 ∷ 0x83 ∷ 0x01 ∷ 0x03 ∷ []) (receive own11 (error_with 72) buffer)
    × ((receive own11 (end_with 72) buffer ≡ released_with own11 (end_with 72) buffer none)
    × ((receive own59 (error_with 71) buffer ≡ taken_with own59 (error_with 71) buffer (clears ours (pos 1)) alphabet_shown)
    × (receive own59 (end_with 71) buffer ≡ released_with own59 (end_with 71) buffer alphabet_shown)))
