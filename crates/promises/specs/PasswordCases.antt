-- The request's story: "one user's handset sent four spaces from a stuck key". What `Passwords` asks for can be met.
use Rattle.std.specs.Prelude.{ℕ, ◌≡◌, List, [], ◌∷◌, ◌++◌, pos}
use Rattle.std.proofs.Math.Option.{none, some}
use Rattle.table.specs.Change.{ours, clears}
use Rattle.components.specs.Component.{result}
use Rattle.components.specs.Shows.{Shows}
use Rattle.deciding.specs.Steps.{shown}
use Rattle.telephone.specs.Outcome.{untouched}
use Rattle.telephone.specs.Receive.{receive}
use Rattle.telephone.specs.Calls as calls
use Rattle.promises.specs.Reaches.{taken_with, released_with}
use Rattle.promises.specs.Worked.{peer_waits, own_waits, fresh, buffer, Answers}

-- a getPassword waits for our answer, and our registerPassword for its
abbrev pub peer18 : List ℕ
peer18 = peer_waits 18

abbrev pub own17 : List ℕ
own17 = own_waits 17

abbrev pub spaces : List ℕ
spaces = 0x12 ∷ 0x04 ∷ 0x20 ∷ 0x20 ∷ 0x20 ∷ 0x20 ∷ []

-- three digits and this octet, and a result of 17 with them, in FACILITY and in RELEASE COMPLETE
abbrev pub password : ℕ → List ℕ
password octet = 0x12 ∷ 0x04 ∷ 0x30 ∷ 0x39 ∷ 0x31 ∷ octet ∷ []

abbrev pub result_value : ℕ → List ℕ
result_value octet = 0xA2 ∷ 0x0E ∷ 0x02 ∷ 0x01 ∷ 0x01 ∷ 0x30 ∷ 0x09 ∷ 0x02 ∷ 0x01 ∷ 0x11 ∷ password octet

abbrev pub result_with : ℕ → List ℕ
result_with octet = 0x8B ∷ 0x3A ∷ 0x10 ∷ result_value octet

abbrev pub end_with : ℕ → List ℕ
end_with octet = 0x8B ∷ 0x2A ∷ 0x1C ∷ 0x10 ∷ result_value octet

abbrev pub password_shown : Shows
password_shown = shown (result (pos 1) (some 17) (password 0x34)) []

-- a space is refused wherever a Password is written or read, and so is one among digits; digits are written and shown; where any
-- one element may stand, the spaces go
abbrev pub PasswordCases : Type 0
PasswordCases =
    (calls.result peer18 buffer 0 0 (pos 5) spaces ≡ untouched peer18 buffer 25)
    × ((calls.result peer18 [] 0 0 (pos 5) (password 0x20) ≡ untouched peer18 [] 25)
    × (Answers 0 (0x8B ∷ 0x3A ∷ 0x10 ∷ 0xA2 ∷ 0x0E ∷ 0x02 ∷ 0x01 ∷ 0x05 ∷ 0x30 ∷ 0x09 ∷ 0x02 ∷ 0x01 ∷ 0x12 ∷ password 0x34) (calls.result peer18 buffer 0 0 (pos 5) (password 0x34))
    × (Answers 3 (0x0B ∷ 0x2A ∷ 0x1C ∷ 0x08 ∷ 0xA4 ∷ 0x06 ∷ 0x02 ∷ 0x01 ∷ 0x01 ∷ 0x82 ∷ 0x01 ∷ 0x02 ∷ []) (receive own17 (result_with 0x20) buffer)
    × ((receive own17 (end_with 0x20) buffer ≡ released_with own17 (end_with 0x20) buffer none)
    × ((receive own17 (result_with 0x34) buffer ≡ taken_with own17 (result_with 0x34) buffer (clears ours (pos 1)) password_shown)
    × ((receive own17 (end_with 0x34) buffer ≡ released_with own17 (end_with 0x34) buffer password_shown)
    × Answers 0 (0x0B ∷ 0x3B ∷ 0x1C ∷ 0x0E ∷ 0xA1 ∷ 0x0C ∷ 0x02 ∷ 0x01 ∷ 0x01 ∷ 0x02 ∷ 0x01 ∷ 0x0A ∷ spaces ++ (0x7F ∷ 0x01 ∷ 0x00 ∷ [])) (calls.begin fresh buffer 10 (pos 1) spaces)))))))
