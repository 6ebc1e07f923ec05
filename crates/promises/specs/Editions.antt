-- W2 is a later edition of W1, and "with 04 01 02 appended the lengths read 8C, 81 89, 81 80 and the message has 144" octets,
-- those of the run case of 140. And each of the three extensible places is shown by a message, in each of the three types.
use Rattle.std.specs.Prelude.{ℕ, ◌≡◌, List, [], ◌∷◌, ◌++◌, pos, length, replicate}
use Rattle.std.proofs.Math.Option.{none, some}
use Rattle.octets.specs.Reader.{Taken}
use Rattle.parameters.specs.Parameter.{Text}
use Rattle.components.specs.Component.{invoke, result}
use Rattle.promises.specs.LaterEdition.{LaterEdition, ShowsText}
use Rattle.promises.specs.Worked.{zeros, own_waits, fresh, buffer, w1_parameter, w1, w2}

abbrev pub appended : List ℕ
appended = 0x04 ∷ 0x01 ∷ 0x02 ∷ []

abbrev pub later_parameter : List ℕ
later_parameter = 0x30 ∷ 0x09 ∷ 0x04 ∷ 0x01 ∷ 0x0F ∷ 0x04 ∷ 0x01 ∷ 0x41 ∷ appended

-- a string of 120 octets
abbrev pub string120 : List ℕ
string120 = replicate 120 0x41

abbrev pub long_parameter : List ℕ
long_parameter = 0x30 ∷ 0x7D ∷ 0x04 ∷ 0x01 ∷ 0x0F ∷ 0x04 ∷ 0x78 ∷ string120

abbrev pub m140 : List ℕ
m140 = 0x0B ∷ 0x3B ∷ 0x1C ∷ 0x88 ∷ 0xA1 ∷ 0x81 ∷ 0x85 ∷ 0x02 ∷ 0x01 ∷ 0x05 ∷ 0x02 ∷ 0x01 ∷ 0x3C ∷ long_parameter

abbrev pub m144 : List ℕ
m144 =
    0x0B ∷ 0x3B ∷ 0x1C ∷ 0x8C ∷ 0xA1 ∷ 0x81 ∷ 0x89 ∷ 0x02 ∷ 0x01 ∷ 0x05 ∷ 0x02 ∷ 0x01 ∷ 0x3C ∷ 0x30 ∷ 0x81 ∷ 0x80 ∷ 0x04 ∷ 0x01 ∷ 0x0F ∷ 0x04 ∷ 0x78 ∷ (string120 ++ appended)

-- a notify (61) in FACILITY, and the result of 59 in RELEASE COMPLETE and in FACILITY
abbrev pub n61 : List ℕ
n61 = 0x0B ∷ 0x3A ∷ 0x10 ∷ 0xA1 ∷ 0x0E ∷ 0x02 ∷ 0x01 ∷ 0x07 ∷ 0x02 ∷ 0x01 ∷ 0x3D ∷ w1_parameter

abbrev pub n61_later : List ℕ
n61_later = 0x0B ∷ 0x3A ∷ 0x13 ∷ 0xA1 ∷ 0x11 ∷ 0x02 ∷ 0x01 ∷ 0x07 ∷ 0x02 ∷ 0x01 ∷ 0x3D ∷ later_parameter

abbrev pub r59 : List ℕ
r59 = 0x8B ∷ 0x2A ∷ 0x1C ∷ 0x12 ∷ 0xA2 ∷ 0x10 ∷ 0x02 ∷ 0x01 ∷ 0x01 ∷ 0x30 ∷ 0x0B ∷ 0x02 ∷ 0x01 ∷ 0x3B ∷ w1_parameter

abbrev pub r59_later : List ℕ
r59_later = 0x8B ∷ 0x2A ∷ 0x1C ∷ 0x15 ∷ 0xA2 ∷ 0x13 ∷ 0x02 ∷ 0x01 ∷ 0x01 ∷ 0x30 ∷ 0x0E ∷ 0x02 ∷ 0x01 ∷ 0x3B ∷ later_parameter

abbrev pub f59 : List ℕ
f59 = 0x8B ∷ 0x3A ∷ 0x12 ∷ 0xA2 ∷ 0x10 ∷ 0x02 ∷ 0x01 ∷ 0x01 ∷ 0x30 ∷ 0x0B ∷ 0x02 ∷ 0x01 ∷ 0x3B ∷ w1_parameter

-- our value 0 waits for the answer to 59; the network's value 0 is open
abbrev pub own59 : List ℕ
own59 = own_waits 59

abbrev pub open_table : List ℕ
open_table = zeros 119 ++ (0x01 ∷ zeros 118)

abbrev pub letter_a : Taken Text
letter_a = record { value = record { scheme = 0x0F; string = 0x41 ∷ [] }; rest = [] }

-- demand 3's hypothesis can be met
abbrev pub Instances : Type 0
Instances =
    ShowsText fresh w1 buffer (invoke (pos 5) none 60 w1_parameter) letter_a
    × (ShowsText open_table n61 buffer (invoke (pos 7) none 61 w1_parameter) letter_a
    × (ShowsText own59 r59 buffer (result (pos 1) (some 59) w1_parameter) letter_a
    × ShowsText own59 f59 buffer (result (pos 1) (some 59) w1_parameter) letter_a))

abbrev pub Editions : Type 0
Editions =
    LaterEdition (invoke (pos 5) none 60 w1_parameter) appended w1 w2
    × (LaterEdition (invoke (pos 7) none 61 w1_parameter) appended n61 n61_later
    × (LaterEdition (result (pos 1) (some 59) w1_parameter) appended r59 r59_later
    × (LaterEdition (invoke (pos 5) none 60 long_parameter) appended m140 m144
    × ((length m140 ≡ 140) × ((length m144 ≡ 144) × Instances)))))
