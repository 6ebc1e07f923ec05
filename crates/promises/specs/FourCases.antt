-- Cases of 02 [5], from tables that are written out: B14, B15, B17 and B19 of its readings. They meet what `Four` asks for.
use Rattle.std.specs.Prelude.{ℕ, ◌≡◌, List, [], ◌∷◌, ◌++◌, pos}
use Rattle.telephone.specs.Outcome.{untouched}
use Rattle.telephone.specs.Receive.{receive}
use Rattle.telephone.specs.Calls as calls
use Rattle.promises.specs.Worked.{zeros, buffer, w1_parameter, Answers}
use Rattle.promises.specs.Editions.{open_table}
use Rattle.promises.specs.Four.{SameButTable}

-- the network's value 0 with these octets of its peer's side, and our value 0 with these of our own; the other side is empty
abbrev pub peers_wait : List ℕ → ℕ → List ℕ
peers_wait octets unused = zeros 119 ++ ((0x05 ∷ zeros 8) ++ octets) ++ zeros unused

abbrev pub owns_wait : List ℕ → ℕ → List ℕ
owns_wait octets unused = 0x03 ∷ (octets ++ zeros unused)

abbrev pub peers3 : List ℕ
peers3 = peers_wait (0x05 ∷ 0x3C ∷ 0x06 ∷ 0x12 ∷ 0x07 ∷ 0x3D ∷ []) 104

abbrev pub peers4 : List ℕ
peers4 = peers_wait (0x05 ∷ 0x3C ∷ 0x06 ∷ 0x12 ∷ 0x07 ∷ 0x3D ∷ 0x08 ∷ 0x3C ∷ []) 102

abbrev pub owns3 : List ℕ
owns3 = owns_wait (0x01 ∷ 0x11 ∷ 0x02 ∷ 0x3B ∷ 0x03 ∷ 0x0B ∷ []) 231

abbrev pub owns4 : List ℕ
owns4 = owns_wait (0x01 ∷ 0x11 ∷ 0x02 ∷ 0x3B ∷ 0x03 ∷ 0x0B ∷ 0x04 ∷ 0x0A ∷ []) 229

-- only the second of them
abbrev pub owns2nd : List ℕ
owns2nd = owns_wait (0x02 ∷ 0x3B ∷ []) 235

-- a menu of the network under the id 9, the result of our 2, and an error to our 1
abbrev pub menu_value : List ℕ
menu_value = 0xA1 ∷ 0x0E ∷ 0x02 ∷ 0x01 ∷ 0x09 ∷ 0x02 ∷ 0x01 ∷ 0x3C ∷ w1_parameter

abbrev pub menu9 : List ℕ
menu9 = 0x0B ∷ 0x3A ∷ 0x10 ∷ menu_value

abbrev pub result_value : List ℕ
result_value = 0xA2 ∷ 0x10 ∷ 0x02 ∷ 0x01 ∷ 0x02 ∷ 0x30 ∷ 0x0B ∷ 0x02 ∷ 0x01 ∷ 0x3B ∷ w1_parameter

abbrev pub result2 : List ℕ
result2 = 0x8B ∷ 0x3A ∷ 0x12 ∷ result_value

abbrev pub error1 : List ℕ
error1 = 0x8B ∷ 0x3A ∷ 0x08 ∷ 0xA3 ∷ 0x06 ∷ 0x02 ∷ 0x01 ∷ 0x01 ∷ 0x02 ∷ 0x01 ∷ 0x22 ∷ []

-- a fourth menu fares as a first one, and stands behind the others; a fifth gets problem 3; the result of the second fares as if it
-- waited alone; when the first is cleared the others move up; a fifth of ours is refused, and so is an id that waits
abbrev pub FourCases : Type 0
FourCases =
    SameButTable (receive peers3 menu9 buffer) (receive open_table menu9 buffer)
    × (((receive peers3 menu9 buffer).table ≡ peers_wait (0x05 ∷ 0x3C ∷ 0x06 ∷ 0x12 ∷ 0x07 ∷ 0x3D ∷ 0x09 ∷ 0x3C ∷ []) 102)
    × (Answers 3 (0x8B ∷ 0x2A ∷ 0x1C ∷ 0x08 ∷ 0xA4 ∷ 0x06 ∷ 0x02 ∷ 0x01 ∷ 0x09 ∷ 0x81 ∷ 0x01 ∷ 0x03 ∷ []) (receive peers4 menu9 buffer)
    × (SameButTable (receive owns3 result2 buffer) (receive owns2nd result2 buffer)
    × (((receive owns3 result2 buffer).table ≡ owns_wait (0x01 ∷ 0x11 ∷ 0x03 ∷ 0x0B ∷ []) 233)
    × (((receive owns3 error1 buffer).table ≡ owns_wait (0x02 ∷ 0x3B ∷ 0x03 ∷ 0x0B ∷ []) 233)
    × ((calls.invoke_within owns4 buffer 1 0 59 (pos 9) w1_parameter ≡ untouched owns4 buffer 23)
    × (calls.invoke_within owns3 buffer 1 0 59 (pos 3) [] ≡ untouched owns3 buffer 23)))))))
