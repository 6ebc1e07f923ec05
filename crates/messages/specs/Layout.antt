-- 01, "Message layout": the first two octets, the mandatory part, and the messages as they are written.
use Rattle.std.specs.Prelude.{ℕ, ◌+◌, ◌-◌, ◌*◌, ◌/◌, ◌%◌, List, [], ◌∷◌, ◌++◌, cond, length, eqb}
use Rattle.octets.specs.Reader.{Reader, seq, need, octet, front}

-- "low four bits the protocol discriminator, 11; next three the transaction value; top bit the flag"
abbrev pub discriminator : ℕ → ℕ
discriminator first = first % 16

abbrev pub value : ℕ → ℕ
value first = first / 16 % 8

abbrev pub flag : ℕ → ℕ
flag first = first / 128

-- the first octet of a message in a transaction that is received under this flag: "What we send carries the opposite flag."
abbrev pub sent_first : ℕ → ℕ → ℕ
sent_first flag value = 128 * (1 - flag) + 16 * value + 11

-- "2A RELEASE COMPLETE, 3A FACILITY, 3B REGISTER (hex)"
abbrev pub release_type : ℕ
release_type = 0x2A

abbrev pub facility_type : ℕ
facility_type = 0x3A

abbrev pub register_type : ℕ
register_type = 0x3B

-- "Mandatory part missing or cut, or the comprehension rule: cause 96."
abbrev pub mandatory_missing : ℕ
mandatory_missing = 96

-- "length, Facility value": one plain octet and so many octets
unfoldable pub sized : Reader (List ℕ)
sized = seq (octet mandatory_missing) (λ n. front mandatory_missing n)

-- "REGISTER: element 1C, length, Facility value." "FACILITY: length, Facility value, no 1C."
unfoldable pub mandatory : ℕ → Reader (List ℕ)
mandatory type = cond (eqb type register_type) (seq (octet mandatory_missing) (λ i. need (eqb i 0x1C) mandatory_missing sized)) sized

-- "Ours ends with 7F 01 00."
unfoldable pub register : ℕ → List ℕ → List ℕ
register first facility = first ∷ register_type ∷ 0x1C ∷ length facility ∷ (facility ++ (0x7F ∷ 0x01 ∷ 0x00 ∷ []))

unfoldable pub facility_message : ℕ → List ℕ → List ℕ
facility_message first facility = first ∷ facility_type ∷ length facility ∷ facility

-- "RELEASE COMPLETE: optional cause, 08 02 E0 then 128 plus the cause; optional Facility with 1C."
abbrev pub release_empty : ℕ → List ℕ
release_empty first = first ∷ release_type ∷ []

abbrev pub release_cause : ℕ → ℕ → List ℕ
release_cause first cause = first ∷ release_type ∷ 0x08 ∷ 0x02 ∷ 0xE0 ∷ (128 + cause) ∷ []

unfoldable pub release_facility : ℕ → List ℕ → List ℕ
release_facility first facility = first ∷ release_type ∷ 0x1C ∷ length facility ∷ facility
