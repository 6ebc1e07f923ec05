-- 01, "Worked messages", in hex: "Proved, as one table: W1 to W10." Each from the table it names and a buffer of zeros.
use Rattle.std.specs.Prelude.{ℕ, ◌≡◌, List, [], ◌∷◌, ◌++◌, true, false, pos, length, drop, replicate}
use Rattle.std.proofs.Math.Option.{none, some}
use Rattle.components.specs.Component.{invoke}
use Rattle.telephone.specs.Outcome.{Outcome}
use Rattle.telephone.specs.Receive.{receive}
use Rattle.telephone.specs.Calls.{begin, result}
use Rattle.telephone.specs.FromC.{received_of}
use Rattle.telephone.specs.Stands.{text_shown}
use Rattle.telephone.specs.declared.receive.Received.{Received}
use Rattle.promises.specs.ReadBack.{sent_octets}

abbrev pub zeros : ℕ → List ℕ
zeros n = replicate n 0

abbrev pub fresh : List ℕ
fresh = zeros 238

-- the network's value 0 waits for the answer to its invoke 5 of this operation
abbrev pub peer_waits : ℕ → List ℕ
peer_waits operation = zeros 119 ++ ((0x05 ∷ zeros 8) ++ (0x05 ∷ operation ∷ [])) ++ zeros 108

-- our value 0 waits for the answer to our invoke 1 of this operation
abbrev pub own_waits : ℕ → List ℕ
own_waits operation = 0x03 ∷ 0x01 ∷ operation ∷ zeros 235

-- the table after W1
abbrev pub after_w1 : List ℕ
after_w1 = peer_waits 60

abbrev pub buffer : List ℕ
buffer = zeros 24

abbrev pub w1_parameter : List ℕ
w1_parameter = 0x30 ∷ 0x06 ∷ 0x04 ∷ 0x01 ∷ 0x0F ∷ 0x04 ∷ 0x01 ∷ 0x41 ∷ []

abbrev pub w1 : List ℕ
w1 = 0x0B ∷ 0x3B ∷ 0x1C ∷ 0x10 ∷ 0xA1 ∷ 0x0E ∷ 0x02 ∷ 0x01 ∷ 0x05 ∷ 0x02 ∷ 0x01 ∷ 0x3C ∷ w1_parameter

-- "Verdict 0, id 5, string 41, tail empty."
abbrev pub W1 : Outcome → Type 0
W1 o =
    (o.code ≡ 0)
    × ((o.shown ≡ some (record { component = invoke (pos 5) none 60 w1_parameter; behind = [] }))
    × ((text_shown o.shown ≡ some (record { value = record { scheme = 0x0F; string = 0x41 ∷ [] }; rest = [] }))
    × ((sent_octets o ≡ []) × (o.table ≡ after_w1))))

-- and as C sees it: the parameter from octet 12 on, the string at 19, the tail empty at the end
abbrev pub w1_received : Received
w1_received =
    record {
      code = 0;
      written = 0;
      shown =
          record {
            kind = 0xA1;
            has_id = true;
            id = pos 5;
            has_linked = false;
            linked = pos 0;
            has_operation = true;
            operation = 60;
            code = 0;
            tag = 0;
            problem = 0;
            parameter = record { start = 12; end = 20 };
          };
      text = record { is_there = true; scheme = 0x0F; string = record { start = 19; end = 20 }; tail = record { start = 20; end = 20 } };
      cause = record { is_there = false; contents = record { start = 0; end = 0 } };
    }

abbrev pub W1Received : Type 0
W1Received = received_of (length w1) (receive fresh w1 buffer) ≡ w1_received

-- "W1 with 04 01 02 appended: lengths become 13, 11, 09; same values, tail 04 01 02."
abbrev pub w2 : List ℕ
w2 = 0x0B ∷ 0x3B ∷ 0x1C ∷ 0x13 ∷ 0xA1 ∷ 0x11 ∷ 0x02 ∷ 0x01 ∷ 0x05 ∷ 0x02 ∷ 0x01 ∷ 0x3C ∷ 0x30 ∷ 0x09 ∷ 0x04 ∷ 0x01 ∷ 0x0F ∷ 0x04 ∷ 0x01 ∷ 0x41 ∷ 0x04 ∷ 0x01 ∷ 0x02 ∷ []

abbrev pub W2 : Outcome → Type 0
W2 o =
    (o.code ≡ 0)
    × ((o.shown ≡ some (record { component = invoke (pos 5) none 60 (drop 12 w2); behind = [] }))
    × ((text_shown o.shown ≡ some (record { value = record { scheme = 0x0F; string = 0x41 ∷ [] }; rest = 0x04 ∷ 0x01 ∷ 0x02 ∷ [] }))
    × ((sent_octets o ≡ []) × (o.table ≡ after_w1))))

-- the verdict, and what is sent
abbrev pub Answers : ℕ → List ℕ → Outcome → Type 0
Answers code octets o = (o.code ≡ code) × (sent_octets o ≡ octets)

-- "after W1, 0B 3A and W1 from its length 10 on: verdict 3"
abbrev pub w3 : List ℕ
w3 = 0x0B ∷ 0x3A ∷ 0x10 ∷ 0xA1 ∷ 0x0E ∷ 0x02 ∷ 0x01 ∷ 0x05 ∷ 0x02 ∷ 0x01 ∷ 0x3C ∷ w1_parameter

abbrev pub Worked : Type 0
Worked =
    W1 (receive fresh w1 buffer)
    × (W2 (receive fresh w2 buffer)
    × (Answers 3 (0x8B ∷ 0x2A ∷ 0x1C ∷ 0x08 ∷ 0xA4 ∷ 0x06 ∷ 0x02 ∷ 0x01 ∷ 0x05 ∷ 0x81 ∷ 0x01 ∷ 0x00 ∷ []) (receive after_w1 w3 buffer)
    -- W4, "after W1, result with 30 06 04 01 0F 04 01 31"
    × (Answers 0 (0x8B ∷ 0x3A ∷ 0x12 ∷ 0xA2 ∷ 0x10 ∷ 0x02 ∷ 0x01 ∷ 0x05 ∷ 0x30 ∷ 0x0B ∷ 0x02 ∷ 0x01 ∷ 0x3C ∷ 0x30 ∷ 0x06 ∷ 0x04 ∷ 0x01 ∷ 0x0F ∷ 0x04 ∷ 0x01 ∷ 0x31 ∷ []) (result after_w1 buffer 0 0 (pos 5) (0x30 ∷ 0x06 ∷ 0x04 ∷ 0x01 ∷ 0x0F ∷ 0x04 ∷ 0x01 ∷ 0x31 ∷ []))
    -- W5 to W7
    × (Answers 2 (0x1B ∷ 0x2A ∷ 0x08 ∷ 0x02 ∷ 0xE0 ∷ 0xD1 ∷ []) (receive fresh (0x9B ∷ 0x3A ∷ 0x00 ∷ []) buffer)
    × (Answers 2 (0x8B ∷ 0x2A ∷ 0x08 ∷ 0x02 ∷ 0xE0 ∷ 0xE1 ∷ []) (receive fresh (0x0B ∷ 0x3C ∷ []) buffer)
    × (Answers 3 (0x8B ∷ 0x2A ∷ 0x1C ∷ 0x07 ∷ 0xA4 ∷ 0x05 ∷ 0x05 ∷ 0x00 ∷ 0x80 ∷ 0x01 ∷ 0x00 ∷ []) (receive after_w1 (0x0B ∷ 0x3A ∷ 0x02 ∷ 0xA5 ∷ 0x00 ∷ []) buffer)
    -- W8, "fresh, 7B 3B: verdict 1"
    × (Answers 1 [] (receive fresh (0x7B ∷ 0x3B ∷ []) buffer)
    -- W9, "begin 59, id 1, parameter as in W1, fresh"
    × (Answers 0 (0x0B ∷ 0x3B ∷ 0x1C ∷ 0x10 ∷ 0xA1 ∷ 0x0E ∷ 0x02 ∷ 0x01 ∷ 0x01 ∷ 0x02 ∷ 0x01 ∷ 0x3B ∷ 0x30 ∷ 0x06 ∷ 0x04 ∷ 0x01 ∷ 0x0F ∷ 0x04 ∷ 0x01 ∷ 0x41 ∷ 0x7F ∷ 0x01 ∷ 0x00 ∷ []) (begin fresh buffer 59 (pos 1) w1_parameter)
    -- W10, "the empty message: verdict 1"
    × Answers 1 [] (receive fresh [] buffer)))))))))
