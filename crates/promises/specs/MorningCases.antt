-- Cases of 02 [6], B22 to B25 of its readings, by their octets. What stands in the output beforehand is EE.
use Rattle.std.specs.Prelude.{ℕ, ◌≡◌, List, [], ◌∷◌, ◌++◌, replicate}
use Rattle.records.specs.Records.{records_of}
use Rattle.telephone.specs.Batch.{Batch, batch}
use Rattle.promises.specs.Worked.{zeros, fresh, after_w1, w1, w3}
use Rattle.promises.specs.Morning.{unchanged, Lent, FedAs}

abbrev pub lent_out : ℕ → List ℕ
lent_out n = replicate n 0xEE

-- a FACILITY for a transaction that isn't open, W5
abbrev pub w5 : List ℕ
w5 = 0x9B ∷ 0x3A ∷ 0x00 ∷ []

abbrev pub w5_slot : List ℕ
w5_slot = 0x02 ∷ 0x06 ∷ 0x1B ∷ 0x2A ∷ 0x08 ∷ 0x02 ∷ 0xE0 ∷ 0xD1 ∷ zeros 6

-- the duplicate of W1, W3
abbrev pub w3_slot : List ℕ
w3_slot = 0x03 ∷ 0x0C ∷ 0x8B ∷ 0x2A ∷ 0x1C ∷ 0x08 ∷ 0xA4 ∷ 0x06 ∷ 0x02 ∷ 0x01 ∷ 0x05 ∷ 0x81 ∷ 0x01 ∷ 0x00 ∷ []

abbrev pub batched : ℕ → List ℕ → List ℕ → Batch
batched n output table = record { code = 0; slots = n; output = output; table = table }

-- W1 and W3, each received with a buffer of its own
abbrev pub w1_and_w3 : List Lent
w1_and_w3 = record { message = w1; buffer = lent_out 12 } ∷ record { message = w3; buffer = lent_out 300 } ∷ []

abbrev pub MorningCases : Type 0
MorningCases =
    -- B22: "28 as before, then 30 .., then 31"; a fault in the last refuses the call
    (batch (zeros 70) (0x00 ∷ []) [] ≡ unchanged (zeros 70) [] 28)
    × ((batch fresh (records_of (w5 ∷ []) ++ (0x00 ∷ [])) [] ≡ unchanged fresh [] 30)
    × ((batch fresh (records_of (w5 ∷ (0x0B ∷ 0x3C ∷ []) ∷ [])) (lent_out 27) ≡ unchanged fresh (lent_out 27) 31)
    -- B23: zero, cut, one octet, no record
    × ((batch fresh (0x00 ∷ []) (lent_out 60) ≡ unchanged fresh (lent_out 60) 30)
    × ((batch fresh (0x03 ∷ 0x0B ∷ 0x3C ∷ []) (lent_out 60) ≡ unchanged fresh (lent_out 60) 30)
    × ((batch fresh (0x01 ∷ 0x0B ∷ []) (lent_out 14) ≡ batched 1 (0x01 ∷ zeros 13) fresh)
    × ((batch fresh [] [] ≡ batched 0 [] fresh)
    -- B24 and B25: the slots are counted and filled, and what stands behind them stays
    × ((batch fresh (records_of (w5 ∷ w5 ∷ [])) (lent_out 28) ≡ batched 2 (w5_slot ++ w5_slot) fresh)
    × ((batch fresh (records_of (w5 ∷ [])) (lent_out 16) ≡ batched 1 (w5_slot ++ (0xEE ∷ 0xEE ∷ [])) fresh)
    × ((batch after_w1 (records_of (w3 ∷ [])) (lent_out 14) ≡ batched 1 w3_slot fresh)
    × ((batch fresh (records_of (w1 ∷ w3 ∷ [])) (lent_out 28) ≡ batched 2 (zeros 14 ++ w3_slot) fresh)
    -- and these two meet what `OneByOne` asks for
    × FedAs fresh (lent_out 28) w1_and_w3 (batch fresh (records_of (w1 ∷ w3 ∷ [])) (lent_out 28))))))))))))
