-- Worked parameters, and which operation takes which, as one claim, by computation.
use Prim.Native.Nat.{ℕ}
use mathlib.Core.Path.{◌≡◌, refl}
use mathlib.Core.List.{List, [], ◌∷◌}
use mathlib.Core.Bool.{true, false}
use lib.ListN.{replicate}
use Rattle.octets.specs.Reader.{took}
use Rattle.elements.specs.Element.{length_of, element, row_of, row}
use Rattle.parameters.specs.Parameter.{string, text, ussd_contents, ussd, guidance, password, service_code, ss_for_bs_contents, ss_for_bs}
use Rattle.parameters.specs.Suits.{is_ussd, none_or_one, suits_invoke_received, suits_result_received, suits_invoke_written, suits_result_written, suits}
use Rattle.parameters.specs.Suits.{InvokeReceived, ResultReceived, InvokeWritten, ResultWritten}

-- a USSD parameter with one octet of text and no tail
abbrev pub menu : List ℕ
menu = 0x30 ∷ 0x06 ∷ 0x04 ∷ 0x01 ∷ 0x0F ∷ 0x04 ∷ 0x01 ∷ 0x41 ∷ []

-- what a stuck key sent: no Password, but one element
abbrev pub spaces : List ℕ
spaces = 0x12 ∷ 0x04 ∷ 0x20 ∷ 0x20 ∷ 0x20 ∷ 0x20 ∷ []

pub worked :
    -- the tail is what the two strings leave
    (ussd menu ≡ took (record { scheme = 0x0F; string = 0x41 ∷ [] }) [])
    × (ussd (0x30 ∷ 0x09 ∷ 0x04 ∷ 0x01 ∷ 0x0F ∷ 0x04 ∷ 0x01 ∷ 0x41 ∷ 0x04 ∷ 0x01 ∷ 0x02 ∷ []) ≡ took (record { scheme = 0x0F; string = 0x41 ∷ [] }) (0x04 ∷ 0x01 ∷ 0x02 ∷ []))
    × (ussd (0x30 ∷ 0x0A ∷ 0x04 ∷ 0x01 ∷ 0x0F ∷ 0x04 ∷ 0x01 ∷ 0x41 ∷ 0x30 ∷ 0x02 ∷ 0x1F ∷ 0xFF ∷ []) ≡ took (record { scheme = 0x0F; string = 0x41 ∷ [] }) (0x30 ∷ 0x02 ∷ 0x1F ∷ 0xFF ∷ []))
    -- refused tails
    × (is_ussd (0x30 ∷ 0x07 ∷ 0x04 ∷ 0x01 ∷ 0x0F ∷ 0x04 ∷ 0x01 ∷ 0x41 ∷ 0x00 ∷ []) ≡ false)
    × (is_ussd (0x30 ∷ 0x09 ∷ 0x04 ∷ 0x01 ∷ 0x0F ∷ 0x04 ∷ 0x01 ∷ 0x41 ∷ 0x1F ∷ 0x01 ∷ 0x00 ∷ []) ≡ false)
    -- strings of 0, 160 and 161 octets
    × (is_ussd (0x30 ∷ 0x05 ∷ 0x04 ∷ 0x01 ∷ 0x0F ∷ 0x04 ∷ 0x00 ∷ []) ≡ false)
    × (ussd (0x30 ∷ 0x81 ∷ 0xA6 ∷ 0x04 ∷ 0x01 ∷ 0x0F ∷ 0x04 ∷ 0x81 ∷ 0xA0 ∷ replicate 160 0x41) ≡ took (record { scheme = 0x0F; string = replicate 160 0x41 }) [])
    × (is_ussd (0x30 ∷ 0x81 ∷ 0xA7 ∷ 0x04 ∷ 0x01 ∷ 0x0F ∷ 0x04 ∷ 0x81 ∷ 0xA1 ∷ replicate 161 0x41) ≡ false)
    -- an 82 behind the service code has one octet; further on it is tail
    × (ss_for_bs (0x30 ∷ 0x05 ∷ 0x04 ∷ 0x01 ∷ 0x11 ∷ 0x82 ∷ 0x00 ∷ []) ≡ false)
    × (ss_for_bs (0x30 ∷ 0x08 ∷ 0x04 ∷ 0x01 ∷ 0x11 ∷ 0x82 ∷ 0x01 ∷ 0x00 ∷ 0x82 ∷ 0x00 ∷ []) ≡ true)
    × (ss_for_bs (0x30 ∷ 0x0A ∷ 0x04 ∷ 0x01 ∷ 0x11 ∷ 0x84 ∷ 0x00 ∷ 0x82 ∷ 0x03 ∷ 0x01 ∷ 0x02 ∷ 0x03 ∷ []) ≡ true)
    × (ss_for_bs (0x30 ∷ 0x03 ∷ 0x04 ∷ 0x01 ∷ 0x11 ∷ []) ≡ true)
    -- guidance, password, service code
    × (guidance (0x0A ∷ 0x01 ∷ 0x02 ∷ []) ≡ true)
    × (guidance (0x0A ∷ 0x01 ∷ 0x03 ∷ []) ≡ false)
    × (password (0x12 ∷ 0x04 ∷ 0x31 ∷ 0x32 ∷ 0x33 ∷ 0x34 ∷ []) ≡ true)
    × (password (0x12 ∷ 0x03 ∷ 0x31 ∷ 0x32 ∷ 0x33 ∷ []) ≡ false)
    × (password (0x12 ∷ 0x05 ∷ 0x31 ∷ 0x32 ∷ 0x33 ∷ 0x34 ∷ 0x35 ∷ []) ≡ false)
    -- both ends of the digits at each place, and what stands next to them; the length in its other forms
    × (password (0x12 ∷ 0x81 ∷ 0x04 ∷ 0x30 ∷ 0x39 ∷ 0x30 ∷ 0x39 ∷ []) ≡ true)
    × (password (0x12 ∷ 0x82 ∷ 0x00 ∷ 0x04 ∷ 0x39 ∷ 0x30 ∷ 0x39 ∷ 0x30 ∷ []) ≡ true)
    × (password (0x12 ∷ 0x04 ∷ 0x2F ∷ 0x32 ∷ 0x33 ∷ 0x34 ∷ []) ≡ false)
    × (password (0x12 ∷ 0x04 ∷ 0x31 ∷ 0x3A ∷ 0x33 ∷ 0x34 ∷ []) ≡ false)
    × (password (0x12 ∷ 0x04 ∷ 0x31 ∷ 0x32 ∷ 0xB0 ∷ 0x34 ∷ []) ≡ false)
    × (password (0x12 ∷ 0x04 ∷ 0x31 ∷ 0x32 ∷ 0x33 ∷ 0x20 ∷ []) ≡ false)
    × (service_code (0x04 ∷ 0x81 ∷ 0x01 ∷ 0x92 ∷ []) ≡ true)
    -- invokes received
    × (suits InvokeReceived 18 (0x0A ∷ 0x01 ∷ 0x02 ∷ []) ≡ true)
    × (suits InvokeReceived 18 [] ≡ false)
    × (suits InvokeReceived 60 menu ≡ true)
    × (suits InvokeReceived 60 [] ≡ false)
    × (suits InvokeReceived 61 menu ≡ true)
    × (suits InvokeReceived 61 (0x0A ∷ 0x01 ∷ 0x02 ∷ []) ≡ false)
    × (suits InvokeReceived 38 [] ≡ true)
    × (suits InvokeReceived 38 (0x10 ∷ 0x00 ∷ []) ≡ false)
    × (suits InvokeReceived 59 menu ≡ false)
    -- results received
    × (suits ResultReceived 17 (0x12 ∷ 0x04 ∷ 0x31 ∷ 0x32 ∷ 0x33 ∷ 0x34 ∷ []) ≡ true)
    × (suits ResultReceived 17 spaces ≡ false)
    × (suits ResultReceived 17 [] ≡ false)
    × (suits ResultReceived 59 [] ≡ true)
    × (suits ResultReceived 59 menu ≡ true)
    × (suits ResultReceived 59 (0x10 ∷ 0x00 ∷ []) ≡ false)
    × (suits ResultReceived 10 (0x10 ∷ 0x00 ∷ []) ≡ true)
    × (suits ResultReceived 10 (0x10 ∷ 0x01 ∷ []) ≡ false)
    × (suits ResultReceived 10 spaces ≡ true)
    × (suits ResultReceived 11 [] ≡ true)
    × (suits ResultReceived 11 (0x10 ∷ 0x01 ∷ []) ≡ false)
    × (suits ResultReceived 12 (0x10 ∷ 0x00 ∷ []) ≡ true)
    × (suits ResultReceived 12 (0x10 ∷ 0x01 ∷ []) ≡ false)
    × (suits ResultReceived 13 [] ≡ true)
    × (suits ResultReceived 13 (0x10 ∷ 0x01 ∷ []) ≡ false)
    × (suits ResultReceived 14 (0x10 ∷ 0x00 ∷ []) ≡ true)
    × (suits ResultReceived 14 (0x10 ∷ 0x01 ∷ []) ≡ false)
    × (suits ResultReceived 9 (0x10 ∷ 0x00 ∷ []) ≡ false)
    × (suits ResultReceived 15 (0x10 ∷ 0x00 ∷ []) ≡ false)
    -- invokes written
    × (suits InvokeWritten 10 (0x10 ∷ 0x00 ∷ []) ≡ true)
    × (suits InvokeWritten 10 [] ≡ false)
    × (suits InvokeWritten 10 spaces ≡ true)
    × (suits InvokeWritten 11 (0x30 ∷ 0x03 ∷ 0x04 ∷ 0x01 ∷ 0x11 ∷ []) ≡ true)
    × (suits InvokeWritten 11 (0x10 ∷ 0x00 ∷ []) ≡ false)
    × (suits InvokeWritten 12 (0x30 ∷ 0x03 ∷ 0x04 ∷ 0x01 ∷ 0x11 ∷ []) ≡ true)
    × (suits InvokeWritten 12 (0x10 ∷ 0x00 ∷ []) ≡ false)
    × (suits InvokeWritten 13 (0x30 ∷ 0x03 ∷ 0x04 ∷ 0x01 ∷ 0x11 ∷ []) ≡ true)
    × (suits InvokeWritten 13 (0x10 ∷ 0x00 ∷ []) ≡ false)
    × (suits InvokeWritten 14 (0x30 ∷ 0x03 ∷ 0x04 ∷ 0x01 ∷ 0x11 ∷ []) ≡ true)
    × (suits InvokeWritten 14 (0x10 ∷ 0x00 ∷ []) ≡ false)
    × (suits InvokeWritten 17 (0x04 ∷ 0x01 ∷ 0x92 ∷ []) ≡ true)
    × (suits InvokeWritten 17 [] ≡ false)
    × (suits InvokeWritten 59 menu ≡ true)
    × (suits InvokeWritten 59 [] ≡ false)
    × (suits InvokeWritten 60 menu ≡ false)
    -- results written
    × (suits ResultWritten 18 (0x12 ∷ 0x04 ∷ 0x31 ∷ 0x32 ∷ 0x33 ∷ 0x34 ∷ []) ≡ true)
    × (suits ResultWritten 18 spaces ≡ false)
    × (suits ResultWritten 18 [] ≡ false)
    × (suits ResultWritten 60 [] ≡ true)
    × (suits ResultWritten 60 menu ≡ true)
    × (suits ResultWritten 60 (0x10 ∷ 0x00 ∷ []) ≡ false)
    × (suits ResultWritten 61 [] ≡ true)
    × (suits ResultWritten 61 menu ≡ false)
    × (suits ResultWritten 38 [] ≡ false)
    -- the parameter of an error
    × (none_or_one spaces ≡ true)
unfolding length_of element row_of row string text ussd_contents ussd ss_for_bs_contents suits_invoke_received suits_result_received suits_invoke_written suits_result_written suits
worked = (refl, refl, refl, refl, refl, refl, refl, refl, refl, refl, refl, refl, refl, refl, refl, refl, refl, refl, refl, refl, refl, refl, refl, refl, refl, refl, refl, refl, refl, refl, refl, refl, refl, refl, refl, refl, refl, refl, refl, refl, refl, refl, refl, refl, refl, refl, refl, refl, refl, refl, refl, refl, refl, refl, refl, refl, refl, refl, refl, refl, refl, refl, refl, refl, refl, refl, refl, refl, refl, refl, refl, refl, refl, refl, refl, refl, refl, refl)
