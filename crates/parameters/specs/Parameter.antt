-- 01, "Parameters". A parameter is a list of octets; no parameter is no octets, since no element has none.
use Rattle.std.specs.Prelude.{ℕ, List, Bool, true, false, cond, ◌&&◌, ◌||◌, length, get_or, leb, eqb}
use Rattle.std.specs.List.{list_all}
use Rattle.octets.specs.Reader.{Answer, fault, sound, Taken, Reader, and_then, seq, done, check, need, alone}
use Rattle.elements.specs.Element.{Element, element, row}

-- A parameter that is not of its kind. An element in it that is missing or can't be read keeps its own number, and nobody is
-- told which it was: "any fault inside it, its tail's elements included, is step 6's 'parameter'".
abbrev pub mistyped : ℕ
mistyped = 2

abbrev pub is_sound : {A : Type 0} → Answer A → Bool
is_sound (fault n) = false
is_sound (sound a) = true

-- "any one element": one element, and nothing behind it
abbrev pub one : List ℕ → Answer Element
one p = alone mistyped (element p)

-- the contents of the one element that p is, if it has this tag
abbrev pub holding : ℕ → List ℕ → Answer (List ℕ)
holding tag p = and_then (one p) (λ e. check (eqb e.tag tag) mistyped (sound e.contents))

-- "04 of length": an octet string of so many octets
unfoldable pub string : ℕ → ℕ → Reader (List ℕ)
string low high =
    seq element (λ e.
    need (eqb e.tag 0x04) mistyped
    (need (leb low (length e.contents) && leb (length e.contents) high) mistyped
    (done e.contents)))

pub record Text : Type 0 where
  pub scheme : ℕ
  pub string : List ℕ

-- "04 of length 1 (coding scheme), 04 of length 1 to 160 (string)"
unfoldable pub text : Reader Text
text =
    seq (string 1 1) (λ scheme.
    seq (string 1 160) (λ octets.
    done (record { scheme = get_or scheme 0 0; string = octets })))

-- "then a tail of zero or more elements, unread": what the text leaves
unfoldable pub ussd_contents : List ℕ → Answer (Taken Text)
ussd_contents s = and_then (text s) (λ g. check (row g.rest) mistyped (sound g))

-- "USSD-Arg and USSD-Res, extensible: 30 holding" these
unfoldable pub ussd : List ℕ → Answer (Taken Text)
ussd p = and_then (holding 0x30 p) ussd_contents

-- "Guidance: 0A, length 1, value 0 to 2."
abbrev pub is_guidance : List ℕ → Bool
is_guidance c = eqb (length c) 1 && leb (get_or c 0 0) 2

-- "each octet 30 to 39 hex"
abbrev pub is_digit : ℕ → Bool
is_digit octet = leb 0x30 octet && leb octet 0x39

abbrev pub are_digits : List ℕ → Bool
are_digits c = list_all is_digit c

-- Request [4]: "tag 12, length 4, each octet 30 to 39 hex."
abbrev pub is_password : List ℕ → Bool
is_password c = eqb (length c) 4 && are_digits c

-- "Service code: 04 of length 1."
abbrev pub is_service_code : List ℕ → Bool
is_service_code c = eqb (length c) 1

-- "optional 82 or 83, which standing there has length 1"
abbrev pub basic_service : Answer (Taken Element) → Bool
basic_service (fault n) = true
basic_service (sound g) = cond (eqb g.value.tag 0x82 || eqb g.value.tag 0x83) (eqb (length g.value.contents) 1) true

-- "30 holding 04 of length 1; optional 82 or 83, ..; then a tail": what follows the 04 is a row, whose first may be that
unfoldable pub ss_for_bs_contents : List ℕ → Answer (Taken (List ℕ))
ss_for_bs_contents s = and_then (string 1 1 s) (λ g. check (basic_service (element g.rest) && row g.rest) mistyped (sound g))

-- whether there are contents, and they pass the test
abbrev pub contents_are : Answer (List ℕ) → (List ℕ → Bool) → Bool
contents_are (fault n) test = false
contents_are (sound c) test = test c

abbrev pub guidance : List ℕ → Bool
guidance p = contents_are (holding 0x0A p) is_guidance

abbrev pub password : List ℕ → Bool
password p = contents_are (holding 0x12 p) is_password

abbrev pub service_code : List ℕ → Bool
service_code p = contents_are (holding 0x04 p) is_service_code

abbrev pub ss_for_bs : List ℕ → Bool
ss_for_bs p = contents_are (holding 0x30 p) (λ c. is_sound (ss_for_bs_contents c))
