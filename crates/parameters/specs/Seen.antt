-- What the code's answers say of the part that was read, and what is promised of them. A refusal does not tell which fault it was.
use Rattle.std.specs.Prelude.{ℕ, ◌+◌, ◌≤◌, ◌≡◌, List, Bool, true, false, cond, ◌||◌, Option, None, Some, Result, Ok, Err, is_ok, length, drop, eqb}
use Rattle.octets.specs.Part.{between}
use Rattle.octets.specs.Reader.{Answer, fault, sound, Taken, took}
use Rattle.octets.specs.Seen.{part_read}
use Rattle.octets.specs.declared.Span.{Span}
use Rattle.parameters.specs.Parameter.{mistyped, holding, string, Text, ussd_contents, ussd}
use Rattle.parameters.specs.Suits.{is_ussd, suits, InvokeReceived, ResultReceived}
use Rattle.parameters.specs.declared.text.Ussd.{Ussd}
use Rattle.parameters.specs.declared.suits.Unsuited.{Unsuited}

abbrev pub refusal : {A : Type 0} → Answer A → Answer A
refusal (fault n) = fault mistyped
refusal (sound a) = sound a

-- contents that go on to the end of the part
abbrev pub contents_seen : List ℕ → Option ℕ → Answer (List ℕ)
contents_seen s None = fault mistyped
contents_seen s (Some start) = sound (drop start s)

abbrev pub ContentsWithin : List ℕ → Option ℕ → Type 0
ContentsWithin s None = Unit {0}
ContentsWithin s (Some start) = start ≤ length s

abbrev pub ReadsContents : ℕ → List ℕ → Option ℕ → Type 0
ReadsContents tag p contents = (contents_seen p contents ≡ refusal (holding tag p)) × ContentsWithin p contents

-- a string has as many octets as were asked for at least
abbrev pub StringWithin : ℕ → List ℕ → Option Span → Type 0
StringWithin low s None = Unit {0}
StringWithin low s (Some p) = (p.start + low ≤ p.end) × (p.end ≤ length s)

abbrev pub ReadsString : ℕ → ℕ → List ℕ → Option Span → Type 0
ReadsString low high s octets = (part_read mistyped s octets ≡ refusal (string low high s)) × StringWithin low s octets

-- the string's places; the tail goes from the string's end to the end of the part
abbrev pub ussd_seen : List ℕ → Option Ussd → Answer (Taken Text)
ussd_seen s None = fault mistyped
ussd_seen s (Some t) = took (record { scheme = t.scheme; string = between t.start t.end s }) (drop t.end s)

abbrev pub UssdWithin : List ℕ → Option Ussd → Type 0
UssdWithin s None = Unit {0}
UssdWithin s (Some t) = (t.start ≤ t.end) × (t.end ≤ length s)

abbrev pub ReadsUssdContents : List ℕ → Option Ussd → Type 0
ReadsUssdContents s text = (ussd_seen s text ≡ refusal (ussd_contents s)) × UssdWithin s text

abbrev pub ReadsUssd : List ℕ → Option Ussd → Type 0
ReadsUssd p text = (ussd_seen p text ≡ refusal (ussd p)) × UssdWithin p text

-- a text that was read of a part, where one is looked for; elsewhere none is told
abbrev pub TextSeen : Bool → List ℕ → Option Ussd → Type 0
TextSeen sought p text = (ussd_seen p text ≡ cond sought (refusal (ussd p)) (fault mistyped)) × UssdWithin p text

-- a parameter that holds no text suits or does not
abbrev pub without_text : Bool → Result (Option Ussd) Unsuited
without_text true = Ok None
without_text false = Err (record {})

-- the text that was read, if it was
abbrev pub text_of : Result (Option Ussd) Unsuited → Option Ussd
text_of (Ok text) = text
text_of (Err u) = None

-- whether a received parameter suits, and the text that was read to tell it
abbrev pub TellsSuited : Bool → Bool → List ℕ → Result (Option Ussd) Unsuited → Type 0
TellsSuited suited sought p r = (is_ok r ≡ suited) × TextSeen sought p (text_of r)

abbrev pub TellsText : List ℕ → Result (Option Ussd) Unsuited → Type 0
TellsText p r = TellsSuited (is_ussd p) true p r

abbrev pub TellsInvoke : ℕ → List ℕ → Result (Option Ussd) Unsuited → Type 0
TellsInvoke operation p r = TellsSuited (suits InvokeReceived operation p) (eqb operation 60 || eqb operation 61) p r

abbrev pub TellsResult : ℕ → List ℕ → Result (Option Ussd) Unsuited → Type 0
TellsResult operation p r = TellsSuited (suits ResultReceived operation p) (eqb operation 59) p r
