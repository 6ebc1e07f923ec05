-- Packing and back: what a sender packs by GSM 03.38 a receiver reads.
use Rattle.std.specs.Prelude.{ℕ, zero, suc, ◌+◌, ◌-◌, ◌*◌, ◌/◌, ◌%◌, ◌^◌, ◌<◌, ◌≡◌, List, [], ◌∷◌, ◌++◌, Bool, cond, ◌&&◌, ◌||◌, length, get_or, eqb}
use Rattle.octets.specs.Octets.{Octets}
use Rattle.cells.specs.Septets.{septet_at, CR, unpacked}

-- digits as one number, the first the lowest
unfoldable pub number : ℕ → List ℕ → ℕ
number base [] = 0
number base (d ∷ s) = d + base * number base s

-- the n lowest digits of a number, the lowest first
unfoldable pub digits : ℕ → ℕ → ℕ → List ℕ
digits base zero v = []
digits base (suc n) v = v % base ∷ digits base n (v / base)

-- bits "counted from the low bit of [the] first octet": octets and septets are one number; "Other spare bits, one to six, are zero"
unfoldable pub packed : List ℕ → List ℕ
packed septets = digits 256 ((7 * length septets + 7) / 8) (number 128 septets)

-- "a sender with 8n - 1 characters has seven spare bits at the end and fills them with CR"
abbrev pub has_seven_spare : List ℕ → Bool
has_seven_spare septets = eqb (length septets % 8) 7

-- "the text itself ends with a CR on an octet boundary"
abbrev pub ends_in_cr : List ℕ → Bool
ends_in_cr septets = eqb (length septets % 8) 0 && eqb (get_or septets (length septets - 1) 0) CR

-- "the sender adds another CR"
abbrev pub padded : List ℕ → List ℕ
padded septets = cond (has_seven_spare septets || ends_in_cr septets) (septets ++ (CR ∷ [])) septets

abbrev pub Septets : List ℕ → Type 0
Septets [] = Unit {0}
Septets (c ∷ s) = (c < 128) × Septets s

-- nothing that is sent is lost, and a CR that the sender added stays only behind one that ends the text on an octet boundary
abbrev pub BackAsSent : Type 0
BackAsSent = (s : List ℕ) → Septets s → unpacked (packed (padded s)) ≡ cond (ends_in_cr s) (s ++ (CR ∷ [])) s

-- "septet i is the bits 7i to 7i+6 of the string"
abbrev pub AreTheBits : Type 0
AreTheBits = (string : List ℕ) (i : ℕ) → Octets string → septet_at string i ≡ number 256 string / 2 ^ (7 * i) % 2 ^ 7
