-- Demand 3: "A later edition cannot alter what this telephone shows." Elements are appended at the end of the parameter, and
-- the enclosing lengths are written anew. Each piece can be seen: what stays, what is appended, and each length.
use Rattle.std.specs.Prelude.{ℕ, ◌≤◌, ◌<◌, ◌≡◌, List, ◌∷◌, ◌++◌, true, length}
use Rattle.std.proofs.Math.Option.{some}
use Rattle.octets.specs.Octets.{Octets}
use Rattle.octets.specs.Reader.{Taken}
use Rattle.elements.specs.Element.{row}
use Rattle.parameters.specs.Parameter.{Text}
use Rattle.components.specs.Component.{Component, parameter_of}
use Rattle.components.specs.LaterEdition.{LaterParameter, LaterFacility, with_parameter}
use Rattle.messages.specs.Layout.{register_type, facility_type, release_type}
use Rattle.messages.specs.Scan.{contents_of}
use Rattle.messages.specs.LaterEdition.{Passed}
use Rattle.components.specs.Texts.{text_of}
use Rattle.telephone.specs.Outcome.{Outcome, untouched}
use Rattle.telephone.specs.Receive.{receive}
use Rattle.promises.specs.Unrecognized.{Unrecognized}

-- the message around the parameter p, and around q in its place; "the Facility's [length] in its one octet"
pub data LaterMessage (p q : List ℕ) : List ℕ → List ℕ → Type 0 where
  in_register : (first : ℕ) {s t : List ℕ} → LaterFacility p q s t → (behind : List ℕ)
      → LaterMessage p q (first ∷ register_type ∷ 0x1C ∷ length s ∷ (s ++ behind)) (first ∷ register_type ∷ 0x1C ∷ length t ∷ (t ++ behind))
  in_facility : (first : ℕ) {s t : List ℕ} → LaterFacility p q s t → (behind : List ℕ)
      → LaterMessage p q (first ∷ facility_type ∷ length s ∷ (s ++ behind)) (first ∷ facility_type ∷ length t ∷ (t ++ behind))
  -- other elements may stand before the 1C
  in_release : (first : ℕ) {before s t : List ℕ} → Passed 0x1C before → LaterFacility p q s t → (behind : List ℕ)
      → LaterMessage p q (first ∷ release_type ∷ (before ++ (0x1C ∷ length s ∷ (s ++ behind)))) (first ∷ release_type ∷ (before ++ (0x1C ∷ length t ∷ (t ++ behind))))

-- m' is m with x appended to the parameter of the component c
pub record LaterEdition (c : Component) (x m m' : List ℕ) : Type 0 where
  pub parameter : List ℕ
  pub becomes : LaterParameter (parameter_of c) x parameter
  pub around : LaterMessage (parameter_of c) parameter m m'

-- a message that shows a component with a text: "one of the three extensible USSD parameters"
pub record ShowsText (t m b : List ℕ) (c : Component) (g : Taken Text) : Type 0 where
  pub behind : List ℕ
  pub shown : (receive t m b).shown ≡ some (record { component = c; behind = behind })
  pub text : text_of c ≡ some g

-- "the verdict, identifiers, operation, coding scheme, string, reply and next table are the same, and the unread tail is the
-- old tail followed by the appended octets": kind, identifiers and operation are those of c, scheme and string those of g
pub record SameButTail (o o' : Outcome) (c : Component) (g : Taken Text) (x q : List ℕ) : Type 0 where
  pub verdict : o'.code ≡ o.code
  pub written : o'.written ≡ o.written
  pub buffer : o'.buffer ≡ o.buffer
  pub table : o'.table ≡ o.table
  pub cause : contents_of o'.cause ≡ contents_of o.cause
  pub behind : List ℕ
  pub was : o.shown ≡ some (record { component = c; behind = behind })
  pub shown : o'.shown ≡ some (record { component = with_parameter q c; behind = behind })
  pub text : text_of (with_parameter q c) ≡ some (record { value = g.value; rest = g.rest ++ x })

-- "Up to 255 octets, from the same table and reply buffer"
abbrev pub CannotAlter : Type 0
CannotAlter =
    (t b m m' x : List ℕ) (c : Component) (g : Taken Text) → ShowsText t m b c g → row x ≡ true → (e : LaterEdition c x m m') → length m' ≤ 255
    → SameButTail (receive t m b) (receive t m' b) c g x e.parameter

-- "From that table and buffer a message past 255 is refused as too long, however its lengths are written."
abbrev pub PastIsTooLong : Type 0
PastIsTooLong = (t b m n : List ℕ) (c : Component) (g : Taken Text) → ShowsText t m b c g → 255 < length n → receive t n b ≡ untouched t b 6

-- there is one later edition for each such message and each row of elements, and it is a list of octets
abbrev pub Exists : Type 0
Exists = (t b m x : List ℕ) (c : Component) (g : Taken Text) → ShowsText t m b c g → (m' : List ℕ) × LaterEdition c x m m'

abbrev pub IsOne : Type 0
IsOne = (x m m₁ m₂ : List ℕ) (c : Component) → LaterEdition c x m m₁ → LaterEdition c x m m₂ → m₁ ≡ m₂

abbrev pub IsOctets : Type 0
IsOctets = (x m m' : List ℕ) (c : Component) → Octets m → Octets x → LaterEdition c x m m' → length m' ≤ 255 → Octets m'

abbrev pub Demand3 : Type 0
Demand3 = CannotAlter × (PastIsTooLong × (Exists × (IsOne × (IsOctets × Unrecognized))))
