-- What is sent has 01's layout: its Facility value is found again, and its component reads back.
use Prim.Native.Nat.{ℕ, ◌+◌}
use native.Mathlib.Omega.{arith}
use mathlib.Core.Path.{◌≡◌, refl}
use mathlib.Core.List.{List, [], ◌∷◌, append-nil}
use mathlib.Core.Bool.{true}
use mathlib.Core.Option.{none, some}
use lib.ListN.{length, drop}
use Rattle.octets.specs.Reader.{took}
use Rattle.messages.specs.Layout.{register_type, facility_type, mandatory, register, facility_message, release_cause, release_facility}
use Rattle.messages.specs.Scan.{information, clear_of, clear, required, first_of, first_taken, first_whole}
use Rattle.messages.proofs.ScanLaws.{register-back, facility-back, information-back, first_step, clear_none}
use Rattle.components.specs.Component.{Component}
use Rattle.components.specs.Facility.{shows, facility}
use Rattle.components.specs.Written.{component_octets, Writable}
use Rattle.components.proofs.ReadBack.{read_back}

-- "Ours ends with 7F 01 00", which requires no comprehension
version-clear : clear (0x7F ∷ 0x01 ∷ 0x00 ∷ []) ≡ true
unfolding clear clear_of information
version-clear = refl

-- the Facility value of a REGISTER, of a FACILITY, and of a RELEASE COMPLETE, behind the two first octets
pub register-found : (first : ℕ) (v : List ℕ) → required register_type (drop 2 (register first v)) ≡ took v (0x7F ∷ 0x01 ∷ 0x00 ∷ [])
unfolding register required
register-found first v = rw (register-back v (0x7F ∷ 0x01 ∷ 0x00 ∷ []), version-clear)

pub facility-found : (first : ℕ) (v : List ℕ) → required facility_type (drop 2 (facility_message first v)) ≡ took v []
unfolding facility_message required
facility-found first v =
    let e : mandatory facility_type (length v ∷ v) ≡ took v [] = rw append-nil at (facility-back v []) in
    rw (e, clear_none)

pub release-found : (first : ℕ) (v : List ℕ) → first_whole 0x1C (drop 2 (release_facility first v)) ≡ some v
unfolding release_facility
release-found first v =
    let e : information (0x1C ∷ length v ∷ v) ≡ took (record { identifier = 0x1C; contents = v }) [] = rw append-nil at (information-back 0x1C v [] (omega arith)) in
    first_step 0x1C (0x1C ∷ length v ∷ v) _ e

-- a cause that is sent is found again, and no component with it
pub cause-found : (first cause : ℕ) → (first_whole 0x08 (drop 2 (release_cause first cause)) ≡ some (0xE0 ∷ (128 + cause) ∷ []))
    × (first_whole 0x1C (drop 2 (release_cause first cause)) ≡ none)
unfolding first_whole first_taken first_of information
cause-found first cause = (refl, refl)

-- and the component in it reads back
pub sent_back : (c : Component) → Writable c → (first : ℕ)
    → (required register_type (drop 2 (register first (component_octets c))) ≡ took (component_octets c) (0x7F ∷ 0x01 ∷ 0x00 ∷ []))
    × (required facility_type (drop 2 (facility_message first (component_octets c))) ≡ took (component_octets c) [])
    × (first_whole 0x1C (drop 2 (release_facility first (component_octets c))) ≡ some (component_octets c))
    × (facility (component_octets c) ≡ shows c)
sent_back c h first = (register-found first (component_octets c), facility-found first (component_octets c), release-found first (component_octets c), read_back c h)
