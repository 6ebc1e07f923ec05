-- What a type that was told says of its octet.
use Prim.Native.Nat.{ℕ}
use mathlib.Core.Path.{◌≡◌, refl, sym}
use mathlib.Core.Bool.{Bool, true, false, cond, ◌||◌, false≢true}
use mathlib.Core.Option.{none, some}
use native.Mathlib.Omega.{arith}
use lib.Dec.{eqb}
use Rattle.messages.specs.Layout.{release_type, facility_type, register_type}
use Rattle.messages.specs.Types.{is_known, TellsType}
use Rattle.messages.specs.declared.layout.MessageType.{MessageType}
use Rattle.messages.specs.declared.layout.MessageType.TheVariants.{ReleaseComplete, Facility, Register, Unknown}

told-number : (octet n : ℕ) (b : Bool) → some n ≡ cond b (some octet) none → octet ≡ n
told-number octet n true e = cc
told-number octet n false e = let z : ◌≡◌ {A = ℕ} 0 1 = cc in absurd (omega arith)

told_none : (octet : ℕ) (b : Bool) → none ≡ cond b (some octet) none → b ≡ false
told_none octet true e = let z : ◌≡◌ {A = ℕ} 0 1 = cc in absurd (omega arith)
told_none octet false e = refl

-- the octet is the type's number; that of an unknown one is no type's
abbrev pub IsType : ℕ → MessageType → Type 0
IsType octet ReleaseComplete = octet ≡ release_type
IsType octet Facility = octet ≡ facility_type
IsType octet Register = octet ≡ register_type
IsType octet Unknown = is_known octet ≡ false

pub is-type : (octet : ℕ) (t : MessageType) → TellsType octet t → IsType octet t
is-type octet ReleaseComplete e = told-number octet release_type (is_known octet) e
is-type octet Facility e = told-number octet facility_type (is_known octet) e
is-type octet Register e = told-number octet register_type (is_known octet) e
is-type octet Unknown e = told_none octet (is_known octet) e

-- an unknown type is none of the three
pub unknown : (n : ℕ) → is_known n ≡ false → (eqb n release_type ≡ false) × (eqb n facility_type ≡ false) × (eqb n register_type ≡ false)
unknown n h = go (eqb n release_type) (eqb n facility_type) (eqb n register_type) h
  where
    go : (a b c : Bool) → (a || b || c) ≡ false → (a ≡ false) × (b ≡ false) × (c ≡ false)
    go true b c e = absurd (false≢true (sym e))
    go false true c e = absurd (false≢true (sym e))
    go false false c e = (refl, refl, e)
