-- The contracts leave one answer: two that say the same of a part, and lie within it, are equal.
use Prim.Native.Nat.{ℕ}
use mathlib.Core.Path.{◌≡◌, refl, sym, ap, ◌∙◌}
use mathlib.Core.Bool.{cond}
use mathlib.Core.Option.{Option, none, some}
use lib.Dec.{eqb}
use mathlib.Core.List.{List}
use native.Mathlib.Omega.{arith}
use lib.ListN.{length, length-take, length-drop}
use Rattle.octets.specs.Reader.{Taken}
use Rattle.octets.proofs.ReaderLaws.{sound-inj}
use Rattle.messages.specs.Scan.{Information}
use Rattle.messages.specs.Seen.{item_seen, ItemWithin}
use Rattle.messages.specs.declared.scan.Item.{Item}
use Rattle.messages.specs.declared.scan.Ending.{Ending}
use Rattle.std.specs.Prelude.{Result, Ok, Err}
use Rattle.messages.specs.Layout.{release_type, facility_type}
use Rattle.messages.specs.Types.{number_of}
use Rattle.messages.specs.declared.layout.MessageType.{MessageType}
use Rattle.messages.specs.declared.layout.MessageType.TheVariants.{ReleaseComplete, Facility, Register, Unknown}

pub item-determined : (s : List ℕ) (r q : Result Item Ending) → ItemWithin s r → ItemWithin s q → item_seen s r ≡ item_seen s q → r ≡ q
item-determined s (Err Ending.End) (Err Ending.End) a b e = refl
item-determined s (Err Ending.End) (Err Ending.Cut) a b e = absurd (omega arith)
item-determined s (Err Ending.End) (Ok i) a b e = cc
item-determined s (Err Ending.Cut) (Err Ending.End) a b e = absurd (omega arith)
item-determined s (Err Ending.Cut) (Err Ending.Cut) a b e = refl
item-determined s (Err Ending.Cut) (Ok i) a b e = cc
item-determined s (Ok i) (Err Ending.End) a b e = cc
item-determined s (Ok i) (Err Ending.Cut) a b e = cc
item-determined s (Ok i) (Ok j) a b e =
    let g = sound-inj e in
    let x : i.end ≡ j.end = omega (arith, simp length-drop at (ap (λ (h : Taken Information). length h.rest) g)) in
    let y : i.start ≡ j.start = omega (arith, simp (length-take, length-drop) at (ap (λ (h : Taken Information). length h.value.contents) g)) in
    λ n. Ok (record { identifier = (g n).value.identifier; start = y n; end = x n })

-- a type is told by its number
abbrev back : Option ℕ → MessageType
back none = Unknown
back (some n) = cond (eqb n release_type) ReleaseComplete (cond (eqb n facility_type) Facility Register)

back_is : (t : MessageType) → back (number_of t) ≡ t
back_is ReleaseComplete = refl
back_is Facility = refl
back_is Register = refl
back_is Unknown = refl

pub type-determined : (r q : MessageType) → number_of r ≡ number_of q → r ≡ q
type-determined r q e = sym (back_is r) ∙ ap back e ∙ back_is q
