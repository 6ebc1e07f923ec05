-- How long a string that is shown is.
use Prim.Native.Nat.{ℕ, ◌≤◌}
use mathlib.Core.Path.{◌≡◌, refl, ◌∙◌}
use mathlib.Core.Bool.{true, false≢true}
use mathlib.Core.Option.{Option, none, some}
use lib.ListN.{length}
use Rattle.octets.specs.Reader.{Taken}
use Rattle.parameters.specs.Parameter.{Text}
use Rattle.parameters.proofs.SizeLaws.{ussd-size}
use Rattle.components.specs.Component.{parameter_of}
use Rattle.components.specs.Shows.{Shows}
use Rattle.components.specs.Texts.{text_of}
use Rattle.showing.specs.Views.{text_view, text_in, standing}
use Rattle.telephone.specs.Receive.{receive}
use Rattle.telephone.specs.Stands.{text_shown, string_of}
use Rattle.telephone.specs.Strings.{StringsShown}
use Rattle.telephone.proofs.Shown.{nothing-shown, text-is}
use Rattle.telephone.proofs.Stands.{stands}

pub shown-size : (s : Shows) (g : Taken Text) → text_shown s ≡ some g → (1 ≤ length g.value.string) × (length g.value.string ≤ 160)
shown-size none g e = nothing-shown e
shown-size (some w) g e = ussd-size (parameter_of w.component) g (text-is w.component g e).1

-- a text that C is told of is shown
text-told : (n : ℕ) (s : Shows) → (text_view n s).is_there ≡ true → (g : Taken Text) × (text_shown s ≡ some g)
unfolding text_view
text-told n none e = absurd (false≢true e)
text-told n (some w) e = go (text_of w.component) e
  where
    go : (o : Option (Taken Text)) → (text_in n w.behind o).is_there ≡ true → (g : Taken Text) × (o ≡ some g)
    go none e = absurd (false≢true e)
    go (some g) e = (g, refl)

pub strings-shown : StringsShown
strings-shown t m b r e there =
    let s = (receive t m b).shown in
    let f = text-told (length m) s (rw e at there) in
    let k : string_of (text_shown s) ≡ f.0.value.string = rw f.1 refl in
    let i : standing m r.text.string ≡ f.0.value.string = rw e ((stands t m b).string ∙ k) in
    rw i (shown-size s f.0 f.1)
