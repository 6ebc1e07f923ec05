-- What is felt is what was sent.
use Prim.Native.Nat.{ℕ, ◌≤◌}
use mathlib.Core.Path.{◌≡◌, refl, sym, ap, ◌∙◌}
use mathlib.Core.List.{List, [], ◌∷◌, ◌++◌}
use native.Mathlib.Omega.{arith}
use mathlib.Core.Option.{none, some}
use lib.ListN.{length}
use Rattle.octets.specs.Reader.{Taken}
use Rattle.parameters.specs.Parameter.{Text}
use Rattle.components.specs.Component.{Component}
use Rattle.components.specs.Shows.{Shows}
use Rattle.showing.specs.Views.{text_view}
use Rattle.telephone.specs.Receive.{receive}
use Rattle.telephone.specs.Stands.{text_shown, string_of}
use Rattle.telephone.proofs.Shown.{nothing-shown}
use Rattle.telephone.proofs.Stands.{stands}
use Rattle.telephone.proofs.Strings.{shown-size, strings-shown}
use Rattle.cells.specs.Characters.{string_text}
use Rattle.cells.specs.Cells.{laid_out, cells}
use Rattle.cells.proofs.PackingLaws.{are-the-bits, back-as-sent}
use Rattle.cells.proofs.BrokenLaws.{as-asked, no_other, at-most-forty, give-back}
use Rattle.cells.proofs.Worked.{worked-texts}
use Rattle.cells.proofs.RoomLaws.{room_for, room-enough, read-in-c}
use Rattle.promises.specs.LaterEdition.{ShowsText}
use Rattle.promises.specs.Worked.{fresh, buffer, w1, w2}
use Rattle.promises.specs.Felt.{felt, AsSent, LaterFeltTheSame, W1Felt, Felt}
use Rattle.promises.proofs.CannotAlter.{cannot-alter}
use Rattle.promises.proofs.Worked.{worked}

-- of a text that is shown C gets its scheme
scheme-told : (n : ℕ) (s : Shows) (g : Taken Text) → text_shown s ≡ some g → (text_view n s).scheme ≡ g.value.scheme
unfolding text_view
scheme-told n none g e = nothing-shown e
scheme-told n (some w) g e = rw e refl

-- and at its place stand the octets of its string
felt-is : (t m b : List ℕ) (g : Taken Text) → text_shown (receive t m b).shown ≡ some g → (text lines : List ℕ)
    → felt t m b text lines ≡ cells g.value.scheme g.value.string text lines
felt-is t m b g e text lines =
    let k : string_of (text_shown (receive t m b).shown) ≡ g.value.string = rw e refl in
    rw (scheme-told (length m) (receive t m b).shown g e, (stands t m b).string, k) refl

text-shown : (t m b : List ℕ) (c : Component) (g : Taken Text) → ShowsText t m b c g → text_shown (receive t m b).shown ≡ some g
text-shown t m b c g w = rw w.shown w.text

pub as-sent : AsSent
unfolding string_text
as-sent t b m s c g w scheme h packs text lines p q =
    let e = text-shown t m b c g w in
    felt-is t m b g e text lines
    ∙ room_for g.value.scheme g.value.string text lines scheme (shown-size (receive t m b).shown g e).1 p q
    ∙ rw (packs, back-as-sent s h) refl

pub later-felt : LaterFeltTheSame
later-felt t b m m' x c g w r l n text lines =
    let k = cannot-alter t b m m' x c g w r l n in
    felt-is t m' b (record { value = g.value; rest = g.rest ++ x }) (rw k.shown k.text) text lines
    ∙ sym (felt-is t m b g (text-shown t m b c g w) text lines)

-- a message that shows the string 41
shows-a : (m rest text lines : List ℕ) → text_shown (receive fresh m buffer).shown ≡ some (record { value = record { scheme = 0x0F; string = 0x41 ∷ [] }; rest = rest })
    → 182 ≤ length text → 18 ≤ length lines → felt fresh m buffer text lines ≡ laid_out (0x41 ∷ []) text lines
shows-a m rest text lines e p q =
    felt-is fresh m buffer (record { value = record { scheme = 0x0F; string = 0x41 ∷ [] }; rest = rest }) e text lines
    ∙ room_for 0x0F (0x41 ∷ []) text lines refl (omega arith) p q
    ∙ ap (λ s. laid_out s text lines) worked-texts.0

pub w1-felt : W1Felt
w1-felt text lines p q = (shows-a w1 [] text lines worked.0.1.1.0 p q, shows-a w2 (0x04 ∷ 0x01 ∷ 0x02 ∷ []) text lines worked.1.0.1.1.0 p q)

pub felt-holds : Felt
felt-holds = (as-sent, (later-felt, (w1-felt, (strings-shown, (room-enough, (read-in-c, (back-as-sent, (are-the-bits, (as-asked, (no_other, (at-most-forty, give-back)))))))))))
