-- A message past 255 octets is refused as too long, from a table and a reply buffer with which any component is shown.
use Prim.Native.Nat.{ℕ, ◌<◌}
use mathlib.Core.Path.{◌≡◌, ap, ◌∙◌}
use mathlib.Core.List.{List}
use lib.ListN.{length}
use borrow.Author.Tests.{lt-leb}
use Rattle.deciding.specs.Decision.{Decision, silent}
use Rattle.deciding.specs.Steps.{decide}
use Rattle.telephone.specs.Receive.{act, receive}
use Rattle.telephone.proofs.OutcomeLaws.{silent-untouched}
use Rattle.promises.specs.LaterEdition.{PastIsTooLong}
use Rattle.deciding.proofs.StepLaws.{GoesOn}
use Rattle.telephone.proofs.Shown.{receive-shows}

decide-long : (t m n : List ℕ) (room : ℕ) → GoesOn t room m → 255 < length n → decide t n room ≡ silent 6
unfolding decide
decide-long t m n room h l = rw (h.table, h.room, lt-leb (length n) 255 l)

pub past-is-too-long : PastIsTooLong
unfolding receive
past-is-too-long t b m n c g s l =
    ap (λ (d : Decision). act t n b d) (decide-long t m n (length b) (receive-shows t m b _ s.shown).0 l)
    ∙ silent-untouched t n b 6
