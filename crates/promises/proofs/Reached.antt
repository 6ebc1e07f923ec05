-- What reaches step 6 is decided by it.
use Prim.Native.Nat.{ℕ}
use mathlib.Core.Path.{◌≡◌, ap, ◌∙◌}
use mathlib.Core.List.{List}
use mathlib.Core.Bool.{true, false}
use lib.ListN.{length, drop}
use lib.Dec.{leb, eqb}
use borrow.Author.Tests.{leb-true, le-leb, lt-leb, ltb-true, eqb-false, eq-eqb, ne_eqb}
use Rattle.components.specs.Component.{Component}
use Rattle.messages.specs.Layout.{discriminator, value}
use Rattle.messages.specs.Scan.{first_taken}
use Rattle.sides.specs.Side.{Waiting, full}
use Rattle.table.specs.Table.{entry_at, valid}
use Rattle.deciding.specs.Decision.{Decision, released, shown_by}
use Rattle.deciding.specs.Steps.{first_octet, picked_entry, except_invoke, step_six, five_and_six, four_to_six, on_release, decide}
use Rattle.deciding.proofs.StepLaws.{on_type, GoesOn, further, decide-further}
use Rattle.telephone.specs.Receive.{act, receive}
use Rattle.promises.specs.Reaches.{fewer_than_four, Arrives, Passes, in_register, in_facility, ReachesStepSix, ReachesInRelease}

module _ (t m b : List ℕ) where
  -- a message that is given octet by octet arrives by computation
  pub arrives : valid t ≡ true → leb 12 (length b) ≡ true → leb (length m) 255 ≡ true → leb 2 (length m) ≡ true → discriminator (first_octet m) ≡ 11 → eqb (value (first_octet m)) 7 ≡ false
      → Arrives t m b
  arrives i r x l d v = record { image = i; room = leb-true _ _ r; most = leb-true _ _ x; least = leb-true _ _ l; protocol = d; transaction = eqb-false _ _ v }

  tests : Arrives t m b → GoesOn t (length b) m
  tests a =
      record {
        table = a.image;
        room = le-leb 12 (length b) a.room;
        most = le-leb (length m) 255 a.most;
        least = le-leb 2 (length m) a.least;
        protocol = eq-eqb (discriminator (first_octet m)) 11 a.protocol;
        transaction = ne_eqb (value (first_octet m)) 7 a.transaction;
      }

  passes_on : (type : ℕ) → Passes t m type → further t m ≡ four_to_six (entry_at t (picked_entry m)) type (drop 2 m)
  unfolding on_type
  passes_on type (in_register a f o) = rw (a, f, o)
  passes_on type (in_facility a o) = rw (a, o)

  module _ (c : Component) where
    pub reached : (r : ReachesStepSix t m b c) → decide t m (length b) ≡ step_six (entry_at t (picked_entry m)) c r.behind
    unfolding four_to_six five_and_six
    reached r = decide-further t m (length b) (tests r.arrives) ∙ passes_on r.type r.passes ∙ rw (r.facility_read, r.component_read)

    pub released-at : (r : ReachesInRelease t m b c)
        → decide t m (length b) ≡ released (except_invoke (shown_by (step_six (entry_at t (picked_entry m)) c r.behind))) (first_taken 0x08 (drop 2 m))
    unfolding on_type on_release five_and_six
    released-at r = decide-further t m (length b) (tests r.arrives) ∙ rw (r.is_release, r.is_open, r.facility_read, r.component_read)

-- what step 6 makes of a component is what the message gets; a release shows what step 6 shows, but no Invoke
pub fares : (t m b : List ℕ) (c : Component) (d : List ℕ → Decision) → ((r : List ℕ) → step_six (entry_at t (picked_entry m)) c r ≡ d r)
    → ((r : ReachesStepSix t m b c) → receive t m b ≡ act t m b (d r.behind))
    × ((r : ReachesInRelease t m b c) → receive t m b ≡ act t m b (released (except_invoke (shown_by (d r.behind))) (first_taken 0x08 (drop 2 m))))
unfolding receive
fares t m b c d j = (
  λ r. ap (act t m b) (reached t m b c r ∙ j r.behind),
  λ r. ap (act t m b) (released-at t m b c r ∙ ap (λ (x : Decision). released (except_invoke (shown_by x)) (first_taken 0x08 (drop 2 m))) (j r.behind)),
)

-- fewer than four leave a place
pub room-left : (ws : List Waiting) → fewer_than_four ws ≡ true → full ws ≡ false
unfolding full
room-left ws h = lt-leb 4 (length ws) (ltb-true (length ws) 4 h)
