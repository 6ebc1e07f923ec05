-- The request's story, by the theorem and not by computing the answers.
use Prim.Native.Nat.{ℕ}
use mathlib.Core.Path.{◌≡◌, refl, sym, subst}
use mathlib.Core.List.{List, [], ◌∷◌}
use mathlib.Core.Bool.{true}
use lib.IntN.{pos}
use Rattle.octets.specs.Splice.{splice}
use Rattle.elements.specs.Element.{length_of, element, shortest}
use Rattle.codes.specs.Errors.{listed, errors_of}
use Rattle.places.specs.Places.{single, parameter, coded}
use Rattle.components.specs.Component.{error, error_of}
use Rattle.components.specs.Facility.{after_tag, component, inside, facility}
use Rattle.components.specs.Written.{contents}
use Rattle.messages.specs.Layout.{sized, mandatory, facility_type, release_facility}
use Rattle.messages.specs.Scan.{information, clear_of, clear, required, first_of, first_taken}
use Rattle.sides.specs.Side.{among, operation_of, without, side_of, sound_side}
use Rattle.table.specs.Table.{entry_of, sound_image, entry_at, sound_entries, valid, state_of}
use Rattle.deciding.specs.Steps.{picked_entry, reply_first}
use Rattle.promises.specs.Reaches.{in_facility, ReachesStepSix, ReachesInRelease}
use Rattle.promises.specs.Worked.{buffer, Answers}
use Rattle.promises.specs.Editions.{own59}
use Rattle.promises.specs.ErrorCases.{own11, error_with, end_with, ErrorCases}
use Rattle.promises.proofs.ErrorLists.{others-are-refused, its-own-are-shown}
use Rattle.promises.proofs.Reached.{arrives}

module _ (t : List ℕ) (image : valid t ≡ true) (is_open : (entry_at t 0).is_open ≡ true) (code : ℕ) where
  unfoldable facility-reaches : ReachesStepSix t (error_with code) buffer (error (pos 1) code [])
  unfolding picked_entry length_of element single parameter coded error_of after_tag component inside facility sized mandatory clear_of clear required
  facility-reaches =
      record {
        arrives = arrives t (error_with code) buffer image refl refl refl refl refl;
        type = facility_type;
        passes = in_facility refl is_open;
        facility_value = 0xA3 ∷ 0x06 ∷ 0x02 ∷ 0x01 ∷ 0x01 ∷ 0x02 ∷ 0x01 ∷ code ∷ [];
        behind = [];
        facility_read = refl;
        component_read = refl;
      }

  unfoldable end-reaches : ReachesInRelease t (end_with code) buffer (error (pos 1) code [])
  unfolding picked_entry length_of element single parameter coded error_of after_tag component inside facility information first_of first_taken
  end-reaches =
      record {
        arrives = arrives t (end_with code) buffer image refl refl refl refl refl;
        is_release = refl;
        is_open = is_open;
        facility_value = 0xA3 ∷ 0x06 ∷ 0x02 ∷ 0x01 ∷ 0x01 ∷ 0x02 ∷ 0x01 ∷ code ∷ [];
        behind = [];
        facility_read = refl;
        component_read = refl;
      }

pub error-cases : ErrorCases
unfolding listed errors_of entry_of sound_image side_of state_of sound_side entry_at sound_entries valid among operation_of without picked_entry reply_first shortest release_facility contents splice facility-reaches end-reaches
error-cases = (
  subst (Answers 3 _) (sym ((others-are-refused own11 (error_with 72) buffer (pos 1) 72 [] refl refl refl).0 (facility-reaches own11 refl refl 72))) (refl, refl),
  (
    (others-are-refused own11 (end_with 72) buffer (pos 1) 72 [] refl refl refl).1 (end-reaches own11 refl refl 72),
    (
      (its-own-are-shown own59 (error_with 71) buffer (pos 1) 71 [] refl refl).0 (facility-reaches own59 refl refl 71),
      (its-own-are-shown own59 (end_with 71) buffer (pos 1) 71 [] refl refl).1 (end-reaches own59 refl refl 71),
    ),
  ),
)
