-- The request's story: what is refused and what is shown by the theorem, what is written by computation.
use Prim.Native.Nat.{ℕ}
use mathlib.Core.Path.{refl, sym, subst}
use mathlib.Core.List.{[]}
use mathlib.Core.Bool.{false≢true}
use mathlib.Core.Option.{some}
use lib.IntN.{pos}
use borrow.Author.Tests.{leb-true}
use Rattle.octets.specs.Splice.{splice}
use Rattle.elements.specs.Element.{length_of, element, shortest}
use Rattle.parameters.specs.Parameter.{are_digits}
use Rattle.parameters.specs.Suits.{suits_invoke_written, suits_result_written, suits}
use Rattle.places.specs.Places.{single, parameter, coded}
use Rattle.components.specs.Component.{result, result_of}
use Rattle.components.specs.Facility.{after_tag, component, inside, facility}
use Rattle.components.specs.Written.{contents, result_for}
use Rattle.messages.specs.Layout.{sized, mandatory, facility_type, register, facility_message, release_facility}
use Rattle.messages.specs.Scan.{information, clear_of, clear, required, first_of, first_taken}
use Rattle.sides.specs.Side.{among, operation_of, without, side_of, sound_side}
use Rattle.table.specs.Table.{entry_of, sound_image, entry_at, sound_entries, valid, lowest_from, lowest_closed, state_of}
use Rattle.deciding.specs.Steps.{picked_entry, reply_first}
use Rattle.calling.specs.Calls.{transaction, fitting, send_begin, send_result}
use Rattle.telephone.specs.Calls.{begin, result as calls-result}
use Rattle.promises.specs.Reaches.{in_facility, ReachesStepSix, ReachesInRelease}
use Rattle.promises.specs.Passwords.{FourDigits, AsksPassword}
use Rattle.promises.specs.Worked.{buffer, Answers}
use Rattle.promises.specs.PasswordCases.{peer18, own17, spaces, password, result_value, result_with, end_with, PasswordCases}
use Rattle.promises.proofs.FourDigits.{is-password}
use Rattle.promises.proofs.WrittenDigits.{others-are-not-written}
use Rattle.promises.proofs.ShownDigits.{others-are-not-shown, digits-are-shown}
use Rattle.promises.proofs.Reached.{arrives}

spaces-are-none : FourDigits spaces → ⊥
unfolding length_of element
spaces-are-none f = false≢true (is-password spaces f)

space-is-none : FourDigits (password 0x20) → ⊥
unfolding length_of element
space-is-none f = false≢true (is-password (password 0x20) f)

digits-are-four : FourDigits (password 0x34)
unfolding length_of element
digits-are-four =
    record {
      first = 0x30;
      second = 0x39;
      third = 0x31;
      fourth = 0x34;
      is = refl;
      digits = ((leb-true 48 48 refl, leb-true 48 57 refl), ((leb-true 48 57 refl, leb-true 57 57 refl), ((leb-true 48 49 refl, leb-true 49 57 refl), (leb-true 48 52 refl, leb-true 52 57 refl))));
    }

asks : AsksPassword peer18 0 0 (pos 5)
unfolding entry_of sound_image side_of state_of sound_side entry_at sound_entries valid among operation_of
asks = record { image = refl; entry = 7; names = refl; is_open = refl; waits = refl; operation = refl }

module _ (octet : ℕ) where
  unfoldable facility-reaches : ReachesStepSix own17 (result_with octet) buffer (result (pos 1) (some 17) (password octet))
  unfolding entry_of sound_image side_of state_of sound_side among entry_at sound_entries valid picked_entry length_of element single parameter coded result_of after_tag component inside facility sized mandatory clear_of clear required
  facility-reaches =
      record {
        arrives = arrives own17 (result_with octet) buffer refl refl refl refl refl refl;
        type = facility_type;
        passes = in_facility refl refl;
        facility_value = result_value octet;
        behind = [];
        facility_read = refl;
        component_read = refl;
      }

  unfoldable end-reaches : ReachesInRelease own17 (end_with octet) buffer (result (pos 1) (some 17) (password octet))
  unfolding entry_of sound_image side_of state_of sound_side among entry_at sound_entries valid picked_entry length_of element single parameter coded result_of after_tag component inside facility information first_of first_taken
  end-reaches =
      record {
        arrives = arrives own17 (end_with octet) buffer refl refl refl refl refl refl;
        is_release = refl;
        is_open = refl;
        facility_value = result_value octet;
        behind = [];
        facility_read = refl;
        component_read = refl;
      }

pub password-cases : PasswordCases
unfolding calls-result begin send_result send_begin transaction fitting suits suits_invoke_written suits_result_written length_of element entry_of sound_image side_of state_of sound_side entry_at sound_entries valid lowest_from lowest_closed among operation_of without picked_entry reply_first shortest register facility_message release_facility contents result_for splice facility-reaches end-reaches
password-cases = (
  others-are-not-written peer18 buffer spaces 0 0 (pos 5) asks spaces-are-none,
  (
    others-are-not-written peer18 [] (password 0x20) 0 0 (pos 5) asks space-is-none,
    (
      (refl, refl),
      (
        subst (Answers 3 _) (sym ((others-are-not-shown own17 (result_with 0x20) buffer (pos 1) (some 17) (password 0x20) (refl, refl) space-is-none).0 (facility-reaches 0x20))) (refl, refl),
        (
          (others-are-not-shown own17 (end_with 0x20) buffer (pos 1) (some 17) (password 0x20) (refl, refl) space-is-none).1 (end-reaches 0x20),
          (
            (digits-are-shown own17 (result_with 0x34) buffer (pos 1) (password 0x34) (refl, refl) digits-are-four).0 (facility-reaches 0x34),
            ((digits-are-shown own17 (end_with 0x34) buffer (pos 1) (password 0x34) (refl, refl) digits-are-four).1 (end-reaches 0x34), (refl, refl)),
          ),
        ),
      ),
    ),
  ),
)
