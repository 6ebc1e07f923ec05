-- Later editions piece by piece, and the messages that show a text, by computation.
use mathlib.Core.Path.{refl}
use mathlib.Core.List.{[], ◌∷◌, ◌++◌}
use Rattle.components.specs.LaterEdition.{in_invoke, in_result}
use Rattle.messages.specs.LaterEdition.{nothing}
use Rattle.sides.specs.Side.{among as sides-among, full as sides-full, operation_of as sides-operationOf, without as sides-without, side_of as sides-sideOf, side_octets as sides-sideOctets, sound_side as sides-soundSide}
use Rattle.promises.specs.LaterEdition.{in_register, in_facility, in_release}
use Rattle.promises.specs.Editions.{appended, later_parameter, string120, Instances, Editions}
use Rattle.calling.specs.Calls.{transaction as calling-transaction, fitting as calling-fitting, send_begin as calling-begin, send_result as calling-sendResult}
use Rattle.codes.specs.Errors.{listed as codes-listed}
use Rattle.components.specs.Written.{contents as components-contents, result_for as components-answer}
use Rattle.components.specs.Component.{invoke_of as components-invokeOf, result_of as components-resultOf, error_of as components-errorOf, reject_of as components-rejectOf}
use Rattle.components.specs.Facility.{after_tag as components-afterTag, component as components-component, inside as components-inside, facility as components-facility}
use Rattle.deciding.specs.Steps.{step_six as deciding-stepSix, five_and_six as deciding-fiveAndSix, four_to_six as deciding-fourToSix, on_release as deciding-onRelease, picked_entry as deciding-pickedEntry, reply_first as deciding-replyFirst, decide as deciding-decide}
use Rattle.elements.specs.Element.{length_of as elements-lengthOf, element as elements-element, row_of as elements-rowOf, row as elements-row, shortest as elements-shortest}
use Rattle.judging.specs.StepSix.{linked_problem as judging-linkedProblem, judge_invoke as judging-judgeInvoke, is_ours as judging-isOurs, judge_result as judging-judgeResult, judge_error as judging-judgeError}
use Rattle.messages.specs.Layout.{sized as messages-sized, mandatory as messages-mandatory, register as messages-register, facility_message as messages-facilityMessage, release_facility as messages-releaseFacility}
use Rattle.messages.specs.Scan.{information as messages-information, clear_of as messages-clearOf, clear as messages-clear, required as messages-required, first_of as messages-firstOf, first_taken as messages-firstTaken}
use Rattle.octets.specs.Splice.{splice as octets-splice}
use Rattle.parameters.specs.Suits.{suits_invoke_received as parameters-suitsInvokeReceived, suits_result_received as parameters-suitsResultReceived, suits_invoke_written as parameters-suitsInvokeWritten, suits_result_written as parameters-suitsResultWritten, suits as parameters-suits}
use Rattle.parameters.specs.Parameter.{string as parameters-string, text as parameters-text, ussd_contents as parameters-ussdContents, ussd as parameters-ussd, ss_for_bs_contents as parameters-ssForBsContents}
use Rattle.places.specs.Places.{single as places-single, parameter as places-parameter, invoke_places as places-called, coded as places-coded, rejected as places-rejected}
use Rattle.components.specs.Texts.{text_of as components-textOf}
use Rattle.table.specs.Table.{entry_of as table-entryOf, sound_image as table-soundImage, entry_at as table-entryAt, sound_entries as table-soundEntries, valid as table-valid, state_of as table-stateOf, entry_octets as table-entryOctets, with_entry as table-withEntry, lowest_from as table-lowestFrom, lowest_closed as table-lowestClosed}
use Rattle.table.specs.Change.{changed as table-changed, with_change as table-withChange}
use Rattle.telephone.specs.Receive.{act as telephone-act, receive as telephone-receive}
use Rattle.telephone.specs.Calls.{begin as telephone-begin, result as telephone-result}
use Rattle.showing.specs.Views.{component_view as showing-componentView, text_view as showing-textView, cause_view as showing-causeView}

instances : Instances
unfolding calling-transaction calling-fitting calling-begin calling-sendResult codes-listed components-contents components-answer components-invokeOf components-resultOf components-errorOf components-rejectOf components-afterTag components-component components-inside components-facility deciding-stepSix deciding-fiveAndSix deciding-fourToSix deciding-onRelease deciding-pickedEntry deciding-replyFirst deciding-decide elements-lengthOf elements-element elements-rowOf elements-row elements-shortest sides-among sides-full sides-operationOf sides-without judging-linkedProblem judging-judgeInvoke judging-isOurs judging-judgeResult judging-judgeError messages-sized messages-mandatory messages-register messages-facilityMessage messages-releaseFacility messages-information messages-clearOf messages-clear messages-required messages-firstOf messages-firstTaken octets-splice parameters-suitsInvokeReceived parameters-suitsResultReceived parameters-suitsInvokeWritten parameters-suitsResultWritten parameters-suits parameters-string parameters-text parameters-ussdContents parameters-ussd parameters-ssForBsContents places-single places-parameter places-called places-coded places-rejected components-textOf sides-sideOf sides-sideOctets sides-soundSide table-changed table-withChange table-entryOf table-soundImage table-entryAt table-soundEntries table-valid table-stateOf table-entryOctets table-withEntry table-lowestFrom table-lowestClosed telephone-act telephone-receive telephone-begin telephone-result showing-componentView showing-textView showing-causeView
instances = (
  record { behind = []; shown = refl; text = refl },
  (record { behind = []; shown = refl; text = refl }, (record { behind = []; shown = refl; text = refl }, record { behind = []; shown = refl; text = refl })),
)

pub editions : Editions
unfolding elements-lengthOf elements-element elements-shortest places-single
editions = (
  record {
    parameter = later_parameter;
    becomes = record { contents = 0x04 ∷ 0x01 ∷ 0x0F ∷ 0x04 ∷ 0x01 ∷ 0x41 ∷ []; was = record { form = 0x06 ∷ []; reads = refl; is = refl }; becomes = refl };
    around = in_register 0x0B (in_invoke (0x02 ∷ 0x01 ∷ 0x05 ∷ 0x02 ∷ 0x01 ∷ 0x3C ∷ []) (record { form = 0x0E ∷ []; reads = refl; is = refl })) [];
  },
  (
    record {
      parameter = later_parameter;
      becomes = record { contents = 0x04 ∷ 0x01 ∷ 0x0F ∷ 0x04 ∷ 0x01 ∷ 0x41 ∷ []; was = record { form = 0x06 ∷ []; reads = refl; is = refl }; becomes = refl };
      around = in_facility 0x0B (in_invoke (0x02 ∷ 0x01 ∷ 0x07 ∷ 0x02 ∷ 0x01 ∷ 0x3D ∷ []) (record { form = 0x0E ∷ []; reads = refl; is = refl })) [];
    },
    (
      record {
        parameter = later_parameter;
        becomes = record { contents = 0x04 ∷ 0x01 ∷ 0x0F ∷ 0x04 ∷ 0x01 ∷ 0x41 ∷ []; was = record { form = 0x06 ∷ []; reads = refl; is = refl }; becomes = refl };
        around =
            in_release 0x8B nothing
            (in_result (0x02 ∷ 0x01 ∷ 0x01 ∷ []) 0x01 (0x02 ∷ 0x01 ∷ 0x3B ∷ []) (0x30 ∷ 0x0B ∷ 0x02 ∷ 0x01 ∷ 0x3B ∷ 0x30 ∷ 0x06 ∷ 0x04 ∷ 0x01 ∷ 0x0F ∷ 0x04 ∷ 0x01 ∷ 0x41 ∷ []) refl
            (record { form = 0x0B ∷ []; reads = refl; is = refl }) (record { form = 0x10 ∷ []; reads = refl; is = refl }))
            [];
      },
      (
        record {
          parameter = 0x30 ∷ 0x81 ∷ 0x80 ∷ 0x04 ∷ 0x01 ∷ 0x0F ∷ 0x04 ∷ 0x78 ∷ (string120 ++ appended);
          becomes = record { contents = 0x04 ∷ 0x01 ∷ 0x0F ∷ 0x04 ∷ 0x78 ∷ string120; was = record { form = 0x7D ∷ []; reads = refl; is = refl }; becomes = refl };
          around = in_register 0x0B (in_invoke (0x02 ∷ 0x01 ∷ 0x05 ∷ 0x02 ∷ 0x01 ∷ 0x3C ∷ []) (record { form = 0x81 ∷ 0x85 ∷ []; reads = refl; is = refl })) [];
        },
        (refl, (refl, instances)),
      ),
    ),
  ),
)
