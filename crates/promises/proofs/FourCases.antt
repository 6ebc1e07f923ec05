-- The cases of [5]: by computation, and as instances of what is promised.
use mathlib.Core.Path.{refl}
use mathlib.Core.List.{[]}
use mathlib.Core.Option.{none, some}
use lib.IntN.{pos}
use Rattle.components.specs.Component.{invoke, result}
use Rattle.messages.specs.Layout.{facility_type}
use Rattle.sides.specs.Side.{among as sides-among, full as sides-full, operation_of as sides-operationOf, without as sides-without, side_of as sides-sideOf, side_octets as sides-sideOctets, sound_side as sides-soundSide}
use Rattle.calling.specs.Calls.{send_invoke as calling-sendInvoke, transaction as calling-transaction, fitting as calling-fitting, send_begin as calling-begin, send_result as calling-sendResult}
use Rattle.codes.specs.Errors.{listed as codes-listed, errors_of as codes-errorsOf, may_return as codes-mayReturn}
use Rattle.components.specs.Written.{contents as components-contents, result_for as components-answer}
use Rattle.components.specs.Component.{invoke_of as components-invokeOf, result_of as components-resultOf, error_of as components-errorOf, reject_of as components-rejectOf}
use Rattle.components.specs.Facility.{after_tag as components-afterTag, component as components-component, inside as components-inside, facility as components-facility}
use Rattle.deciding.specs.Steps.{step_six as deciding-stepSix, five_and_six as deciding-fiveAndSix, four_to_six as deciding-fourToSix, on_release as deciding-onRelease, picked_entry as deciding-pickedEntry, reply_first as deciding-replyFirst, decide as deciding-decide}
use Rattle.elements.specs.Element.{length_of as elements-lengthOf, element as elements-element, row_of as elements-rowOf, row as elements-row, shortest as elements-shortest}
use Rattle.judging.specs.StepSix.{linked_problem as judging-linkedProblem, judge_invoke as judging-judgeInvoke, is_ours as judging-isOurs, judge_result as judging-judgeResult, judge_error as judging-judgeError}
use Rattle.messages.specs.Layout.{sized as messages-sized, mandatory as messages-mandatory, register as messages-register, facility_message as messages-facilityMessage, release_facility as messages-releaseFacility}
use Rattle.messages.specs.Scan.{information as messages-information, clear_of as messages-clearOf, clear as messages-clear, required as messages-required, first_of as messages-firstOf, first_taken as messages-firstTaken}
use Rattle.octets.specs.Splice.{splice as octets-splice}
use Rattle.parameters.specs.Suits.{suits_invoke_received as parameters-suitsInvokeReceived, suits_result_received as parameters-suitsResultReceived, suits_invoke_written as parameters-suitsInvokeWritten, suits_result_written as parameters-suitsResultWritten, suits as parameters-suits}
use Rattle.parameters.specs.Parameter.{string as parameters-string, text as parameters-text, ussd_contents as parameters-ussdContents, ussd as parameters-ussd, ss_for_bs_contents as parameters-ssForBsContents}
use Rattle.places.specs.Places.{single as places-single, parameter as places-parameter, invoke_places as places-called, coded as places-coded, rejected as places-rejected}
use Rattle.components.specs.Texts.{text_of as components-textOf}
use Rattle.table.specs.Table.{entry_of as table-entryOf, sound_image as table-soundImage, entry_at as table-entryAt, sound_entries as table-soundEntries, valid as table-valid, state_of as table-stateOf, entry_octets as table-entryOctets, with_entry as table-withEntry, lowest_from as table-lowestFrom, lowest_closed as table-lowestClosed}
use Rattle.table.specs.Change.{changed as table-changed, with_change as table-withChange}
use Rattle.telephone.specs.Receive.{act as telephone-act, receive as telephone-receive}
use Rattle.telephone.specs.Calls.{invoke_within as telephone-invokeWithin, begin as telephone-begin, result as telephone-result}
use Rattle.showing.specs.Views.{component_view as showing-componentView, text_view as showing-textView, cause_view as showing-causeView}
use Rattle.promises.specs.Reaches.{in_facility, ReachesStepSix}
use Rattle.promises.specs.Worked.{buffer, w1_parameter}
use Rattle.promises.specs.Editions.{open_table}
use Rattle.promises.specs.FourCases.{peers3, owns3, owns2nd, menu_value, menu9, result_value, result2, FourCases}
use Rattle.promises.proofs.Reached.{arrives}
use Rattle.promises.proofs.Apart.{invokes-apart, answers-apart}

menu-reaches : ReachesStepSix peers3 menu9 buffer (invoke (pos 9) none 60 w1_parameter)
unfolding calling-transaction calling-fitting calling-begin calling-sendResult codes-listed components-contents components-answer components-invokeOf components-resultOf components-errorOf components-rejectOf components-afterTag components-component components-inside components-facility deciding-stepSix deciding-fiveAndSix deciding-fourToSix deciding-onRelease deciding-pickedEntry deciding-replyFirst deciding-decide elements-lengthOf elements-element elements-rowOf elements-row elements-shortest sides-among sides-full sides-operationOf sides-without judging-linkedProblem judging-judgeInvoke judging-isOurs judging-judgeResult judging-judgeError messages-sized messages-mandatory messages-register messages-facilityMessage messages-releaseFacility messages-information messages-clearOf messages-clear messages-required messages-firstOf messages-firstTaken octets-splice parameters-suitsInvokeReceived parameters-suitsResultReceived parameters-suitsInvokeWritten parameters-suitsResultWritten parameters-suits parameters-string parameters-text parameters-ussdContents parameters-ussd parameters-ssForBsContents places-single places-parameter places-called places-coded places-rejected components-textOf sides-sideOf sides-sideOctets sides-soundSide table-changed table-withChange table-entryOf table-soundImage table-entryAt table-soundEntries table-valid table-stateOf table-entryOctets table-withEntry table-lowestFrom table-lowestClosed telephone-act telephone-receive telephone-begin telephone-result showing-componentView showing-textView showing-causeView
menu-reaches =
    record {
      arrives = arrives peers3 menu9 buffer refl refl refl refl refl refl;
      type = facility_type;
      passes = in_facility refl refl;
      facility_value = menu_value;
      behind = [];
      facility_read = refl;
      component_read = refl;
    }

result-reaches : ReachesStepSix owns3 result2 buffer (result (pos 2) (some 59) w1_parameter)
unfolding calling-transaction calling-fitting calling-begin calling-sendResult codes-listed components-contents components-answer components-invokeOf components-resultOf components-errorOf components-rejectOf components-afterTag components-component components-inside components-facility deciding-stepSix deciding-fiveAndSix deciding-fourToSix deciding-onRelease deciding-pickedEntry deciding-replyFirst deciding-decide elements-lengthOf elements-element elements-rowOf elements-row elements-shortest sides-among sides-full sides-operationOf sides-without judging-linkedProblem judging-judgeInvoke judging-isOurs judging-judgeResult judging-judgeError messages-sized messages-mandatory messages-register messages-facilityMessage messages-releaseFacility messages-information messages-clearOf messages-clear messages-required messages-firstOf messages-firstTaken octets-splice parameters-suitsInvokeReceived parameters-suitsResultReceived parameters-suitsInvokeWritten parameters-suitsResultWritten parameters-suits parameters-string parameters-text parameters-ussdContents parameters-ussd parameters-ssForBsContents places-single places-parameter places-called places-coded places-rejected components-textOf sides-sideOf sides-sideOctets sides-soundSide table-changed table-withChange table-entryOf table-soundImage table-entryAt table-soundEntries table-valid table-stateOf table-entryOctets table-withEntry table-lowestFrom table-lowestClosed telephone-act telephone-receive telephone-begin telephone-result showing-componentView showing-textView showing-causeView
result-reaches =
    record {
      arrives = arrives owns3 result2 buffer refl refl refl refl refl refl;
      type = facility_type;
      passes = in_facility refl refl;
      facility_value = result_value;
      behind = [];
      facility_read = refl;
      component_read = refl;
    }

pub four-cases : FourCases
unfolding calling-transaction calling-fitting calling-begin calling-sendResult codes-listed components-contents components-answer components-invokeOf components-resultOf components-errorOf components-rejectOf components-afterTag components-component components-inside components-facility deciding-stepSix deciding-fiveAndSix deciding-fourToSix deciding-onRelease deciding-pickedEntry deciding-replyFirst deciding-decide elements-lengthOf elements-element elements-rowOf elements-row elements-shortest sides-among sides-full sides-operationOf sides-without judging-linkedProblem judging-judgeInvoke judging-isOurs judging-judgeResult judging-judgeError messages-sized messages-mandatory messages-register messages-facilityMessage messages-releaseFacility messages-information messages-clearOf messages-clear messages-required messages-firstOf messages-firstTaken octets-splice parameters-suitsInvokeReceived parameters-suitsResultReceived parameters-suitsInvokeWritten parameters-suitsResultWritten parameters-suits parameters-string parameters-text parameters-ussdContents parameters-ussd parameters-ssForBsContents places-single places-parameter places-called places-coded places-rejected components-textOf sides-sideOf sides-sideOctets sides-soundSide table-changed table-withChange table-entryOf table-soundImage table-entryAt table-soundEntries table-valid table-stateOf table-entryOctets table-withEntry table-lowestFrom table-lowestClosed telephone-act telephone-receive telephone-begin telephone-result showing-componentView showing-textView showing-causeView calling-sendInvoke telephone-invokeWithin codes-errorsOf codes-mayReturn
four-cases = (
  (invokes-apart peers3 open_table menu9 buffer (pos 9) none 60 w1_parameter (refl, refl) refl refl refl refl).0 menu-reaches,
  (
    refl,
    (
      (refl, refl),
      (((answers-apart owns3 owns2nd result2 buffer (pos 2) (refl, refl) refl).0 (some 59) w1_parameter).0 result-reaches, (refl, (refl, (refl, refl)))),
    ),
  ),
)
