-- The cases hold, by computation.
use mathlib.Core.Path.{refl}
use native.Mathlib.Omega.{arith}
use Rattle.sides.specs.Side.{among as sides-among, full as sides-full, operation_of as sides-operationOf, without as sides-without, side_of as sides-sideOf, side_octets as sides-sideOctets, sound_side as sides-soundSide}
use Rattle.codes.specs.Errors.{listed as codes-listed}
use Rattle.components.specs.Written.{contents as components-contents}
use Rattle.components.specs.Component.{invoke_of as components-invokeOf, result_of as components-resultOf, error_of as components-errorOf, reject_of as components-rejectOf}
use Rattle.components.specs.Facility.{after_tag as components-afterTag, component as components-component, inside as components-inside, facility as components-facility}
use Rattle.deciding.specs.Steps.{step_six as deciding-stepSix, five_and_six as deciding-fiveAndSix, four_to_six as deciding-fourToSix, on_release as deciding-onRelease, picked_entry as deciding-pickedEntry, reply_first as deciding-replyFirst, decide as deciding-decide}
use Rattle.elements.specs.Element.{length_of as elements-lengthOf, element as elements-element, row_of as elements-rowOf, row as elements-row, shortest as elements-shortest}
use Rattle.judging.specs.StepSix.{linked_problem as judging-linkedProblem, judge_invoke as judging-judgeInvoke, is_ours as judging-isOurs, judge_result as judging-judgeResult, judge_error as judging-judgeError}
use Rattle.messages.specs.Layout.{sized as messages-sized, mandatory as messages-mandatory, release_facility as messages-releaseFacility}
use Rattle.messages.specs.Scan.{information as messages-information, clear_of as messages-clearOf, clear as messages-clear, required as messages-required, first_of as messages-firstOf, first_taken as messages-firstTaken}
use Rattle.octets.specs.Splice.{splice as octets-splice}
use Rattle.parameters.specs.Suits.{suits_invoke_received as parameters-suitsInvokeReceived, suits_result_received as parameters-suitsResultReceived, suits as parameters-suits}
use Rattle.parameters.specs.Parameter.{string as parameters-string, text as parameters-text, ussd_contents as parameters-ussdContents, ussd as parameters-ussd, ss_for_bs_contents as parameters-ssForBsContents}
use Rattle.places.specs.Places.{single as places-single, parameter as places-parameter, invoke_places as places-called, coded as places-coded, rejected as places-rejected}
use Rattle.table.specs.Table.{entry_of as table-entryOf, sound_image as table-soundImage, entry_at as table-entryAt, sound_entries as table-soundEntries, valid as table-valid, state_of as table-stateOf, entry_octets as table-entryOctets, with_entry as table-withEntry}
use Rattle.table.specs.Change.{changed as table-changed, with_change as table-withChange}
use Rattle.telephone.specs.Receive.{act as telephone-act, receive as telephone-receive}
use Rattle.records.specs.Records.{one_record as records-oneRecord, messages_by as records-messagesBy, messages_in as records-messagesIn}
use Rattle.telephone.specs.History.{outcomes as telephone-outcomes, table_after as telephone-tableAfter}
use Rattle.telephone.specs.Batch.{fed as telephone-fed, slots_of as telephone-slotsOf, to_feed as telephone-toFeed, batch as telephone-batch}
use Rattle.promises.specs.Worked.{fresh}
use Rattle.promises.specs.MorningCases.{lent_out, w1_and_w3, MorningCases}
use Rattle.promises.proofs.Morning.{one_by_one}

pub morning-cases : MorningCases
unfolding codes-listed components-contents components-invokeOf components-resultOf components-errorOf components-rejectOf components-afterTag components-component components-inside components-facility deciding-stepSix deciding-fiveAndSix deciding-fourToSix deciding-onRelease deciding-pickedEntry deciding-replyFirst deciding-decide elements-lengthOf elements-element elements-rowOf elements-row elements-shortest sides-among sides-full sides-operationOf sides-without judging-linkedProblem judging-judgeInvoke judging-isOurs judging-judgeResult judging-judgeError messages-sized messages-mandatory messages-releaseFacility messages-information messages-clearOf messages-clear messages-required messages-firstOf messages-firstTaken octets-splice parameters-suitsInvokeReceived parameters-suitsResultReceived parameters-suits parameters-string parameters-text parameters-ussdContents parameters-ussd parameters-ssForBsContents places-single places-parameter places-called places-coded places-rejected sides-sideOf sides-sideOctets sides-soundSide table-changed table-withChange table-entryOf table-soundImage table-entryAt table-soundEntries table-valid table-stateOf table-entryOctets table-withEntry telephone-act telephone-receive records-oneRecord records-messagesBy records-messagesIn telephone-outcomes telephone-tableAfter telephone-fed telephone-slotsOf telephone-toFeed telephone-batch
morning-cases = (refl, (refl, (refl, (refl, (refl, (refl, (refl, (refl, (refl, (refl, (refl, one_by_one fresh (lent_out 28) w1_and_w3 refl ((omega arith, omega arith), ((omega arith, omega arith), tt)) (omega arith, (omega arith, tt)) (omega arith))))))))))))
