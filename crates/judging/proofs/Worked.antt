-- Worked cases of step 6, as one claim, by computation: READINGS, and B14 to B21 of [5].
use Prim.Native.Nat.{ℕ}
use mathlib.Core.Path.{◌≡◌, refl}
use mathlib.Core.List.{List, [], ◌∷◌}
use mathlib.Core.Bool.{true}
use mathlib.Core.Option.{none, some}
use lib.IntN.{pos}
use Rattle.elements.specs.Element.{length_of, element, row_of, row}
use Rattle.codes.specs.Errors.{listed, errors_of, may_return}
use Rattle.parameters.specs.Parameter.{string, text, ussd_contents, ussd, ss_for_bs_contents}
use Rattle.parameters.specs.Suits.{suits_invoke_received, suits_result_received, suits}
use Rattle.sides.specs.Side.{Waiting, among, full, operation_of}
use Rattle.table.specs.Table.{Entry}
use Rattle.table.specs.Change.{ours, peers, opens, adds, clears}
use Rattle.judging.specs.StepSix.{problem, accepted, linked_problem, judge_invoke, is_ours, judge_result, judge_error}

abbrev waiting : ℕ → ℕ → Waiting
waiting id operation = record { id = pos id; operation = operation }

-- the entries of the readings: open, w1, own59, own17, own10, both17, owns2, owns3, peers3, peers4
abbrev holding : List Waiting → List Waiting → Entry
holding own peer = record { is_open = true; own = own; peer = peer }

abbrev open1 : Entry
open1 = holding [] []

abbrev w1 : Entry
w1 = holding [] (waiting 5 60 ∷ [])

abbrev owns : ℕ → Entry
owns operation = holding (waiting 1 operation ∷ []) []

abbrev both17 : Entry
both17 = holding (waiting 1 17 ∷ []) (waiting 7 18 ∷ [])

abbrev owns2 : Entry
owns2 = holding (waiting 1 59 ∷ waiting 2 17 ∷ []) []

abbrev owns3 : Entry
owns3 = holding (waiting 1 17 ∷ waiting 2 59 ∷ waiting 3 11 ∷ []) []

abbrev peers3 : Entry
peers3 = holding [] (waiting 5 60 ∷ waiting 6 18 ∷ waiting 7 61 ∷ [])

abbrev peers4 : Entry
peers4 = holding [] (waiting 5 60 ∷ waiting 6 18 ∷ waiting 7 61 ∷ waiting 8 60 ∷ [])

abbrev menu : List ℕ
menu = 0x30 ∷ 0x06 ∷ 0x04 ∷ 0x01 ∷ 0x0F ∷ 0x04 ∷ 0x01 ∷ 0x41 ∷ []

abbrev guidance : List ℕ
guidance = 0x0A ∷ 0x01 ∷ 0x00 ∷ []

pub worked :
    -- a duplicate of any that waits; ids of ours are apart
    (judge_invoke w1 (pos 5) none 60 menu ≡ problem 0x81 0)
    × (judge_invoke both17 (pos 7) none 99 [] ≡ problem 0x81 0)
    × (judge_invoke peers4 (pos 7) none 38 [] ≡ problem 0x81 0)
    × (judge_invoke (owns 17) (pos 1) none 18 guidance ≡ accepted (adds peers (pos 1) 18))
    -- four waiting, whatever the operation; not three, and not four of ours
    × (judge_invoke peers4 (pos 9) none 60 menu ≡ problem 0x81 3)
    × (judge_invoke peers4 (pos 9) none 38 [] ≡ problem 0x81 3)
    × (judge_invoke peers4 (pos 9) none 99 [] ≡ problem 0x81 3)
    × (judge_invoke peers3 (pos 9) none 60 menu ≡ accepted (adds peers (pos 9) 60))
    × (judge_invoke peers3 (pos 9) none 38 [] ≡ accepted opens)
    × (judge_invoke both17 (pos 9) none 38 [] ≡ accepted opens)
    × (judge_invoke both17 (pos 9) none 99 [] ≡ problem 0x81 1)
    -- an operation not served comes before the linked id
    × (judge_invoke open1 (pos 7) (some (pos 99)) 99 [] ≡ problem 0x81 1)
    × (judge_invoke open1 (pos 7) none 19 [] ≡ problem 0x81 1)
    -- linked ids: 5, 6, 7, 2 in order; none at all is fine
    × (judge_invoke open1 (pos 7) (some (pos 0)) 18 guidance ≡ problem 0x81 5)
    × (judge_invoke (owns 59) (pos 7) (some (pos 1)) 60 [] ≡ problem 0x81 6)
    × (judge_invoke (owns 17) (pos 7) (some (pos 1)) 60 [] ≡ problem 0x81 7)
    × (judge_invoke (owns 17) (pos 7) (some (pos 1)) 38 [] ≡ problem 0x81 7)
    × (judge_invoke (owns 59) (pos 7) none 18 guidance ≡ accepted (adds peers (pos 7) 18))
    × (judge_invoke open1 (pos 7) none 18 guidance ≡ accepted (adds peers (pos 7) 18))
    -- among all of ours, by the operation of the place found
    × (judge_invoke owns2 (pos 9) (some (pos 2)) 18 guidance ≡ accepted (adds peers (pos 9) 18))
    × (judge_invoke owns2 (pos 9) (some (pos 1)) 18 guidance ≡ problem 0x81 6)
    × (judge_invoke owns3 (pos 9) (some (pos 0)) 18 guidance ≡ problem 0x81 5)
    -- the parameter; 38 is never outstanding
    × (judge_invoke open1 (pos 7) none 60 [] ≡ problem 0x81 2)
    × (judge_invoke open1 (pos 7) none 38 (0x05 ∷ 0x00 ∷ []) ≡ problem 0x81 2)
    × (judge_invoke open1 (pos 0) none 38 [] ≡ accepted opens)
    × (judge_invoke open1 (pos 5) none 60 menu ≡ accepted (adds peers (pos 5) 60))
    -- results: the id, the operation told, the parameter, each by the place found
    × (judge_result open1 (pos 0) none [] ≡ problem 0x82 0)
    × (judge_result both17 (pos 7) none [] ≡ problem 0x82 0)
    × (judge_result (owns 17) (pos 1) none [] ≡ problem 0x82 2)
    × (judge_result (owns 59) (pos 1) (some 60) [] ≡ problem 0x82 2)
    × (judge_result (owns 59) (pos 1) (some 59) [] ≡ accepted (clears ours (pos 1)))
    × (judge_result (owns 10) (pos 1) (some 10) (0x10 ∷ 0x00 ∷ []) ≡ accepted (clears ours (pos 1)))
    × (judge_result owns3 (pos 2) (some 59) menu ≡ accepted (clears ours (pos 2)))
    × (judge_result owns3 (pos 3) (some 59) menu ≡ problem 0x82 2)
    -- errors: the id, the code, the list of the operation that waits under the id
    × (judge_error open1 (pos 0) 1 ≡ problem 0x83 0)
    × (judge_error (owns 11) (pos 2) 72 ≡ problem 0x83 0)
    × (judge_error (owns 11) (pos 1) 2 ≡ problem 0x83 2)
    × (judge_error (owns 11) (pos 1) 72 ≡ problem 0x83 3)
    × (judge_error (owns 10) (pos 1) 71 ≡ problem 0x83 3)
    × (judge_error (owns 59) (pos 1) 72 ≡ problem 0x83 3)
    × (judge_error (owns 59) (pos 1) 71 ≡ accepted (clears ours (pos 1)))
    × (judge_error both17 (pos 1) 37 ≡ accepted (clears ours (pos 1)))
    × (judge_error owns3 (pos 2) 37 ≡ problem 0x83 3)
    × (judge_error owns3 (pos 1) 34 ≡ accepted (clears ours (pos 1)))
unfolding length_of element row_of row listed errors_of may_return string text ussd_contents ussd ss_for_bs_contents suits_invoke_received suits_result_received suits among full operation_of linked_problem judge_invoke is_ours judge_result judge_error
worked = (refl, refl, refl, refl, refl, refl, refl, refl, refl, refl, refl, refl, refl, refl, refl, refl, refl, refl, refl, refl, refl, refl, refl, refl, refl, refl, refl, refl, refl, refl, refl, refl, refl, refl, refl, refl, refl, refl, refl, refl, refl, refl, refl, refl)
