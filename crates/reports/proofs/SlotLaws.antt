-- The lines of a batch's slots: one slot more, and none.
use Prim.Native.Nat.{ℕ, ◌+◌, ◌*◌, ◌-◌, ◌≤◌}
use mathlib.Core.Path.{◌≡◌, refl, sym, ap, ◌∙◌}
use mathlib.Core.List.{List, [], ◌++◌}
use native.Mathlib.Numerals.{add-one}
use native.Mathlib.Omega.{arith}
use lib.ListN.{length, take, drop, length-drop}
use lib.Seq.{take-length}
use Rattle.printing.proofs.PageLaws.{piece}
use Rattle.reports.specs.Slots.{slot_text, slot_lines}

pub slot_more : (page start after rest : List ℕ) (left next : ℕ) → left ≡ next + 1 → after ≡ page ++ slot_text rest → page ++ slot_lines left rest ≡ start → 14 * left ≤ length rest
    → (after ++ slot_lines next (take (length rest - 14) (drop 14 rest)) ≡ start) × (14 * next ≤ length (take (length rest - 14) (drop 14 rest)))
unfolding slot_lines
slot_more page start after rest left next e f h l =
    let n = length-drop 14 rest in
    let u : take (length rest - 14) (drop 14 rest) ≡ drop 14 rest = ap (λ (k : ℕ). take k (drop 14 rest)) (sym n) ∙ take-length (drop 14 rest) in
    let t : slot_lines left rest ≡ slot_text rest ++ slot_lines next (drop 14 rest) = rw (e, add-one next) refl in
    (rw u (piece page (slot_lines left rest) (slot_text rest) (slot_lines next (drop 14 rest)) after t f ∙ h), rw (u, n) (omega arith))

pub no_slot : (n : ℕ) (s : List ℕ) → n ≡ 0 → slot_lines n s ≡ []
unfolding slot_lines
no_slot n s e = rw e refl
