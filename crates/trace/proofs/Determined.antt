-- The contracts leave one answer: two that say the same of the octets are equal.
use Rattle.std.specs.Prelude.{Option, None, Some, Result, Ok, Err, ⊤, Bool}
use Rattle.std.proofs.Common.{◌≡◌, ℕ, ◌-◌, List, length, sym, refl, ap, ◌∙◌, arith, length-drop}
use Rattle.octets.specs.Reader.{Taken}
use Rattle.octets.proofs.ReaderLaws.{sound-inj}
use Rattle.trace.specs.Records.{Record}
use Rattle.trace.specs.Faults.{number_of, code_of, fault_named}
use Rattle.trace.specs.Seen.{record_seen, RecordWithin, answer_of}
use Rattle.trace.specs.declared.Traced.{Traced}
use Rattle.trace.specs.declared.faults.Fault.{Fault}
use Rattle.trace.specs.declared.reading.Found.{Found}
use Rattle.trace.proofs.FaultLaws.{fault_back, not_0}

pub found-determined : (s : List ℕ) (r q : Option Found) → RecordWithin s r → RecordWithin s q → record_seen s r ≡ record_seen s q → r ≡ q
found-determined s None None a b e = refl
found-determined s None (Some k) a b e = cc
found-determined s (Some r) None a b e = cc
found-determined s (Some r) (Some k) a b e =
    let g = sound-inj e in
    let v : r.direction ≡ k.direction = ap (λ (t : Taken Record). t.value.direction) g in
    let h = a.1.1 in
    let i = b.1.1 in
    let l : length s - r.end ≡ length s - k.end = sym (length-drop r.end s) ∙ ap (λ (t : Taken Record). length t.rest) g ∙ length-drop k.end s in
    let w : r.end ≡ k.end = omega arith in
    λ j. Some (record { direction = v j; end = w j })

-- no two faults have one number, and none has 0
number-determined : (f g : Fault) → number_of f ≡ number_of g → f ≡ g
number-determined f g e = sym (fault_back f) ∙ ap fault_named e ∙ fault_back g

pub fault-determined : (r q : Result ⊤ Fault) → code_of r ≡ code_of q → r ≡ q
fault-determined (Ok a) (Ok b) e = refl
fault-determined (Ok a) (Err g) e = absurd (not_0 g (sym e))
fault-determined (Err f) (Ok b) e = absurd (not_0 f e)
fault-determined (Err f) (Err g) e = ap Err (number-determined f g e)

pub answer-determined : (r q : Result Bool Fault) → answer_of r ≡ answer_of q → r ≡ q
answer-determined (Ok a) (Ok b) e = ap (λ (t : Traced). Ok t.added) e
answer-determined (Ok a) (Err g) e = absurd (not_0 g (sym (ap (λ (t : Traced). t.code) e)))
answer-determined (Err f) (Ok b) e = absurd (not_0 f (ap (λ (t : Traced). t.code) e))
answer-determined (Err f) (Err g) e = ap Err (number-determined f g (ap (λ (t : Traced). t.code) e))
