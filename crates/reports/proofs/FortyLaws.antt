-- No line of an answer is longer than forty characters.
use Prim.Native.Nat.{ℕ, zero, suc, ◌≤◌}
use mathlib.Core.Path.{◌≡◌, refl}
use mathlib.Core.List.{List, [], ◌∷◌, ◌++◌}
use mathlib.Core.Bool.{Bool, true, false, cond, not, ◌&&◌}
use native.Mathlib.Omega.{arith}
use lib.ListN.{length, take, drop, get_or}
use lib.IntN.{ℤ}
use lib.Dec.{eqb, ltb}
use borrow.Author.Tests.{eqb-true, eqb-false}
use Rattle.printing.specs.Lines.{when, octets_line, number_line, id_line, problem_line}
use Rattle.printing.specs.Forty.{forty_from, forty, plain}
use Rattle.printing.proofs.FortyLaws.{forty-append, forty-when, number-forty, id-forty, problem-forty, octets-forty}
use Rattle.components.specs.Component.{invoke_tag, result_tag, error_tag, reject_tag}
use Rattle.showing.specs.declared.ComponentView.{ComponentView}
use Rattle.showing.specs.declared.TextView.{TextView}
use Rattle.showing.specs.declared.CauseView.{CauseView}
use Rattle.telephone.specs.declared.receive.Received.{Received}
use Rattle.telephone.specs.declared.calls.Called.{Called}
use Rattle.telephone.specs.declared.batch.Batched.{Batched}
use Rattle.reports.specs.Words.{invoke_word, result_word, error_word, reject_word, reject_none, linked_word, operation_word, code_word, parameter_word, scheme_word, string_word, tail_word, cause_word, reply_word, message_word, value_word, slots_word, done_line, refused_line, verdict_line, done_or_refused}
use Rattle.showing.specs.Views.{standing}
use Rattle.reports.specs.Shown.{kind_lines, number_lines, parameter_line, cell_lines, text_lines, cause_line, written_line, received_text, called_text}
use Rattle.reports.specs.Slots.{slot_text, slot_lines, batched_text}
use Rattle.reports.proofs.FeltLaws.{cells-forty}
use Rattle.reports.proofs.VerdictLaws.{refused_none, verdict-none}

-- by cases on a test
tested : {P : Type 0} (code n : ℕ) → (code ≡ n → P) → ((code ≡ n → ⊥) → P) → P
tested {P} code n f g = go (eqb code n) refl
  where
    go : (b : Bool) → eqb code n ≡ b → P
    go true e = f (eqb-true code n e)
    go false e = g (eqb-false code n e)

pub refused-forty : (code : ℕ) → forty (refused_line code) ≡ true
unfolding refused_line forty forty_from
refused-forty code =
    tested code 20 (λ e. rw e refl) λ h0.
    tested code 21 (λ e. rw e refl) λ h1.
    tested code 22 (λ e. rw e refl) λ h2.
    tested code 23 (λ e. rw e refl) λ h3.
    tested code 24 (λ e. rw e refl) λ h4.
    tested code 25 (λ e. rw e refl) λ h5.
    tested code 26 (λ e. rw e refl) λ h6.
    tested code 27 (λ e. rw e refl) λ h7.
    tested code 28 (λ e. rw e refl) λ h8.
    tested code 30 (λ e. rw e refl) λ h9.
    tested code 31 (λ e. rw e refl) λ h10.
    rw (refused_none code h0 h1 h2 h3 h4 h5 h6 h7 h8 h9 h10) refl

pub verdict-forty : (code : ℕ) → forty (verdict_line code) ≡ true
unfolding verdict_line forty forty_from
verdict-forty code =
    tested code 0 (λ e. rw e refl) λ h0.
    tested code 1 (λ e. rw e refl) λ h1.
    tested code 2 (λ e. rw e refl) λ h2.
    tested code 3 (λ e. rw e refl) λ h3.
    tested code 4 (λ e. rw e refl) λ h4.
    tested code 5 (λ e. rw e refl) λ h5.
    tested code 6 (λ e. rw e refl) λ h6.
    tested code 7 (λ e. rw e refl) λ h7.
    rw (verdict-none code h0 h1 h2 h3 h4 h5 h6 h7) (refused-forty code)

pub done-forty : (code : ℕ) → forty (done_or_refused code) ≡ true
unfolding done_or_refused forty forty_from
done-forty code = go (eqb code 0)
  where
    go : (b : Bool) → forty (cond b done_line (refused_line code)) ≡ true
    go true = refl
    go false = refused-forty code

-- texts in a row, and lines that may be left out
id-there : (there : Bool) (word : List ℕ) (id : ℤ) → plain word ≡ true → length word ≤ 16 → forty (when there (id_line word id)) ≡ true
id-there there word id h l = forty-when there (id_line word id) (id-forty word id h l)

number-there : (there : Bool) (word : List ℕ) (n : ℕ) → plain word ≡ true → length word ≤ 16 → forty (when there (number_line word n)) ≡ true
number-there there word n h l = forty-when there (number_line word n) (number-forty word n h l)

octets-there : (there : Bool) (word s : List ℕ) → plain word ≡ true → length word ≤ 16 → forty (when there (octets_line word s)) ≡ true
octets-there there word s h l = forty-when there (octets_line word s) (octets-forty word s h l)

line-end : forty (10 ∷ []) ≡ true
unfolding forty forty_from
line-end = refl

none-forty : forty reject_none ≡ true
unfolding forty forty_from
none-forty = refl

kind-forty : (v : ComponentView) → forty (kind_lines v) ≡ true
unfolding kind_lines plain
kind-forty v =
    forty-append _ _ (forty-append _ _ (forty-append _ _ (forty-append _ _
    (id-there (eqb v.kind invoke_tag) invoke_word v.id refl (omega arith))
    (id-there (eqb v.kind result_tag) result_word v.id refl (omega arith)))
    (id-there (eqb v.kind error_tag) error_word v.id refl (omega arith)))
    (id-there (eqb v.kind reject_tag && v.has_id) reject_word v.id refl (omega arith)))
    (forty-when (eqb v.kind reject_tag && not v.has_id) reject_none none-forty)

numbers-forty : (v : ComponentView) → forty (number_lines v) ≡ true
unfolding number_lines plain
numbers-forty v =
    forty-append _ _ (forty-append _ _ (forty-append _ _
    (id-there v.has_linked linked_word v.linked refl (omega arith))
    (number-there v.has_operation operation_word v.operation refl (omega arith)))
    (number-there (eqb v.kind error_tag) code_word v.code refl (omega arith)))
    (forty-when (eqb v.kind reject_tag) (problem_line v.tag v.problem) (problem-forty v.tag v.problem))

parameter-forty : (m : List ℕ) (v : ComponentView) → forty (parameter_line m v) ≡ true
unfolding parameter_line plain
parameter-forty m v = octets-there (ltb v.parameter.start v.parameter.end) parameter_word (standing m v.parameter) refl (omega arith)

text-forty : (m : List ℕ) (t : TextView) → forty (text_lines m t) ≡ true
unfolding text_lines plain
text-forty m t =
    forty-append _ _ (forty-append _ _ (forty-append _ _
    (octets-there t.is_there scheme_word (t.scheme ∷ []) refl (omega arith))
    (octets-there t.is_there string_word (standing m t.string) refl (omega arith)))
    (forty-when t.is_there (cell_lines t.scheme (standing m t.string)) (cells-forty t.scheme (standing m t.string))))
    (octets-there t.is_there tail_word (standing m t.tail) refl (omega arith))

cause-forty : (m : List ℕ) (c : CauseView) → forty (cause_line m c) ≡ true
unfolding cause_line plain
cause-forty m c = octets-there c.is_there cause_word (standing m c.contents) refl (omega arith)

written-forty : (word : List ℕ) (written : ℕ) (buffer : List ℕ) → plain word ≡ true → length word ≤ 16 → forty (written_line word written buffer) ≡ true
unfolding written_line
written-forty word written buffer h l = octets-there (ltb 0 written) word (take written buffer) h l

pub received-forty : (m reply : List ℕ) (r : Received) → forty (received_text m reply r) ≡ true
unfolding received_text plain
received-forty m reply r =
    forty-append _ _ (forty-append _ _ (forty-append _ _ (forty-append _ _ (forty-append _ _ (forty-append _ _ (forty-append _ _
    (verdict-forty r.code)
    (kind-forty r.shown))
    (numbers-forty r.shown))
    (parameter-forty m r.shown))
    (text-forty m r.text))
    (cause-forty m r.cause))
    (written-forty reply_word r.written reply refl (omega arith)))
    line-end

pub called-forty : (begins : Bool) (buffer : List ℕ) (c : Called) → forty (called_text begins buffer c) ≡ true
unfolding called_text plain
called-forty begins buffer c =
    forty-append _ _ (forty-append _ _ (forty-append _ _
    (done-forty c.code)
    (number-there (begins && eqb c.code 0) value_word c.value refl (omega arith)))
    (written-forty message_word c.written buffer refl (omega arith)))
    line-end

slot-forty : (s : List ℕ) → forty (slot_text s) ≡ true
unfolding slot_text plain
slot-forty s = forty-append _ _ (verdict-forty (get_or s 0 0)) (written-forty reply_word (get_or s 1 0) (take 12 (drop 2 s)) refl (omega arith))

slots-forty : (n : ℕ) (s : List ℕ) → forty (slot_lines n s) ≡ true
unfolding slot_lines forty forty_from
slots-forty zero s = refl
slots-forty (suc n) s = forty-append (slot_text s) (slot_lines n (drop 14 s)) (slot-forty s) (slots-forty n (drop 14 s))

pub batched-forty : (output : List ℕ) (b : Batched) → forty (batched_text output b) ≡ true
unfolding batched_text plain
batched-forty output b =
    forty-append _ _ (forty-append _ _
    (done-forty b.code)
    (forty-when (eqb b.code 0) (number_line slots_word b.slots ++ slot_lines b.slots output)
    (forty-append _ _ (number-forty slots_word b.slots refl (omega arith)) (slots-forty b.slots output))))
    line-end
