-- The contracts leave one answer: two that keep the same promise are equal.
use Rattle.std.proofs.Common.{ℕ, ◌≡◌, refl, sym, ap, ◌∙◌, List, arith, Option, None, Some}
use Rattle.octets.specs.OneAnswer.{OneAnswer}
use Rattle.words.specs.Hex.{digit_seen, DigitWithin, ReadsDigit, ReadsHex}
use Rattle.words.specs.Numbers.{ReadsNumber, ReadsSigned}
use Rattle.words.specs.declared.hex.Row.{Row}

-- 16 stands for none, and no digit has that value
seen_once : (r q : Option ℕ) → DigitWithin r → DigitWithin q → digit_seen r ≡ digit_seen q → r ≡ q
seen_once None None u v e = refl
seen_once None (Some d) u v e = absurd (omega arith)
seen_once (Some d) None u v e = absurd (omega arith)
seen_once (Some d) (Some f) u v e = ap Some e

pub digit-determined : (c : ℕ) → OneAnswer (ReadsDigit c)
digit-determined c r q a b = seen_once r q a.1 b.1 (a.0 ∙ sym b.0)

pub number-determined : (most : ℕ) (word : List ℕ) → OneAnswer (ReadsNumber most word)
number-determined most word r q a b = a.0 ∙ sym b.0

pub signed-determined : (word : List ℕ) → OneAnswer (ReadsSigned word)
signed-determined word r q a b = a.0 ∙ sym b.0

-- the answer is the row with the buffer as it is left
pub hex-determined : (text buffer : List ℕ) → OneAnswer (λ (left : Row × List ℕ). ReadsHex text buffer left.1 left.0)
hex-determined text buffer r q a b =
    λ i. (record { count = (a.0 ∙ sym b.0) i; ends = (a.1.0 ∙ sym b.1.0) i }, (a.1.1.0 ∙ sym b.1.1.0) i)
