-- Every line has at most forty characters.
use Prim.Native.Nat.{ℕ, zero, suc, ◌+◌, ◌*◌, ◌/◌, ◌%◌, ◌≤◌, ◌<◌}
use mathlib.Core.Path.{◌≡◌, refl}
use mathlib.Core.List.{List, [], ◌∷◌, ◌++◌}
use mathlib.Core.Bool.{Bool, true, false, cond}
use native.Mathlib.Omega.{arith}
use lib.ListN.{length, length-append}
use lib.Dec.{eqb, ltb}
use borrow.Author.Tests.{lt-ltb}
use Rattle.octets.specs.Reader.{Answer, fault, sound}
use Rattle.octets.proofs.FaultLaws.{Faults}
use Rattle.printing.specs.Numbers.{decimal_by, decimal}
use Rattle.printing.specs.Lines.{octets_line}
use Rattle.printing.specs.Forty.{forty, forty_from, plain}
use Rattle.printing.proofs.FortyLaws.{forty-append, plain-line, plain-append, twenty, octets-forty}
use Rattle.trace.specs.Records.{Record}
use Rattle.trace.proofs.FaultLaws.{at-faults}
use Rattle.trace.specs.Blocks.{records_at}
use Rattle.trace.specs.Salvage.{Listed, dropped, renumbered36, short}
use Rattle.trace_lines.specs.Shown.{received, sent, four_line, block_word, refused_word, record_line, record_lines, refused_line, text_by, block_text, bad_line}
use Rattle.trace_lines.specs.Listed.{number_word, place_word, dropped_word, renumbered_word, listed_line}

-- a number below a power of ten has no more digits
abbrev tens : ℕ → ℕ
tens zero = 1
tens (suc k) = 10 * tens k

digits : (k j n : ℕ) → n < tens (suc k) → length (decimal_by j n) ≤ suc k
unfolding decimal_by
digits k zero n h = omega arith
digits zero (suc j) n h = rw (lt-ltb n 10 h) (omega arith)
digits (suc k) (suc j) n h = go (ltb n 10) (digits k j (n / 10) (tenth n (tens (suc k)) h))
  where
    tenth : (n p : ℕ) → n < 10 * p → n / 10 < p
    tenth n p h = omega arith

    go : (b : Bool) → length (decimal_by j (n / 10)) ≤ suc k → length (cond b ((48 + n) ∷ []) (decimal_by j (n / 10) ++ ((48 + n % 10) ∷ []))) ≤ suc (suc k)
    go true i = omega arith
    go false i = let l = length-append (decimal_by j (n / 10)) ((48 + n % 10) ∷ []) in rw l (omega arith)

-- two words and two numbers, the second below a hundred
four-forty : (first second : List ℕ) (n k width : ℕ) → plain first ≡ true → plain second ≡ true → length (decimal n) ≤ width → k < 100
    → length first + width + length second ≤ 38 → forty (four_line first n second k) ≡ true
unfolding four_line decimal
four-forty first second n k width p q w h l =
    let a = (twenty n).0 in
    let b = (twenty k).0 in
    let d : length (decimal k) ≤ 2 = digits 1 20 k h in
    let x = length-append first (decimal n) in
    let y = length-append (first ++ decimal n) second in
    let z = length-append (first ++ decimal n ++ second) (decimal k) in
    plain-line (first ++ decimal n ++ second ++ decimal k)
    (plain-append (first ++ decimal n ++ second) (decimal k) (plain-append (first ++ decimal n) second (plain-append first (decimal n) p a) q) b) (omega arith)

-- the reader's lines

word-forty : (d : ℕ) (s : List ℕ) → forty (record_line (record { direction = d; message = s })) ≡ true
unfolding plain
word-forty d s = go (eqb d 0)
  where
    go : (b : Bool) → forty (octets_line (cond b received sent) s) ≡ true
    go true = octets-forty received s refl (omega arith)
    go false = octets-forty sent s refl (omega arith)

records-forty : (row : List Record) → forty (record_lines row) ≡ true
unfolding record_lines forty forty_from
records-forty [] = refl
records-forty (r ∷ row) = forty-append (record_line r) (record_lines row) (word-forty r.direction r.message) (records-forty row)

pub text-forty : (place : ℕ) (b : List ℕ) → forty (block_text place b) ≡ true
unfolding block_text refused_line plain
text-forty place b = go (records_at place b) (at-faults place b)
  where
    go : (o : Answer (List Record)) → Faults (λ n. n < 100) o → forty (text_by place o) ≡ true
    go (fault n) h = four-forty block_word refused_word place n 20 refl refl (twenty place).1 h (omega arith)
    go (sound row) h = records-forty row

-- the writer's line

pub bad-forty : (line : ℕ) → forty (bad_line line) ≡ true
unfolding bad_line plain
bad-forty line = four-forty (108 ∷ 105 ∷ 110 ∷ 101 ∷ 32 ∷ []) refused_word line 35 20 refl refl (twenty line).1 (omega arith) (omega arith)

-- a line of the list: numbers of four octets, faults below a hundred

abbrev pub Fits : Listed → Type 0
Fits (dropped number n) = n < 100
Fits (renumbered36 number) = number < 4294967296
Fits (short place) = Unit {0}

pub listed-forty : (l : Listed) → Fits l → forty (listed_line l) ≡ true
unfolding listed_line plain decimal
listed-forty (dropped number n) h = four-forty number_word dropped_word number n 20 refl refl (twenty number).1 h (omega arith)
listed-forty (renumbered36 number) h = four-forty number_word renumbered_word number 36 10 refl refl (digits 9 20 number (omega arith)) (omega arith) (omega arith)
listed-forty (short place) h = four-forty place_word dropped_word place 32 20 refl refl (twenty place).1 (omega arith) (omega arith)
