-- The lines that the reader prints of records are told back as those records.
use Prim.Native.Nat.{ℕ, zero, suc, ◌+◌, ◌*◌, ◌≤◌}
use mathlib.Core.Path.{◌≡◌, refl, ap, ◌∙◌}
use mathlib.Core.List.{List, [], ◌∷◌, ◌++◌, append_assoc, append-nil}
use mathlib.Core.Option.{Option, none, some}
use mathlib.Core.Bool.{Bool, true, false, cond}
use native.Mathlib.Omega.{arith}
use lib.ListN.{length, length-append}
use lib.Dec.{ltb}
use borrow.Author.Tests.{ltb-false, leb-true}
use Rattle.octets.specs.Octets.{Octets}
use Rattle.octets.proofs.OctetsLaws.{octets-append}
use Rattle.printing.specs.Numbers.{pair}
use Rattle.printing.specs.Lines.{folded, octets_line}
use Rattle.printing.specs.Forty.{plain}
use Rattle.printing.proofs.FortyLaws.{plain-append}
use Rattle.trace.specs.Records.{Record, Good, good_record}
use Rattle.trace.proofs.RecordLaws.{good-was}
use Rattle.trace_lines.specs.Shown.{received, sent, word_of, record_lines}
use Rattle.trace_lines.specs.Told.{Begun, Told, finished, told_from, told}
use Rattle.trace_promises.specs.Retold.{lines_in, AllOctets, Retold}
use Rattle.trace_promises.proofs.HexBack.{printed, printed-length, printed-plain, printed-more}
use Rattle.trace_promises.proofs.LinesBack.{line-ends, plus, Takes, takes-onward, begin, takes-received, takes-sent}

-- an octet more in the line
more-printed : (front held : List ℕ) (o : ℕ) (rest : List ℕ) → (front ++ printed (held ++ (o ∷ []))) ++ rest ≡ (front ++ printed held) ++ ((32 ∷ pair o) ++ rest)
more-printed front held o rest =
    rw (printed-more held o, ← append_assoc front (printed held) (32 ∷ pair o), append_assoc (front ++ printed held) (32 ∷ pair o) rest)

line-length : (front s : List ℕ) → length (front ++ printed s) ≡ length front + 3 * length s
line-length front s = let l = printed-length s in length-append front (printed s) ∙ omega arith

line_plain : (front s : List ℕ) → plain front ≡ true → plain (front ++ printed s) ≡ true
line_plain front s h = plain-append front (printed s) h (printed-plain s)

-- the octets held are those of the line so far, up to a column; those of s follow as this text, in the line or in lines that go on
abbrev Lines : ℕ → List ℕ → List ℕ → Type 0
Lines column s text =
    (front : List ℕ) (wrap : Told → Told) (begun : Option Begun) (b : Begun) (n o : ℕ) (held rest : List ℕ) (t : Told)
    → Takes front wrap begun b n → plain front ≡ true → Octets (o ∷ held) → Octets s → length b.message + length (o ∷ held) + length s ≤ 255
    → column ≡ length (front ++ printed (o ∷ held)) → column ≤ 40
    → ((m : ℕ) → told_from (some (plus b ((o ∷ held) ++ s))) m (lines_in rest) ≡ t)
    → told_from begun n (lines_in ((front ++ printed (o ∷ held)) ++ (text ++ (10 ∷ rest)))) ≡ wrap t

-- an octet more, in the next line or in this one
next-told : (x : ℕ) (s : List ℕ) → ((column : ℕ) → Lines column s (folded column s)) → (column : ℕ) (over : Bool) → ltb 37 column ≡ over
    → Lines column (x ∷ s) (cond over (10 ∷ 32 ∷ pair x) (32 ∷ pair x) ++ folded (cond over 3 (column + 3)) s)
unfolding pair plain
next-told x s go column true over front wrap begun b n o held rest t takes p h q l e c f =
    let behind : List ℕ = (32 ∷ pair x) ++ (folded 3 s ++ (10 ∷ rest)) in
    let whole : Begun = plus b (o ∷ held) in
    let a = length-append b.message (o ∷ held) in
    rw (line-ends (front ++ printed (o ∷ held)) behind (line_plain front (o ∷ held) p))
    (takes o held (lines_in behind) h (omega arith) (omega arith)
    ∙ ap wrap (go 3 [] (λ (u : Told). u) (some whole) whole (suc n) x [] rest t (takes-onward whole (suc n)) refl (q.0, tt) q.1 (omega arith) refl (omega arith)
    (λ m. rw (append_assoc b.message (o ∷ held) (x ∷ s)) (f m))))
next-told x s go column false over front wrap begun b n o held rest t takes p h q l e c f =
    let more : List ℕ = held ++ (x ∷ []) in
    let a = length-append held (x ∷ []) in
    let i = line-length front (o ∷ held) in
    let j = line-length front (o ∷ more) in
    let under = ltb-false 37 column over in
    rw (← more-printed front (o ∷ held) x (folded (column + 3) s ++ (10 ∷ rest)))
    (go (column + 3) front wrap begun b n o more rest t takes p (h.0, octets-append held (x ∷ []) h.1 (q.0, tt)) q.1 (omega arith) (omega arith) (omega arith)
    (λ m. rw (append_assoc held (x ∷ []) s) (f m)))

lines-told : (s : List ℕ) (column : ℕ) → Lines column s (folded column s)
unfolding folded
lines-told [] column front wrap begun b n o held rest t takes p h q l e c f =
    rw (line-ends (front ++ printed (o ∷ held)) rest (line_plain front (o ∷ held) p))
    (takes o held (lines_in rest) h (omega arith) (omega arith) ∙ ap wrap (rw (append-nil held) at (f (suc n))))
lines-told (x ∷ s) column front wrap begun b n o held rest t takes p h q l e c f =
    next-told x s (λ k. lines-told s k) column (ltb 37 column) refl front wrap begun b n o held rest t takes p h q l e c f

-- a record's lines behind which others follow: it is begun by them, and ends where those begin
abbrev Begins : ℕ → List ℕ → Type 0
Begins direction word =
    (begun : Option Begun) (n o : ℕ) (s rest : List ℕ) (t : Told) → Octets (o ∷ s) → length (o ∷ s) ≤ 255
    → ((m : ℕ) → told_from (some (record { direction = direction; message = o ∷ s; line = n })) m (lines_in rest) ≡ t)
    → told_from begun n (lines_in (octets_line word (o ∷ s) ++ rest)) ≡ finished begun t

begins-received : Begins 0 received
unfolding octets_line folded plain pair
begins-received begun n o s rest t h l f =
    rw (append_assoc (folded 11 s) (10 ∷ []) rest)
    (lines-told s 11 received (finished begun) begun (begin 0 n) n o [] rest t (takes-received begun n) refl (h.0, tt) h.1 (omega arith) refl (omega arith) f)

begins-sent : Begins 1 sent
unfolding octets_line folded plain pair
begins-sent begun n o s rest t h l f =
    rw (append_assoc (folded 7 s) (10 ∷ []) rest)
    (lines-told s 7 sent (finished begun) begun (begin 1 n) n o [] rest t (takes-sent begun n) refl (h.0, tt) h.1 (omega arith) refl (omega arith) f)

begins : (direction : ℕ) → direction ≤ 1 → Begins direction (word_of direction)
begins zero h = begins-received
begins (suc zero) h = begins-sent
begins (suc (suc d)) h = absurd (omega arith)

-- a good record, and those behind it
row_told : (direction : ℕ) (message : List ℕ) (others : List Record) → good_record (record { direction = direction; message = message }) ≡ true → Octets message
    → (begun : Option Begun) (n : ℕ)
    → ((b : Option Begun) (m : ℕ) → told_from b m (lines_in (record_lines others)) ≡ finished b (record { records = others; bad = none }))
    → told_from begun n (lines_in (octets_line (word_of direction) message ++ record_lines others))
    ≡ finished begun (record { records = record { direction = direction; message = message } ∷ others; bad = none })
row_told direction [] others g h begun n k = let w = good-was (record { direction = direction; message = [] }) g in absurd (omega arith)
row_told direction (o ∷ s) others g h begun n k =
    let w = good-was (record { direction = direction; message = o ∷ s }) g in
    begins direction (leb-true direction 1 w.0) begun n o s (record_lines others) _ h w.1.1
    (λ m. k (some (record { direction = direction; message = o ∷ s; line = n })) m ∙ rw g)

rows_told : (records : List Record) → Good records → AllOctets records → (begun : Option Begun) (n : ℕ)
    → told_from begun n (lines_in (record_lines records)) ≡ finished begun (record { records = records; bad = none })
unfolding record_lines told_from
rows_told [] g o begun n = refl
rows_told (r ∷ others) g o begun n = row_told r.direction r.message others g.0 o.0 begun n (λ b m. rows_told others g.1 o.1 b m)

pub retold : Retold
unfolding told
retold records g o = rows_told records g o none 1
