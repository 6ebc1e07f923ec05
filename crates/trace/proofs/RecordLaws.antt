-- Records of a trace: what one holds is what was written, and of a row the first is read, then those behind it.
use Rattle.std.proofs.Common.{◌≡◌, ℕ, zero, suc, ◌<◌, ◌≤◌, true, false, ◌&&◌, leb, List, [], ◌∷◌, ◌++◌, length, sym, refl, ap, ◌∙◌, append_assoc, append-nil, arith, length-append, leb-true}
use Rattle.octets.specs.Reader.{Answer, fault, sound, Taken, took, and_then, is_empty}
use Rattle.octets.proofs.ReaderLaws.{sound-inj, not_sound, through, passed}
use Rattle.octets.proofs.TestLaws.{both}
use Rattle.octets.proofs.FaultLaws.{Faults, then-faults, check-faults, cond-faults}
use Rattle.records.specs.Records.{one_record}
use Rattle.records.proofs.RecordLaws as one
use Rattle.trace.specs.Records.{Record, bad_record, good_record, Good, record_octets, records_of, directed, trace_record, records_by, records_in}
use Rattle.trace.specs.Seen.{is_sound}

-- what that asks for
pub good-was : (r : Record) → good_record r ≡ true → (leb r.direction 1 ≡ true) × ((1 ≤ length r.message) × (length r.message ≤ 255))
good-was r h =
    let w = both (leb r.direction 1 && leb 1 (length r.message)) (leb (length r.message) 255) h in
    let v = both (leb r.direction 1) (leb 1 (length r.message)) w.0 in
    (v.0, (leb-true 1 (length r.message) v.1, leb-true (length r.message) 255 w.1))

-- one record

pub record-was : (s : List ℕ) (g : Taken Record) → trace_record s ≡ sound g → (s ≡ record_octets g.value ++ g.rest) × ((g.value.direction ≤ 1) × (1 ≤ length g.value.message))
unfolding trace_record
record-was [] g e = not_sound e
record-was (d ∷ s) g e =
    passed (leb d 1) bad_record (directed d (one_record s)) g e λ t r.
    go (one_record s) refl t r
  where
    go : (o : Answer (Taken (List ℕ))) → one_record s ≡ o → leb d 1 ≡ true → directed d o ≡ sound g
        → (d ∷ s ≡ record_octets g.value ++ g.rest) × ((g.value.direction ≤ 1) × (1 ≤ length g.value.message))
    go (fault n) p t r = not_sound r
    go (sound k) p t r =
        let w = one.record-was s k p in
        rw (← sound-inj r) (ap (λ (x : List ℕ). d ∷ x) w.0, (leb-true d 1 t, w.1))

pub record-back : (r : Record) (behind : List ℕ) → good_record r ≡ true → trace_record (record_octets r ++ behind) ≡ took r behind
unfolding trace_record
record-back r behind h = let w = good-was r h in rw (w.0, one.record-back r.message behind w.1.0)

pub record-shorter : (s : List ℕ) (g : Taken Record) → trace_record s ≡ sound g → length g.rest < length s
record-shorter s g e = let w = record-was s g e in rw w.0 (simp length-append (omega arith))

-- a row of them: any count that is enough gives the same

abbrev with : Record → Answer (List Record) → Answer (List Record)
with r behind = and_then behind (λ others. sound (r ∷ others))

enough : (f k : ℕ) (s : List ℕ) → length s ≤ f → length s ≤ k → records_by f s ≡ records_by k s
unfolding records_by
enough zero zero s p q = refl
enough zero (suc k) [] p q = refl
enough zero (suc k) (a ∷ s) p q = absurd (omega arith)
enough (suc f) zero [] p q = refl
enough (suc f) zero (a ∷ s) p q = absurd (omega arith)
enough (suc f) (suc k) [] p q = refl
enough (suc f) (suc k) (a ∷ s) p q = go (trace_record (a ∷ s)) refl (λ rest l. enough f k rest (omega arith) (omega arith))
  where
    go : (o : Answer (Taken Record)) → trace_record (a ∷ s) ≡ o → ((rest : List ℕ) → length rest < length (a ∷ s) → records_by f rest ≡ records_by k rest)
        → and_then o (λ g. with g.value (records_by f g.rest)) ≡ and_then o (λ g. with g.value (records_by k g.rest))
    go (fault n) e same = refl
    go (sound g) e same = ap (with g.value) (same g.rest (record-shorter (a ∷ s) g e))

pub records-none : records_in [] ≡ sound []
unfolding records_in records_by
records-none = refl

pub records-step : (s : List ℕ) (g : Taken Record) → trace_record s ≡ sound g → records_in s ≡ and_then (records_in g.rest) (λ others. sound (g.value ∷ others))
unfolding records_in records_by
records-step [] g e = let w = record-shorter [] g e in absurd (omega arith)
records-step (a ∷ s) g e = let w = record-shorter (a ∷ s) g e in rw e (ap (with g.value) (enough (length s) (length g.rest) g.rest (omega arith) (omega arith)))

pub records-bad : (s : List ℕ) (n : ℕ) → 0 < length s → trace_record s ≡ fault n → records_in s ≡ fault n
unfolding records_in records_by
records-bad [] n h e = absurd (omega arith)
records-bad (a ∷ s) n h e = rw e

-- records followed by octets: they, and then those of what follows

then-sound : {A : Type 0} (o : Answer A) → and_then o (λ a. sound a) ≡ o
then-sound (fault n) = refl
then-sound (sound a) = refl

with-behind : (r : Record) (row : List Record) (o : Answer (List Record)) → with r (and_then o (λ others. sound (row ++ others))) ≡ and_then o (λ others. sound ((r ∷ row) ++ others))
with-behind r row (fault n) = refl
with-behind r row (sound a) = refl

pub records-append : (row : List Record) (s : List ℕ) → Good row → records_in (records_of row ++ s) ≡ and_then (records_in s) (λ others. sound (row ++ others))
records-append [] s h = sym (then-sound (records_in s))
records-append (r ∷ row) s h =
    rw (append_assoc (record_octets r) (records_of row) s)
    (records-step (record_octets r ++ (records_of row ++ s)) _ (record-back r (records_of row ++ s) h.0)
    ∙ ap (with r) (records-append row s h.1)
    ∙ with-behind r row (records_in s))

-- what is written as records reads back
pub records-back : (row : List Record) → Good row → records_in (records_of row) ≡ sound row
records-back row h = ap records_in (sym (append-nil (records_of row))) ∙ records-append row [] h ∙ rw records-none (ap sound (append-nil row))

-- what is read as records was written as records

was-by : (f : ℕ) (s : List ℕ) (row : List Record) → records_by f s ≡ sound row → s ≡ records_of row
unfolding records_by
was-by zero [] row e = rw (← sound-inj e)
was-by zero (a ∷ s) row e = not_sound e
was-by (suc f) [] row e = rw (← sound-inj e)
was-by (suc f) (a ∷ s) row e =
    through (trace_record (a ∷ s)) _ row e λ g p q.
    through (records_by f g.rest) _ row q λ others u v.
    rw (← sound-inj v) ((record-was (a ∷ s) g p).0 ∙ ap (λ (x : List ℕ). record_octets g.value ++ x) (was-by f g.rest others u))

pub records-were : (s : List ℕ) (row : List Record) → records_in s ≡ sound row → s ≡ records_of row
unfolding records_in
records-were s row e = was-by (length s) s row e

-- the only fault is a bad record

abbrev IsBad : ℕ → Type 0
IsBad n = n ≡ bad_record

directed-fault : (d : ℕ) (o : Answer (Taken (List ℕ))) → Faults IsBad (directed d o)
directed-fault d (fault n) = refl
directed-fault d (sound g) = tt

record-fault : (s : List ℕ) → Faults IsBad (trace_record s)
unfolding trace_record
record-fault [] = refl
record-fault (d ∷ s) = check-faults IsBad (leb d 1) bad_record (directed d (one_record s)) refl (directed-fault d (one_record s))

by-fault : (f : ℕ) (s : List ℕ) → Faults IsBad (records_by f s)
unfolding records_by
by-fault zero s = cond-faults IsBad (is_empty s) (sound []) (fault bad_record) tt refl
by-fault (suc f) s =
    cond-faults IsBad (is_empty s) (sound []) _ tt
    (then-faults IsBad (trace_record s) _ (record-fault s) λ g. then-faults IsBad (records_by f g.rest) _ (by-fault f g.rest) λ others. tt)

pub records-fault : (s : List ℕ) → Faults (λ n. n ≡ bad_record) (records_in s)
unfolding records_in
records-fault s = by-fault (length s) s

-- a turn of the loop over records, and its ends

pub sound-step : (s : List ℕ) (g : Taken Record) → trace_record s ≡ sound g → is_sound (records_in g.rest) ≡ is_sound (records_in s)
sound-step s g e = rw (records-step s g e) (go (records_in g.rest))
  where
    go : (o : Answer (List Record)) → is_sound o ≡ is_sound (with g.value o)
    go (fault n) = refl
    go (sound row) = refl

pub sound-bad : (s : List ℕ) (n : ℕ) → 0 < length s → trace_record s ≡ fault n → false ≡ is_sound (records_in s)
sound-bad s n h e = rw (records-bad s n h e)

pub sound-last : (s : List ℕ) → length s ≤ 0 → true ≡ is_sound (records_in s)
sound-last [] h = rw records-none
sound-last (a ∷ s) h = absurd (omega arith)
