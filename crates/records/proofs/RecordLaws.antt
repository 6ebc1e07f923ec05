-- Records: what one holds is what was written, and of a row the first is read, then those behind it.
use Prim.Native.Nat.{ℕ, zero, suc, ◌+◌, ◌≤◌, ◌<◌}
use mathlib.Core.Path.{◌≡◌, refl, sym, ap, ◌∙◌}
use mathlib.Core.List.{List, [], ◌∷◌, ◌++◌, append_assoc, append-nil}
use mathlib.Core.Bool.{not}
use native.Mathlib.Omega.{arith}
use lib.ListN.{length, length-append}
use lib.Dec.{eqb}
use borrow.Author.Tests.{ne_eqb, not-true, eqb-false}
use Rattle.octets.specs.Reader.{Answer, fault, sound, Taken, took, and_then, octet, front, is_empty}
use Rattle.octets.proofs.FaultLaws.{Faults, then-faults, check-faults, cond-faults, octet-faults, front-faults}
use Rattle.octets.proofs.ReaderLaws.{sound-inj, not_sound, through, passed, front-back, front-was}
use Rattle.records.specs.Records.{bad_record, one_record, messages_by, messages_in, counted, records_of}

-- each message has an octet at least
abbrev pub Filled : List (List ℕ) → Type 0
Filled [] = Unit {0}
Filled (m ∷ others) = (1 ≤ length m) × Filled others

-- one record

pub record-was : (s : List ℕ) (g : Taken (List ℕ)) → one_record s ≡ sound g → (s ≡ length g.value ∷ (g.value ++ g.rest)) × (1 ≤ length g.value)
unfolding one_record
record-was [] g e = not_sound e
record-was (n ∷ s) g e =
    passed (not (eqb n 0)) bad_record (front bad_record n s) g e λ t r.
    let w = front-was bad_record n s g r in
    let z : n ≡ 0 → ⊥ = eqb-false n 0 (not-true (eqb n 0) t) in
    (rw (w.1, ← w.0), not-zero n (length g.value) z w.1)
  where
    not-zero : (a b : ℕ) → (a ≡ 0 → ⊥) → b ≡ a → 1 ≤ b
    not-zero zero b z e = absurd (z refl)
    not-zero (suc a) b z e = omega arith

pub record-back : (m behind : List ℕ) → 1 ≤ length m → one_record (length m ∷ (m ++ behind)) ≡ took m behind
unfolding one_record
record-back m behind h = rw (ne_eqb (length m) 0 (λ e. omega arith)) (front-back bad_record m behind (length m) refl)

pub record-shorter : (s : List ℕ) (g : Taken (List ℕ)) → one_record s ≡ sound g → length g.rest < length s
record-shorter s g e = let w = record-was s g e in rw w.0 (simp length-append (omega arith))

-- a row of them: any count that is enough gives the same

abbrev with : List ℕ → Answer (List (List ℕ)) → Answer (List (List ℕ))
with m behind = and_then behind (λ others. sound (m ∷ others))

enough : (f k : ℕ) (s : List ℕ) → length s ≤ f → length s ≤ k → messages_by f s ≡ messages_by k s
unfolding messages_by
enough zero zero s p q = refl
enough zero (suc k) [] p q = refl
enough zero (suc k) (a ∷ s) p q = absurd (omega arith)
enough (suc f) zero [] p q = refl
enough (suc f) zero (a ∷ s) p q = absurd (omega arith)
enough (suc f) (suc k) [] p q = refl
enough (suc f) (suc k) (a ∷ s) p q = go (one_record (a ∷ s)) refl (λ rest l. enough f k rest (omega arith) (omega arith))
  where
    go : (o : Answer (Taken (List ℕ))) → one_record (a ∷ s) ≡ o → ((rest : List ℕ) → length rest < length (a ∷ s) → messages_by f rest ≡ messages_by k rest)
        → and_then o (λ g. with g.value (messages_by f g.rest)) ≡ and_then o (λ g. with g.value (messages_by k g.rest))
    go (fault n) e same = refl
    go (sound g) e same = ap (with g.value) (same g.rest (record-shorter (a ∷ s) g e))

pub messages-none : messages_in [] ≡ sound []
unfolding messages_in messages_by
messages-none = refl

pub messages-step : (s : List ℕ) (g : Taken (List ℕ)) → one_record s ≡ sound g → messages_in s ≡ and_then (messages_in g.rest) (λ others. sound (g.value ∷ others))
unfolding messages_in messages_by
messages-step [] g e = let w = record-shorter [] g e in absurd (omega arith)
messages-step (a ∷ s) g e = let w = record-shorter (a ∷ s) g e in rw e (ap (with g.value) (enough (length s) (length g.rest) g.rest (omega arith) (omega arith)))

pub messages-bad : (s : List ℕ) (n : ℕ) → 0 < length s → one_record s ≡ fault n → messages_in s ≡ fault n
unfolding messages_in messages_by
messages-bad [] n h e = absurd (omega arith)
messages-bad (a ∷ s) n h e = rw e

-- records followed by octets: their messages, and then those of what follows

then-sound : {A : Type 0} (o : Answer A) → and_then o (λ a. sound a) ≡ o
then-sound (fault n) = refl
then-sound (sound a) = refl

with-behind : (m : List ℕ) (row : List (List ℕ)) (o : Answer (List (List ℕ))) → with m (and_then o (λ others. sound (row ++ others))) ≡ and_then o (λ others. sound ((m ∷ row) ++ others))
with-behind m row (fault n) = refl
with-behind m row (sound a) = refl

pub messages-append : (row : List (List ℕ)) (s : List ℕ) → Filled row → messages_in (records_of row ++ s) ≡ and_then (messages_in s) (λ others. sound (row ++ others))
messages-append [] s h = sym (then-sound (messages_in s))
messages-append (m ∷ row) s h =
    rw (append_assoc m (records_of row) s)
    (messages-step (length m ∷ (m ++ (records_of row ++ s))) _ (record-back m (records_of row ++ s) h.0)
    ∙ ap (with m) (messages-append row s h.1)
    ∙ with-behind m row (messages_in s))

-- what is read as records was written as records

was-by : (f : ℕ) (s : List ℕ) (row : List (List ℕ)) → messages_by f s ≡ sound row → (s ≡ records_of row) × Filled row
unfolding messages_by
was-by zero [] row e = rw (← sound-inj e) (refl, tt)
was-by zero (a ∷ s) row e = not_sound e
was-by (suc f) [] row e = rw (← sound-inj e) (refl, tt)
was-by (suc f) (a ∷ s) row e =
    through (one_record (a ∷ s)) _ row e λ g p q.
    through (messages_by f g.rest) _ row q λ others u v.
    let w = record-was (a ∷ s) g p in
    let b = was-by f g.rest others u in
    rw (← sound-inj v) (w.0 ∙ ap (λ (r : List ℕ). length g.value ∷ (g.value ++ r)) b.0, (w.1, b.1))

pub messages-were : (s : List ℕ) (row : List (List ℕ)) → messages_in s ≡ sound row → (s ≡ records_of row) × Filled row
unfolding messages_in
messages-were s row e = was-by (length s) s row e

-- counting: so many before, and those that are left

abbrev pub counting : ℕ → Answer (List (List ℕ)) → Answer ℕ
counting n left = and_then left (λ row. sound (n + length row))

pub counting-first : (s : List ℕ) → counting 0 (messages_in s) ≡ counted s
unfolding counted
counting-first s = go (messages_in s)
  where
    go : (o : Answer (List (List ℕ))) → counting 0 o ≡ and_then o (λ row. sound (length row))
    go (fault n) = refl
    go (sound row) = let e : 0 + length row ≡ length row = omega arith in ap sound e

pub counting-step : (n : ℕ) (s : List ℕ) (g : Taken (List ℕ)) → one_record s ≡ sound g → counting n (messages_in s) ≡ counting (n + 1) (messages_in g.rest)
counting-step n s g e = rw (messages-step s g e) (go (messages_in g.rest))
  where
    go : (o : Answer (List (List ℕ))) → counting n (with g.value o) ≡ counting (n + 1) o
    go (fault k) = refl
    go (sound row) = let z : n + suc (length row) ≡ n + 1 + length row = omega arith in ap sound z

pub counting-last : (n : ℕ) (s : List ℕ) → length s ≤ 0 → counting n (messages_in s) ≡ sound n
counting-last n [] h = rw messages-none (let z : n + 0 ≡ n = omega arith in ap sound z)
counting-last n (a ∷ s) h = absurd (omega arith)

-- where octets are left and all are records, the first of them is one
pub first-is : (s : List ℕ) (row : List (List ℕ)) → 0 < length s → messages_in s ≡ sound row → (g : Taken (List ℕ)) × (one_record s ≡ sound g)
first-is s row h e = go (one_record s) refl
  where
    go : (o : Answer (Taken (List ℕ))) → one_record s ≡ o → (g : Taken (List ℕ)) × (o ≡ sound g)
    go (fault n) p = not_sound (sym (messages-bad s n h p) ∙ e)
    go (sound g) p = (g, refl)

-- what is written as records reads back
pub messages-back : (row : List (List ℕ)) → Filled row → messages_in (records_of row) ≡ sound row
messages-back row h = ap messages_in (sym (append-nil (records_of row))) ∙ messages-append row [] h ∙ rw messages-none (ap sound (append-nil row))

-- the only fault is a bad record

abbrev IsBad : ℕ → Type 0
IsBad n = n ≡ bad_record

record-fault : (s : List ℕ) → Faults IsBad (one_record s)
unfolding one_record
record-fault s =
    then-faults IsBad (octet bad_record s) _ (octet-faults IsBad bad_record s refl) λ g.
    check-faults IsBad (not (eqb g.value 0)) bad_record _ refl (front-faults IsBad bad_record g.value g.rest refl)

by-fault : (f : ℕ) (s : List ℕ) → Faults IsBad (messages_by f s)
unfolding messages_by
by-fault zero s = cond-faults IsBad (is_empty s) (sound []) (fault bad_record) tt refl
by-fault (suc f) s =
    cond-faults IsBad (is_empty s) (sound []) _ tt
    (then-faults IsBad (one_record s) _ (record-fault s) λ g. then-faults IsBad (messages_by f g.rest) _ (by-fault f g.rest) λ others. tt)

pub messages-fault : (s : List ℕ) → Faults (λ n. n ≡ bad_record) (messages_in s)
unfolding messages_in
messages-fault s = by-fault (length s) s
