-- A batch is its messages fed one by one.
use Prim.Native.Nat.{ℕ, zero, suc, ◌+◌, ◌-◌, ◌*◌, ◌≤◌, ◌<◌}
use mathlib.Core.Path.{◌≡◌, refl, sym, ap, subst, ◌∙◌}
use mathlib.Core.List.{List, [], ◌∷◌, ◌++◌, append_assoc}
use mathlib.Core.Bool.{Bool, true, false, false≢true}
use native.Mathlib.Omega.{arith}
use lib.ListN.{length, get_or, take, drop, replicate, length-append, length-drop}
use lib.Seq.{drop-drop, drop_at}
use lib.Dec.{leb, eqb}
use borrow.Author.Tests.{le-leb, lt-leb, leb-true, leb-false}
use Rattle.octets.specs.Octets.{Octets}
use Rattle.octets.specs.Reader.{Answer, fault, sound}
use Rattle.octets.specs.Splice.{splice}
use Rattle.octets.proofs.FaultLaws.{Faults}
use Rattle.octets.proofs.ReaderLaws.{not_sound}
use Rattle.octets.proofs.SpliceLaws.{splice_front, length-splice}
use Rattle.records.specs.Records.{messages_in, records_of}
use Rattle.records.proofs.RecordLaws.{Filled, messages-append, messages-back, messages-were, messages-fault}
use Rattle.messages.specs.Layout.{discriminator, value, flag, facility_type, register_type}
use Rattle.table.specs.Table.{entry_at, valid}
use Rattle.deciding.specs.Decision.{Decision, silent, with_cause, with_reject, on_reject, released, taken}
use Rattle.deciding.specs.Steps.{first_octet, picked_entry, on_release, four_to_six, decide}
use Rattle.deciding.proofs.StepLaws.{by-type, further, decide-further}
use Rattle.telephone.specs.Outcome.{Outcome}
use Rattle.telephone.specs.Receive.{verdict_of, sent_by, act, receive}
use Rattle.telephone.specs.History.{outcomes, table_after}
use Rattle.telephone.specs.Batch.{fed, slot, slots_of, Batch, to_feed, batch_of, batch}
use Rattle.telephone.proofs.OutcomeLaws.{front-is, behind-stays, sent-room}
use Rattle.telephone.proofs.HistoryLaws.{table-append, outcomes-append}
use Rattle.telephone.proofs.BatchLaws.{slot-length, slots_length, to-feed}
use Rattle.promises.specs.Morning.{Fit, Answered, damaged, bad, no_room, is_fed, EveryBatch, Lent, receives, messages_of, Roomy, told, all_told, OneByOne, in_one, TwoAreOne, is_slot_verdict, SlotVerdicts, SlotsKnown, StaysSound, Morning}
use Rattle.promises.proofs.IsOctets.{octets-front, octets-behind}
use Rattle.promises.proofs.Silence.{is_loud, four-loud}
use Rattle.promises.proofs.NeverDamaged.{SoundOctets, receive-sound}

-- every batch

fit-filled : (row : List (List ℕ)) → Fit row → Filled row
fit-filled [] h = tt
fit-filled (m ∷ row) h = (h.0.0, fit-filled row h.1)

filled-fit : (row : List (List ℕ)) → Octets (records_of row) → Filled row → Fit row
filled-fit [] o h = tt
filled-fit (m ∷ row) o h = let l = o.0 in ((h.0, omega arith), filled-fit row (octets-behind m (records_of row) o.1) h.1)

module _ (t s o : List ℕ) where
  answers : (found : Answer (List (List ℕ))) → to_feed t s (length o) ≡ found → batch t s o ≡ batch_of t o found
  unfolding batch
  answers found e = ap (batch_of t o) e

  damaged-is : valid t ≡ false → to_feed t s (length o) ≡ fault 28
  unfolding to_feed
  damaged-is v = rw v

  module _ (v : valid t ≡ true) where
    bad-is : (n : ℕ) → messages_in s ≡ fault n → to_feed t s (length o) ≡ fault n
    unfolding to_feed
    bad-is n e = rw (v, e)

    room-is : (row : List (List ℕ)) → messages_in s ≡ sound row → length o < 14 * length row → to_feed t s (length o) ≡ fault 31
    unfolding to_feed
    room-is row e h = rw (v, e, lt-leb (14 * length row) (length o) h)

    fed-is : (row : List (List ℕ)) → messages_in s ≡ sound row → 14 * length row ≤ length o → to_feed t s (length o) ≡ sound row
    unfolding to_feed
    fed-is row e h = rw (v, e, le-leb (14 * length row) (length o) h)

  every : Octets s → Answered t s o (batch t s o)
  every q = by-table (valid t) refl
    where
      by-room : valid t ≡ true → (row : List (List ℕ)) → messages_in s ≡ sound row → (b : Bool) → leb (14 * length row) (length o) ≡ b → Answered t s o (batch t s o)
      by-room v row e b l =
          let w = messages-were s row e in
          let f = filled-fit row (subst Octets w.0 q) w.1 in
          fits b l w f
        where
          fits : (c : Bool) → leb (14 * length row) (length o) ≡ c → (s ≡ records_of row) × Filled row → Fit row → Answered t s o (batch t s o)
          fits true l w f = is_fed v row f w.0 (leb-true _ _ l) (ap (λ (x : Batch). x.code) (answers (sound row) (fed-is v row e (leb-true _ _ l))))
          fits false l w f = no_room v row f w.0 (leb-false _ _ l) (answers (fault 31) (room-is v row e (leb-false _ _ l)))

      by-records : valid t ≡ true → (found : Answer (List (List ℕ))) → messages_in s ≡ found → Faults (λ n. n ≡ 30) found → Answered t s o (batch t s o)
      by-records v (fault n) e h =
          bad v (λ row f r. not_sound (sym (rw h at e) ∙ ap messages_in r ∙ messages-back row (fit-filled row f))) (answers (fault 30) (bad-is v 30 (rw h at e)))
      by-records v (sound row) e h = by-room v row e (leb (14 * length row) (length o)) refl

      by-table : (b : Bool) → valid t ≡ b → Answered t s o (batch t s o)
      by-table false v = damaged v (answers (fault 28) (damaged-is v))
      by-table true v = by-records v (messages_in s) refl (messages-fault s)

pub every-batch : EveryBatch
every-batch t s o q = every t s o q

-- a reply doesn't depend on its buffer, if that has room

same-decision : (t m : List ℕ) (room : ℕ) → 12 ≤ room → decide t m room ≡ decide t m 12
unfolding decide
same-decision t m room h = rw (le-leb 12 room h)

drop-zeros : (k n : ℕ) → k ≤ n → drop {A = ℕ} k (replicate n 0) ≡ replicate (n - k) 0
drop-zeros zero n h = let e : n - 0 ≡ n = omega arith in rw e
drop-zeros (suc k) zero h = absurd (omega arith)
drop-zeros (suc k) (suc n) h = let e : suc n - suc k ≡ n - k = omega arith in rw e (drop-zeros k n (omega arith))

module _ (t m b : List ℕ) where
  acted : (d : Decision) → ((act t m b d).table ≡ (act t m (replicate 12 0) d).table) × (told (act t m b d) ≡ slot (act t m (replicate 12 0) d))
  unfolding act
  acted d =
      let x = sent_by m d in (
        refl,
        ap (λ (l : List ℕ). verdict_of d ∷ length x ∷ l)
            (ap (λ (l : List ℕ). l ++ replicate (12 - length x) 0) (front-is b x)
            ∙ ap (λ (l : List ℕ). x ++ l) (sym (drop-zeros (length x) 12 (sent-room m d)))
            ∙ sym (splice_front (replicate 12 0) x)),
      )

  agrees : 12 ≤ length b → ((receive t m b).table ≡ (fed t m).table) × (told (receive t m b) ≡ slot (fed t m))
  unfolding receive fed
  agrees h = rw (same-decision t m (length b) h) (acted (decide t m 12))

all-agree : (t : List ℕ) (row : List Lent) → Roomy row → (table_after receives t row ≡ table_after fed t (messages_of row)) × (all_told (outcomes receives t row) ≡ slots_of (outcomes fed t (messages_of row)))
unfolding outcomes table_after slots_of
all-agree t [] h = (refl, refl)
all-agree t (l ∷ row) h =
    let a = agrees t l.message l.buffer h.0 in
    let b = all-agree (fed t l.message).table row h.1 in
    let y = ap (λ (x : List ℕ). all_told (outcomes receives x row)) a.0 ∙ b.1 in
    (ap (λ (x : List ℕ). table_after receives x row) a.0 ∙ b.0, λ i. a.1 i ++ y i)

same_length : (row : List Lent) → length (messages_of row) ≡ length row
same_length [] = refl
same_length (l ∷ row) = ap suc (same_length row)

pub one_by_one : OneByOne
one_by_one t o row v f r h =
    let messages = messages_of row in
    let n : length messages ≡ length row = same_length row in
    let s = slots_of (outcomes fed t messages) in
    let k : length s ≡ 14 * length row = slots_length t messages ∙ ap (λ (j : ℕ). 14 * j) n in
    let a = all-agree t row r in
    let e : batch t (records_of messages) o ≡ batch_of t o (sound messages) = answers t (records_of messages) o (sound messages) (fed-is t (records_of messages) o v messages (messages-back messages (fit-filled messages f)) (rw n h)) in
    rw e
    record {
      code = refl;
      slots = n;
      front = rw (← k, a.1) (front-is o s);
      behind = rw (← k) (behind-stays o s);
      table_is = sym a.0;
    }

-- one row behind another

slots-append : (a b : List Outcome) → slots_of (a ++ b) ≡ slots_of a ++ slots_of b
unfolding slots_of
slots-append [] b = refl
slots-append (x ∷ a) b = ap (λ (l : List ℕ). slot x ++ l) (slots-append a b) ∙ sym (append_assoc (slot x) (slots_of a) (slots_of b))

-- what the second batch is lent
module _ (t o : List ℕ) (one : List (List ℕ)) where
  abbrev behind_slots : List ℕ
  behind_slots = drop (14 * length one) (splice o 0 (slots_of (outcomes fed t one)))

  behind-length : 14 * length one ≤ length o → length behind_slots ≡ length o - 14 * length one
  behind-length h =
      let k = slots_length t one in
      length-drop (14 * length one) (splice o 0 (slots_of (outcomes fed t one))) ∙ ap (λ (n : ℕ). n - 14 * length one) (length-splice o 0 (slots_of (outcomes fed t one)) (omega arith))

  one-output : (two : List (List ℕ))
      → splice o 0 (slots_of (outcomes fed t (one ++ two)))
      ≡ take (14 * length one) (splice o 0 (slots_of (outcomes fed t one))) ++ splice behind_slots 0 (slots_of (outcomes fed (table_after fed t one) two))
  one-output two =
      let a = slots_of (outcomes fed t one) in
      let b = slots_of (outcomes fed (table_after fed t one) two) in
      let k : length a ≡ 14 * length one = slots_length t one in
      let x : slots_of (outcomes fed t (one ++ two)) ≡ a ++ b = ap slots_of (outcomes-append fed t one two) ∙ slots-append (outcomes fed t one) (outcomes fed (table_after fed t one) two) in
      let r : a ++ splice (drop (length a) o) 0 b ≡ splice o 0 (a ++ b) =
      ap (λ (l : List ℕ). a ++ l) (splice_front (drop (length a) o) b ∙ ap (λ (l : List ℕ). b ++ l) (drop-drop (length b) (length a) o))
      ∙ sym (append_assoc a b (drop (length a + length b) o))
      ∙ ap (λ (n : ℕ). (a ++ b) ++ drop n o) (sym (length-append a b))
      ∙ sym (splice_front o (a ++ b)) in
      rw (← k, x, front-is o a, behind-stays o a) (sym r)

-- both rows in one batch
joined : (t o : List ℕ) (one two : List (List ℕ)) → valid t ≡ true → Fit one → Fit two → 14 * (length one + length two) ≤ length o
    → batch t (records_of one ++ records_of two) o ≡ in_one (batch_of t o (sound one)) (batch_of (table_after fed t one) (behind_slots t o one) (sound two))
joined t o one two v f g room =
    let s = records_of one ++ records_of two in
    let n : length (one ++ two) ≡ length one + length two = length-append one two in
    let m : messages_in s ≡ sound (one ++ two) = messages-append one (records_of two) (fit-filled one f) ∙ rw (messages-back two (fit-filled two g)) refl in
    let u = one-output t o one two in
    let w = table-append fed t one two in
    answers t s o (sound (one ++ two)) (fed-is t s o v (one ++ two) m (rw n room)) ∙ λ i. record { code = 0; slots = n i; output = u i; table = w i }

-- each verdict is one of 01's, and the table stays sound

loud-verdict : (d : Decision) → is_loud d ≡ true → is_slot_verdict (verdict_of d) ≡ true
loud-verdict (silent code) h = absurd (false≢true h)
loud-verdict (with_cause number) h = refl
loud-verdict (with_reject id tag number) h = refl
loud-verdict (on_reject shown) h = refl
loud-verdict (released shown cause) h = refl
loud-verdict (taken change shown) h = refl

further-verdict : (t m : List ℕ) → is_slot_verdict (verdict_of (further t m)) ≡ true
unfolding on_release
further-verdict t m =
    let e = entry_at t (picked_entry m) in
    by-type (λ d. is_slot_verdict (verdict_of d) ≡ true) e (flag (first_octet m)) (get_or m 1 0) (drop 2 m) refl refl refl refl (λ _ _. refl)
    (λ _ _. loud-verdict (four_to_six e facility_type (drop 2 m)) (four-loud e facility_type (drop 2 m)))
    (λ _ _. loud-verdict (four_to_six e register_type (drop 2 m)) (four-loud e register_type (drop 2 m)))

slot-verdict : (t m : List ℕ) → valid t ≡ true → length m ≤ 255 → is_slot_verdict (verdict_of (decide t m 12)) ≡ true
unfolding decide
slot-verdict t m v h = go (leb 2 (length m)) (eqb (discriminator (first_octet m)) 11) (eqb (value (first_octet m)) 7) refl refl refl
  where
    l : leb (length m) 255 ≡ true
    l = le-leb (length m) 255 h

    go : (a b c : Bool) → leb 2 (length m) ≡ a → eqb (discriminator (first_octet m)) 11 ≡ b → eqb (value (first_octet m)) 7 ≡ c → is_slot_verdict (verdict_of (decide t m 12)) ≡ true
    go false b c p q r = rw (v, l, p)
    go true false c p q r = rw (v, l, p, q)
    go true true true p q r = rw (v, l, p, q, r)
    go true true false p q r = rw (decide-further t m 12 (record { table = v; room = refl; most = l; least = p; protocol = q; transaction = r })) (further-verdict t m)

fed-sound : (t m : List ℕ) (row : List (List ℕ)) → Octets t → Octets (records_of (m ∷ row)) → valid t ≡ true → SoundOctets (fed t m).table
unfolding fed
fed-sound t m row o q v = receive-sound t m (replicate 12 0) o (octets-front m (records_of row) q.1) v

row-sound : (t : List ℕ) (row : List (List ℕ)) → Octets t → Octets (records_of row) → valid t ≡ true → valid (table_after fed t row) ≡ true
unfolding table_after
row-sound t [] o q v = v
row-sound t (m ∷ row) o q v = let s = fed-sound t m row o q v in row-sound (fed t m).table row s.1 (octets-behind m (records_of row) q.1) s.0

row-verdicts : (t : List ℕ) (row : List (List ℕ)) (behind : List ℕ) → Octets t → Octets (records_of row) → Fit row → valid t ≡ true
    → SlotVerdicts (length row) (slots_of (outcomes fed t row) ++ behind)
unfolding outcomes slots_of fed receive act
row-verdicts t [] behind o q f v = tt
row-verdicts t (m ∷ row) behind o q f v =
    let s = fed-sound t m row o q v in
    let rest = slots_of (outcomes fed (fed t m).table row) in
    let e = ap (drop 14) (append_assoc (slot (fed t m)) rest behind) ∙ drop_at (slot (fed t m)) (rest ++ behind) 14 (slot-length t m) in
    (slot-verdict t m v f.0.1, subst (SlotVerdicts (length row)) (sym e) (row-verdicts (fed t m).table row behind s.1 (octets-behind m (records_of row) q.1) f.1 s.0))

-- what is fed, or what is lent
module _ (t s o : List ℕ) (y : Octets s) where
  either : (P : Batch → Type 0) → ((n : ℕ) → P (batch_of t o (fault n)))
      → ((row : List (List ℕ)) → valid t ≡ true → Octets (records_of row) → Fit row → P (batch_of t o (sound row))) → P (batch t s o)
  unfolding batch
  either P refused done = go (to_feed t s (length o)) refl
    where
      go : (found : Answer (List (List ℕ))) → to_feed t s (length o) ≡ found → P (batch_of t o found)
      go (fault n) e = refused n
      go (sound row) e =
          let w = to-feed t s (length o) row e in
          let r = messages-were s row w.1.0 in
          let q = subst Octets r.0 y in
          done row w.0 q (filled-fit row q r.1)

pub slots-known : SlotsKnown
slots-known t s o x y =
    either t s o y (λ b. SlotVerdicts b.slots b.output) (λ n. tt) λ row v q f.
    rw (splice_front o (slots_of (outcomes fed t row))) (row-verdicts t row _ x q f v)

pub stays-sound : StaysSound
stays-sound t s o x y v = either t s o y (λ b. valid b.table ≡ true) (λ n. v) λ row w q f. row-sound t row x q w

pub two-are-one : TwoAreOne
two-are-one t o one two x y v f g room =
    let h : 14 * length one ≤ length o = omega arith in
    let l = behind-length t o one h in
    let t' = table_after fed t one in
    let o' = behind_slots t o one in
    let a = answers t (records_of one) o (sound one) (fed-is t (records_of one) o v one (messages-back one (fit-filled one f)) h) in
    let b = answers t' (records_of two) o' (sound two) (fed-is t' (records_of two) o' (row-sound t one x y v) two (messages-back two (fit-filled two g)) (rw l (omega arith))) in
    rw a (refl, (ap (λ (z : Batch). z.code) b, rw b (joined t o one two v f g room)))

pub morning : Morning
morning = (every-batch, (one_by_one, (two-are-one, (slots-known, stays-sound))))
