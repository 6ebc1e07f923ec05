-- A batch: a reply finds room in its slot, and what is left to feed, fed from the table so far, is what feeding all leaves.
use Prim.Native.Nat.{ℕ, suc, ◌+◌, ◌-◌, ◌*◌, ◌/◌, ◌≤◌, ◌<◌}
use mathlib.Core.Path.{◌≡◌, refl, sym, ap, subst, ◌∙◌}
use mathlib.Core.List.{List, [], ◌∷◌, ◌++◌}
use mathlib.Core.Bool.{true, false}
use native.Mathlib.Omega.{arith}
use native.Mathlib.Numerals.{add-one}
use lib.ListN.{length, drop, set, get_or, replicate, length-append, length-set}
use lib.Seq.{drop-drop, drop-set-lt, take-suc-set, append_snoc, take_at, drop_at, paste-zero}
use lib.Dec.{leb}
use borrow.Author.Tests.{le-leb, lt-leb, leb-true}
use Rattle.octets.specs.Part.{between}
use Rattle.octets.specs.Reader.{Answer, fault, sound, took, and_then}
use Rattle.octets.specs.Splice.{splice}
use Rattle.octets.proofs.ReaderLaws.{sound-inj, not_sound, through, passed}
use Rattle.octets.proofs.SpliceLaws.{splice-splice, length-splice, whole as wholly}
use Rattle.records.specs.Records.{bad_record, one_record, messages_in, counted}
use Rattle.records.proofs.RecordLaws.{record-was, first-is, messages-none, messages-step}
use Rattle.table.specs.Table.{valid}
use Rattle.deciding.specs.Steps.{decide}
use Rattle.telephone.specs.Outcome.{Outcome}
use Rattle.telephone.specs.Receive.{sent_by, act, receive}
use Rattle.telephone.specs.History.{outcomes, table_after}
use Rattle.telephone.specs.Batch.{fed, slot_length, slot, slots_of, to_feed, batch_of, batch}
use Rattle.telephone.specs.Feeding.{IsRecord, CanFeed, FedOutput, FedTable}
use Rattle.telephone.specs.FromC.{batched_of, refused_batch}
use Rattle.telephone.specs.declared.batch.Batched.{Batched}
use Rattle.telephone.proofs.OutcomeLaws.{sent-room}

-- the part that the code hands on is the record's message
pub message-is : (s : List ℕ) → IsRecord s
    → (1 + get_or s 0 0 ≤ length s)
    × (one_record s ≡ took (between 1 (1 + get_or s 0 0) s) (drop (1 + length (between 1 (1 + get_or s 0 0) s)) s))
message-is s (g, e) =
    let v = g.value in
    let w = (record-was s g e).0 in
    let n : get_or s 0 0 ≡ length v = ap (λ (r : List ℕ). get_or r 0 0) w in
    let l : length s ≡ suc (length v + length g.rest) = ap length w ∙ ap suc (length-append v g.rest) in
    let r : drop 1 s ≡ v ++ g.rest = ap (drop 1) w in
    let k : 1 + length v - 1 ≡ length v = omega arith in
    let p : between 1 (1 + length v) s ≡ v = rw (k, r) (take_at v g.rest (length v) refl) in
    let q : drop (1 + length v) s ≡ g.rest = sym (drop-drop (length v) 1 s) ∙ rw r (drop_at v g.rest (length v) refl) in
    (rw n (omega arith), rw (n, p, q) e)

-- the room of a slot

module _ (t m : List ℕ) where
  pub fed-written : (fed t m).written ≤ 12
  unfolding fed receive act
  fed-written = sent-room m (decide t m 12)

  pub fed-buffer : length (fed t m).buffer ≡ 12
  unfolding fed receive act
  fed-buffer = length-splice (replicate 12 0) 0 (sent_by m (decide t m 12)) (let h = sent-room m (decide t m 12) in omega arith)

  pub slot-length : length (slot (fed t m)) ≡ 14
  slot-length = rw fed-buffer

pub slots_length : (t : List ℕ) (row : List (List ℕ)) → length (slots_of (outcomes fed t row)) ≡ slot_length * length row
unfolding outcomes slots_of
slots_length t [] = omega arith
slots_length t (m ∷ row) =
    let e = length-append (slot (fed t m)) (slots_of (outcomes fed (fed t m).table row)) in
    let k = slots_length (fed t m).table row in
    let l = slot-length t m in
    e ∙ omega arith

-- a slot is filled octet by octet: two, and then the reply

splice-cons : (d : List ℕ) (at x : ℕ) (s : List ℕ) → at < length d → splice (set d at x) (at + 1) s ≡ splice d at (x ∷ s)
unfolding splice
splice-cons d at x s h =
    let e : at + 1 + length s ≡ at + suc (length s) = omega arith in
    let l : at < at + suc (length s) = omega arith in
    rw (e, drop-set-lt (at + suc (length s)) d at x l, add-one at, take-suc-set d at x h, append_snoc)

pub filled : (d : List ℕ) (at code written : ℕ) (reply : List ℕ) (o : Outcome) → at + slot_length ≤ length d → code ≡ o.code → written ≡ o.written → reply ≡ o.buffer
    → splice (set (set d at code) (at + 1) written) (at + 2) reply ≡ splice d at (slot o)
filled d at code written reply o h p q r =
    let e : at + 2 ≡ at + 1 + 1 = omega arith in
    rw (← p, ← q, ← r, e, splice-cons (set d at code) (at + 1) written reply (simp length-set (omega arith)))
    (splice-cons d at code (written ∷ reply) (omega arith))

-- so far: the rest of the records is left to feed, and the next slot is at a place

pub record Feeding (table₀ records output₀ table output rest : List ℕ) (at : ℕ) : Type 0 where
  pub all : List (List ℕ)
  pub left : List (List ℕ)
  pub whole : messages_in records ≡ sound all
  pub behind : messages_in rest ≡ sound left
  pub room : at + slot_length * length left ≤ length output
  pub as_long : length output ≡ length output₀
  pub table-as-long : length table ≡ length table₀
  pub output-is : splice output at (slots_of (outcomes fed table left)) ≡ splice output₀ 0 (slots_of (outcomes fed table₀ all))
  pub table_is_lem : table_after fed table left ≡ table_after fed table₀ all

pub feeding-first : (table records output : List ℕ) → CanFeed records (length output) → Feeding table records output table output records 0
feeding-first table records output (all, (e, h)) =
    record {
      all = all;
      left = all;
      whole = e;
      behind = e;
      room = omega arith;
      as_long = refl;
      table-as-long = refl;
      output-is = refl;
      table_is_lem = refl;
    }

module _ {table₀ records output₀ table output rest : List ℕ} {at : ℕ} (f : Feeding table₀ records output₀ table output rest at) where
  pub feeding-record : 0 < length rest → IsRecord rest
  feeding-record h = first-is rest f.left h f.behind

  module _ (m : List ℕ) (e : one_record rest ≡ took m (drop (1 + length m) rest)) where
    -- what is left begins with it
    first-left : {C : Type 0} → ((others : List (List ℕ)) → messages_in (drop (1 + length m) rest) ≡ sound others → f.left ≡ m ∷ others → C) → C
    first-left next =
        through (messages_in (drop (1 + length m) rest)) _ f.left (sym (messages-step rest _ e) ∙ f.behind) λ others p q.
        next others p (sym (sound-inj q))

    -- there is a slot for it, and it ends within the records
    pub feeding-within : (at + slot_length ≤ length output) × (1 + length m ≤ length rest)
    feeding-within =
        let behind = drop (1 + length m) rest in
        let w = record-was rest (record { value = m; rest = behind }) e in
        let l : length rest ≡ suc (length m + length behind) = ap length w.0 ∙ ap suc (length-append m behind) in
        (first-left λ others p q. let h : at + slot_length * length (m ∷ others) ≤ length output = subst (λ (l : List (List ℕ)). at + slot_length * length l ≤ length output) q f.room in omega arith, omega arith)

    pub feeding-step : (table' output' rest' : List ℕ) → table' ≡ (fed table m).table → output' ≡ splice output at (slot (fed table m)) → length table' ≡ length table
        → length output' ≡ length output → rest' ≡ drop (1 + length m) rest → Feeding table₀ records output₀ table' output' rest' (at + slot_length)
    unfolding outcomes slots_of table_after
    feeding-step table' output' rest' a b k l n =
        first-left λ others p q.
        let h : at + slot_length * length (m ∷ others) ≤ length output = subst (λ (r : List (List ℕ)). at + slot_length * length r ≤ length output) q f.room in
        let x : slots_of (outcomes fed table f.left) ≡ slot (fed table m) ++ slots_of (outcomes fed (fed table m).table others) = ap (λ (r : List (List ℕ)). slots_of (outcomes fed table r)) q in
        let y : length (slots_of (outcomes fed (fed table m).table others)) ≡ slot_length * length others = slots_length (fed table m).table others in
        let z : length (slot (fed table m)) ≡ slot_length = slot-length table m in
        record {
          all = f.all;
          left = others;
          whole = f.whole;
          behind = rw n p;
          room = rw l (omega arith);
          as_long = l ∙ f.as_long;
          table-as-long = k ∙ f.table-as-long;
          output-is =
              rw (a, b, ← z)
              (splice-splice output at (slot (fed table m)) (slots_of (outcomes fed (fed table m).table others)) (omega arith)
              ∙ ap (splice output at) (sym x) ∙ f.output-is);
          table_is_lem = rw a (ap (table_after fed table) (sym q) ∙ f.table_is_lem);
        }

  -- none is left
  module _ (h : rest ≡ []) (messages : List (List ℕ)) (e : messages_in records ≡ sound messages) where
    none_left : f.left ≡ []
    none_left = sym (sound-inj (sym messages-none ∙ ap messages_in (sym h) ∙ f.behind))

    all-fed : f.all ≡ messages
    all-fed = sound-inj (sym f.whole ∙ e)

    pub output-fed : output ≡ splice output₀ 0 (slots_of (outcomes fed table₀ messages))
    unfolding outcomes slots_of
    output-fed = rw (← all-fed) (paste-zero output at [] ∙ wholly output at [] 0 refl ∙ ap (λ (l : List (List ℕ)). splice output at (slots_of (outcomes fed table l))) (sym none_left) ∙ f.output-is)

    pub table-fed : table ≡ table_after fed table₀ messages
    unfolding table_after
    table-fed = rw (← all-fed) (ap (table_after fed table) (sym none_left) ∙ f.table_is_lem)

-- the paths of the call

fault-inj : {A : Type 0} {a b : ℕ} → ◌≡◌ {A = Answer A} (fault a) (fault b) → a ≡ b
fault-inj e = cc

module _ (t s o : List ℕ) where
  abbrev Leaves : Batched → List ℕ → List ℕ → Type 0
  Leaves r o' t' = (r ≡ batched_of (batch t s o)) × ((o' ≡ (batch t s o).output) × (t' ≡ (batch t s o).table))

  pub refused-table : (r : Batched) → valid t ≡ false → r ≡ refused_batch 28 → Leaves r o t
  unfolding batch to_feed
  refused-table r v e = rw (e, v) (refl, (refl, refl))

  module _ (v : valid t ≡ true) where
    pub refused-records : (r : Batched) → fault bad_record ≡ counted s → r ≡ refused_batch 30 → Leaves r o t
    unfolding batch to_feed counted
    refused-records r n e = go (messages_in s) refl n
      where
        go : (found : Answer (List (List ℕ))) → messages_in s ≡ found → fault bad_record ≡ and_then found (λ messages. sound (length messages)) → Leaves r o t
        go (fault k) p q = rw (e, v, p, ← fault-inj q) (refl, (refl, refl))
        go (sound row) p q = not_sound q

    module _ (n : ℕ) (c : sound n ≡ counted s) where
      counted-row : {C : Type 0} → ((row : List (List ℕ)) → messages_in s ≡ sound row → length row ≡ n → C) → C
      unfolding counted
      counted-row next = through (messages_in s) _ n (sym c) λ row p q. next row p (sound-inj q)

      pub refused-room : (r : Batched) → length o / slot_length < n → r ≡ refused_batch 31 → Leaves r o t
      unfolding batch to_feed
      refused-room r h e = counted-row λ row p q. let l : length o < slot_length * length row = omega arith in rw (e, v, p, lt-leb (slot_length * length row) (length o) l) (refl, (refl, refl))

      module _ (h : n ≤ length o / slot_length) where
        pub can-feed : CanFeed s (length o)
        can-feed = counted-row λ row p q. (row, (p, omega arith))

        pub wholly-fed : (o' t' : List ℕ) → FedOutput t s o o' → FedTable t s t' → Leaves (record { code = 0; slots = n }) o' t'
        unfolding batch to_feed
        wholly-fed o' t' f g =
            counted-row λ row p q.
            let l : slot_length * length row ≤ length o = omega arith in
            rw (v, p, le-leb (slot_length * length row) (length o) l) (ap (λ (k : ℕ). record { code = 0; slots = k }) (sym q), (f row p, g row p))

-- what is fed: a sound table, whole records, a slot for each
pub to-feed : (t s : List ℕ) (room : ℕ) (row : List (List ℕ)) → to_feed t s room ≡ sound row → (valid t ≡ true) × ((messages_in s ≡ sound row) × (slot_length * length row ≤ room))
unfolding to_feed
to-feed t s room row e =
    passed (valid t) 28 _ row e λ v f.
    through (messages_in s) _ row f λ messages p g.
    passed (leb (slot_length * length messages) room) 31 _ row g λ h q.
    rw (← sound-inj q) (v, (p, leb-true (slot_length * length messages) room h))

-- the slots that are told lie within the output
pub slots-within : (t s o : List ℕ) → slot_length * (batch t s o).slots ≤ length o
unfolding batch
slots-within t s o = go (to_feed t s (length o)) (λ row e. (to-feed t s (length o) row e).1.1)
  where
    go : (found : Answer (List (List ℕ))) → ((row : List (List ℕ)) → found ≡ sound row → slot_length * length row ≤ length o) → slot_length * (batch_of t o found).slots ≤ length o
    go (fault n) h = omega arith
    go (sound row) h = h row refl
