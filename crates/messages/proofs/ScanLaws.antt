-- Information elements and the mandatory part: they look only at what they take, the scans go on behind a whole element,
-- and a longer Facility value in the place of another is found where that one was.
use Prim.Native.Nat.{ℕ, zero, suc, ◌≤◌, ◌<◌}
use mathlib.Core.Path.{◌≡◌, refl, sym, ap, ◌∙◌, subst}
use mathlib.Core.List.{List, [], ◌∷◌, ◌++◌, append_assoc}
use mathlib.Core.Bool.{Bool, true, false, cond, ◌&&◌, ◌||◌, and-true}
use mathlib.Core.Option.{Option, none, some}
use native.Mathlib.Omega.{arith}
use lib.ListN.{length, get_or, take, drop, length-append, take-append-drop}
use lib.Seq.{length-take-le}
use lib.Dec.{leb, eqb}
use borrow.Author.Tests.{lt-leb, leb-true, ne_eqb, eqb-true, eqb-false}
use Rattle.octets.specs.Reader.{Answer, fault, sound, Taken, took, seq, done, need, octet, front, is_empty}
use Rattle.octets.proofs.ReaderLaws.{sound-inj, not_sound, through, passed, Local, IsLocal, done-local, seq-local, need-local, cond-local, octet-local, front-local, front-back, stays, either, front-was}
use Rattle.octets.proofs.EndLaws.{Ends, further-ends}
use Rattle.octets.proofs.FaultLaws.{Faults, then-faults, check-faults, read-faults, octet-faults, front-faults}
use Rattle.messages.specs.Layout.{mandatory_missing, register_type, facility_type, sized, mandatory}
use Rattle.messages.specs.Scan.{Information, absent, cut, information, onward, clear_of, clear, required, wanted, first_of, first_taken, contents_of, first_whole}
use Rattle.messages.specs.LaterEdition.{Passed, nothing, another}

pub information-local : IsLocal information
unfolding information
information-local =
    seq-local (octet absent) _ (octet-local absent) λ i.
    cond-local (leb 0x80 i) _ _ (done-local (record { identifier = i; contents = [] }))
    (seq-local (octet cut) _ (octet-local cut) λ n.
    seq-local (front cut n) _ (front-local cut n) λ v.
    done-local (record { identifier = i; contents = v }))

pub sized-local : IsLocal sized
unfolding sized
sized-local = seq-local (octet mandatory_missing) _ (octet-local mandatory_missing) λ n. front-local mandatory_missing n

pub mandatory-local : (t : ℕ) → IsLocal (mandatory t)
unfolding mandatory
mandatory-local t =
    cond-local (eqb t register_type) _ _
    (seq-local (octet mandatory_missing) _ (octet-local mandatory_missing) λ i.
    need-local (eqb i 0x1C) mandatory_missing sized sized-local)
    sized-local

-- an information element takes at least an octet
pub information-shorter : (s : List ℕ) (g : Taken Information) → information s ≡ sound g → length g.rest < length s
unfolding information
information-shorter s g e = go f.taken f.split (f.again [])
  where
    f : Local information s g
    f = information-local s g e

    go : (a : List ℕ) → s ≡ a ++ g.rest → information (a ++ []) ≡ took g.value [] → length g.rest < length s
    go [] p q = not_sound q
    go (h ∷ a) p q = rw p (simp length-append (omega arith))

-- what follows a whole one, where both ways to go on agree on all that is shorter
onward-same : (s : List ℕ) (o : Answer (Taken Information)) → information s ≡ o → (j k : List ℕ → Bool)
    → ((r : List ℕ) → length r < length s → j r ≡ k r) → onward o j ≡ onward o k
onward-same s (fault n) e j k h = refl
onward-same s (sound g) e j k h = h g.rest (information-shorter s g e)

wanted-same : (w : ℕ) (s : List ℕ) (o : Answer (Taken Information)) → information s ≡ o → (j k : List ℕ → Option (Taken (List ℕ)))
    → ((r : List ℕ) → length r < length s → j r ≡ k r) → wanted w o j ≡ wanted w o k
wanted-same w s (fault n) e j k h = refl
wanted-same w s (sound g) e j k h = rw (h g.rest (information-shorter s g e))

-- any count that is at least the length gives the same
clear-turn : (s : List ℕ) (m n : ℕ) → length s ≤ suc m → length s ≤ n
    → ((r : List ℕ) (k : ℕ) → length r ≤ m → length r ≤ k → clear_of m r ≡ clear_of k r) → clear_of (suc m) s ≡ clear_of n s
unfolding clear_of
clear-turn [] m zero p q ih = refl
clear-turn [] m (suc n) p q ih = refl
clear-turn (a ∷ s) m zero p q ih = absurd (omega arith)
clear-turn (a ∷ s) m (suc n) p q ih =
    ap (λ (b : Bool). leb 0x10 a && b)
    (onward-same (a ∷ s) (information (a ∷ s)) refl _ _ (λ r l. ih r n (omega arith) (omega arith)))

clear_zero : (s : List ℕ) (n : ℕ) → length s ≤ 0 → clear_of zero s ≡ clear_of n s
unfolding clear_of
clear_zero s zero p = refl
clear_zero [] (suc n) p = refl
clear_zero (a ∷ s) (suc n) p = absurd (omega arith)

clear-enough : (m : ℕ) (s : List ℕ) (n : ℕ) → length s ≤ m → length s ≤ n → clear_of m s ≡ clear_of n s
clear-enough zero s n p q = clear_zero s n p
clear-enough (suc m) s n p q = clear-turn s m n p q (λ r k u v. clear-enough m r k u v)

first-turn : (w : ℕ) (s : List ℕ) (m n : ℕ) → length s ≤ suc m → length s ≤ n
    → ((r : List ℕ) (k : ℕ) → length r ≤ m → length r ≤ k → first_of m w r ≡ first_of k w r) → first_of (suc m) w s ≡ first_of n w s
unfolding first_of information
first-turn w [] m zero p q ih = refl
first-turn w (a ∷ s) m zero p q ih = absurd (omega arith)
first-turn w s m (suc n) p q ih = wanted-same w s (information s) refl _ _ (λ r l. ih r n (omega arith) (omega arith))

first-zero : (w : ℕ) (s : List ℕ) (n : ℕ) → length s ≤ 0 → first_of zero w s ≡ first_of n w s
unfolding first_of information
first-zero w s zero p = refl
first-zero w [] (suc n) p = refl
first-zero w (a ∷ s) (suc n) p = absurd (omega arith)

first-enough : (w m : ℕ) (s : List ℕ) (n : ℕ) → length s ≤ m → length s ≤ n → first_of m w s ≡ first_of n w s
first-enough w zero s n p q = first-zero w s n p
first-enough w (suc m) s n p q = first-turn w s m n p q (λ r k u v. first-enough w m r k u v)

-- the comprehension scan: at the end, at a whole element, and where none can be read
pub clear_none : clear [] ≡ true
unfolding clear clear_of
clear_none = refl

pub clear_step : (s : List ℕ) (g : Taken Information) → information s ≡ sound g → clear s ≡ (leb 0x10 (get_or s 0 0) && clear g.rest)
unfolding clear clear_of information
clear_step [] g e = not_sound e
clear_step (a ∷ s) g e =
    let l = information-shorter (a ∷ s) g e in
    rw e (ap (λ (b : Bool). leb 0x10 a && b) (clear-enough (length s) g.rest (length g.rest) (omega arith) (omega arith)))

pub clear-cut : (s : List ℕ) (n : ℕ) → information s ≡ fault n → clear s ≡ (is_empty s || leb 0x10 (get_or s 0 0))
unfolding clear clear_of
clear-cut [] n e = refl
clear-cut (a ∷ s) n e = rw e (and-true (leb 0x10 a))

-- "an identifier from 00 to 0F .. gives cause 96, also when cut short": whatever stands behind it
pub clear-refused : (a : ℕ) (s : List ℕ) → a < 0x10 → clear (a ∷ s) ≡ false
unfolding clear clear_of
clear-refused a s h = rw (lt-leb 0x10 a h)

-- the first whole one with an identifier: at a whole element, and where none can be read
pub taken_step : (w : ℕ) (s : List ℕ) (g : Taken Information) → information s ≡ sound g
    → first_taken w s ≡ cond (eqb g.value.identifier w) (some (record { value = g.value.contents; rest = g.rest })) (first_taken w g.rest)
unfolding first_taken first_of information
taken_step w [] g e = not_sound e
taken_step w (a ∷ s) g e =
    let l = information-shorter (a ∷ s) g e in
    rw (e, first-enough w (length s) g.rest (length g.rest) (omega arith) (omega arith))

pub taken_none : (w : ℕ) (s : List ℕ) (n : ℕ) → information s ≡ fault n → first_taken w s ≡ none
unfolding first_taken first_of
taken_none w [] n e = refl
taken_none w (a ∷ s) n e = rw e

contents-either : (b : Bool) (t : Taken (List ℕ)) (o : Option (Taken (List ℕ))) → contents_of (cond b (some t) o) ≡ cond b (some t.value) (contents_of o)
contents-either true t o = refl
contents-either false t o = refl

-- the same of its contents alone
pub first_step : (w : ℕ) (s : List ℕ) (g : Taken Information) → information s ≡ sound g
    → first_whole w s ≡ cond (eqb g.value.identifier w) (some g.value.contents) (first_whole w g.rest)
unfolding first_whole
first_step w s g e = ap contents_of (taken_step w s g e) ∙ contents-either (eqb g.value.identifier w) _ (first_taken w g.rest)

pub first-none : (w : ℕ) (s : List ℕ) (n : ℕ) → information s ≡ fault n → first_whole w s ≡ none
unfolding first_whole
first-none w s n e = ap contents_of (taken_none w s n e)

-- a length of one plain octet and so many octets read back, whatever stands behind them
pub sized-back : (v r : List ℕ) → sized (length v ∷ (v ++ r)) ≡ took v r
unfolding sized
sized-back v r = front-back mandatory_missing v r (length v) refl

pub information-back : (i : ℕ) (v r : List ℕ) → i < 0x80
    → information (i ∷ length v ∷ (v ++ r)) ≡ took (record { identifier = i; contents = v }) r
unfolding information
information-back i v r h = rw (lt-leb 0x80 i h, front-back cut v r (length v) refl)

-- the mandatory part with this Facility value, and what stands behind it
abbrev pub laid : ℕ → List ℕ → List ℕ → List ℕ
laid type v behind = cond (eqb type register_type) (0x1C ∷ length v ∷ (v ++ behind)) (length v ∷ (v ++ behind))

pub mandatory-back : (t : ℕ) (v r : List ℕ) → mandatory t (laid t v r) ≡ took v r
unfolding mandatory
mandatory-back t v r = go (eqb t register_type)
  where
    go : (b : Bool) → cond b (seq (octet mandatory_missing) (λ i. need (eqb i 0x1C) mandatory_missing sized)) sized
        (cond b (0x1C ∷ length v ∷ (v ++ r)) (length v ∷ (v ++ r))) ≡ took v r
    go true = sized-back v r
    go false = sized-back v r

-- what was read as a mandatory part was laid so
sized-is : (s v r : List ℕ) → sized s ≡ took v r → s ≡ length v ∷ (v ++ r)
unfolding sized
sized-is [] v r e = not_sound e
sized-is (n ∷ s) v r e =
    passed (leb n (length s)) mandatory_missing (took (take n s) (drop n s)) _ e λ t h.
    let g = sound-inj h in
    let a : take n s ≡ v = ap (λ k. k.value) g in
    let b : drop n s ≡ r = ap (λ k. k.rest) g in
    rw (← a, ← b, length-take-le n s (leb-true n (length s) t), take-append-drop n s)

pub mandatory-is : (t : ℕ) (s v r : List ℕ) → mandatory t s ≡ took v r → s ≡ laid t v r
unfolding mandatory
mandatory-is t s v r e = go (eqb t register_type) s e
  where
    go : (b : Bool) (x : List ℕ) → cond b (seq (octet mandatory_missing) (λ i. need (eqb i 0x1C) mandatory_missing sized)) sized x ≡ took v r
        → x ≡ cond b (0x1C ∷ length v ∷ (v ++ r)) (length v ∷ (v ++ r))
    go true [] h = not_sound h
    go true (i ∷ x) h =
        passed (eqb i 0x1C) mandatory_missing (sized x) _ h λ k q.
        λ n. eqb-true i 0x1C k n ∷ sized-is x v r q n
    go false x h = sized-is x v r h

pub register-back : (v r : List ℕ) → mandatory register_type (0x1C ∷ length v ∷ (v ++ r)) ≡ took v r
register-back v r = mandatory-back register_type v r

pub facility-back : (v r : List ℕ) → mandatory facility_type (length v ∷ (v ++ r)) ≡ took v r
facility-back v r = mandatory-back facility_type v r

-- in a REGISTER or FACILITY, another Facility value in the place of the first is taken as that one was
pub required-later : (t : ℕ) (s v r w : List ℕ) → required t s ≡ took v r → required t (laid t w r) ≡ took w r
unfolding required
required-later t s v r w e =
    through (mandatory t s) _ _ e λ g p q.
    passed (clear g.rest) mandatory_missing (sound g) _ q λ k h.
    rw (mandatory-back t w r, ← ap (λ (y : Taken (List ℕ)). y.rest) (sound-inj h), k)

-- the first with that identifier lies behind them
pub first-behind : {w : ℕ} {before : List ℕ} (behind : List ℕ) → Passed w before → first_whole w (before ++ behind) ≡ first_whole w behind
first-behind behind nothing = refl
first-behind {w} behind (another {s = s} g e f p) =
    first_step w (s ++ behind) _ (stays information information-local s behind g e)
    ∙ rw (ne_eqb g.value.identifier w f) (first-behind behind p)

-- and any first one depends on what stands behind them only by the first one there
pub first-same : {w : ℕ} {before : List ℕ} (k : ℕ) (x y : List ℕ) → Passed w before → first_whole k x ≡ first_whole k y
    → first_whole k (before ++ x) ≡ first_whole k (before ++ y)
first-same k x y nothing h = h
first-same k x y (another {s = s} g e f p) h =
    first_step k (s ++ x) _ (stays information information-local s x g e)
    ∙ ap (λ (o : Option (List ℕ)). cond (eqb g.value.identifier k) (some g.value.contents) o) (first-same k x y p h)
    ∙ sym (first_step k (s ++ y) _ (stays information information-local s y g e))

facility-first : (v behind : List ℕ) → first_whole 0x1C (0x1C ∷ length v ∷ (v ++ behind)) ≡ some v
facility-first v behind = first_step 0x1C (0x1C ∷ length v ∷ (v ++ behind)) _ (information-back 0x1C v behind (omega arith))

cause-behind : (v behind : List ℕ) → first_whole 0x08 (0x1C ∷ length v ∷ (v ++ behind)) ≡ first_whole 0x08 behind
cause-behind v behind = first_step 0x08 (0x1C ∷ length v ∷ (v ++ behind)) _ (information-back 0x1C v behind (omega arith))

-- in RELEASE COMPLETE, another value in the place of the first whole 1C's is taken as that one was, and the first whole 08 stays
pub release-later : {before : List ℕ} (v w behind : List ℕ) → Passed 0x1C before
    → (first_whole 0x1C (before ++ (0x1C ∷ length v ∷ (v ++ behind))) ≡ some v)
    × (first_whole 0x1C (before ++ (0x1C ∷ length w ∷ (w ++ behind))) ≡ some w)
    × (first_whole 0x08 (before ++ (0x1C ∷ length w ∷ (w ++ behind))) ≡ first_whole 0x08 (before ++ (0x1C ∷ length v ∷ (v ++ behind))))
release-later v w behind p = (
  first-behind (0x1C ∷ length v ∷ (v ++ behind)) p ∙ facility-first v behind,
  first-behind (0x1C ∷ length w ∷ (w ++ behind)) p ∙ facility-first w behind,
  first-same 0x08 (0x1C ∷ length w ∷ (w ++ behind)) (0x1C ∷ length v ∷ (v ++ behind)) p (cause-behind w behind ∙ sym (cause-behind v behind)),
)

-- an element that is read with a length was laid so
laid_so : (i : ℕ) (s : List ℕ) (g : Taken Information)
    → seq (octet cut) (λ n. seq (front cut n) (λ v. done (record { identifier = i; contents = v }))) s ≡ sound g
    → i ∷ s ≡ g.value.identifier ∷ length g.value.contents ∷ (g.value.contents ++ g.rest)
laid_so i [] g e = not_sound e
laid_so i (n ∷ s) g e =
    through (front cut n s) _ g e λ f p q.
    passed (leb n (length s)) cut (took (take n s) (drop n s)) f p λ t h.
    rw (← sound-inj q, ← sound-inj h, length-take-le n s (leb-true n (length s) t), take-append-drop n s)

information-is : (s : List ℕ) (g : Taken Information) → information s ≡ sound g → g.value.identifier < 0x80
    → s ≡ g.value.identifier ∷ length g.value.contents ∷ (g.value.contents ++ g.rest)
unfolding information
information-is [] g e h = not_sound e
information-is (i ∷ s) g e h =
    either (leb 0x80 i) (done (record { identifier = i; contents = [] })) _ s g e
    (λ t k. absurd (omega (arith, leb-true 0x80 i t, ap (λ (j : Taken Information). j.value.identifier) (sound-inj k))))
    (λ _ k. laid_so i s g k)

-- where the first whole one with the identifier w was found
pub record FirstAt (w : ℕ) (s v : List ℕ) : Type 0 where
  pub before : List ℕ
  pub behind : List ℕ
  pub others : Passed w before
  pub split : s ≡ before ++ (w ∷ length v ∷ (v ++ behind))

found-further : (w : ℕ) (s v : List ℕ) (g : Taken Information) → information s ≡ sound g → eqb g.value.identifier w ≡ false → FirstAt w g.rest v → FirstAt w s v
found-further w s v g e f d =
    let l = information-local s g e in
    record {
      before = l.taken ++ d.before;
      behind = d.behind;
      others = another (record { value = g.value; rest = d.before }) (l.again d.before) (eqb-false g.value.identifier w f) d.others;
      split = rw append_assoc (l.split ∙ ap (λ (r : List ℕ). l.taken ++ r) d.split);
    }

-- each RELEASE COMPLETE in which one is found has that shape
pub first_found : (w : ℕ) (s v : List ℕ) → w < 0x80 → first_whole w s ≡ some v → FirstAt w s v
first_found w s v h e = go (length s) s (omega arith) e
  where
    met : (x : List ℕ) (g : Taken Information) → information x ≡ sound g → (b : Bool) → eqb g.value.identifier w ≡ b
        → cond b (some g.value.contents) (first_whole w g.rest) ≡ some v → (first_whole w g.rest ≡ some v → FirstAt w g.rest v) → FirstAt w x v
    met x g p true q k ih =
        let i : g.value.identifier ≡ w = eqb-true g.value.identifier w q in
        let c : g.value.contents ≡ v = cc in
        record { before = []; behind = g.rest; others = nothing; split = rw (← i, ← c) (information-is x g p (omega arith)) }
    met x g p false q k ih = found-further w x v g p q (ih k)

    turn : (x : List ℕ) (o : Answer (Taken Information)) → information x ≡ o → first_whole w x ≡ some v
        → ((r : List ℕ) → length r < length x → first_whole w r ≡ some v → FirstAt w r v) → FirstAt w x v
    turn x (fault n) p k ih = let y = first-none w x n p in let z : ◌≡◌ {A = ℕ} 0 1 = cc in absurd (omega arith)
    turn x (sound g) p k ih = met x g p (eqb g.value.identifier w) refl (sym (first_step w x g p) ∙ k) (ih g.rest (information-shorter x g p))

    go : (m : ℕ) (x : List ℕ) → length x ≤ m → first_whole w x ≡ some v → FirstAt w x v
    go zero x l k = turn x (information x) refl k (λ r j f. absurd (omega arith))
    go (suc m) x l k = turn x (information x) refl k (λ r j f. go m r (omega arith) f)

-- a REGISTER or FACILITY in which the Facility value was found was laid so
pub required-was : (type : ℕ) (s : List ℕ) (g : Taken (List ℕ)) → required type s ≡ sound g → s ≡ laid type g.value g.rest
unfolding required
required-was type s g e =
    through (mandatory type s) _ g e λ k p r.
    passed (clear k.rest) mandatory_missing (sound k) g r λ t z.
    mandatory-is type s g.value g.rest (p ∙ z)

some_inj : {a b : Taken (List ℕ)} → some a ≡ some b → a ≡ b
some_inj e = cc

-- the contents of an information element, and what stands behind it
length-ends : (i : ℕ) (s : List ℕ) (g : Taken Information)
    → seq (octet cut) (λ n. seq (front cut n) (λ v. done (record { identifier = i; contents = v }))) s ≡ sound g → Ends (g.value.contents ++ g.rest) (i ∷ s)
length-ends i [] g e = not_sound e
length-ends i (n ∷ s) g e =
    through (front cut n s) _ g e λ f p q.
    let w = front-was cut n s f p in
    (i ∷ n ∷ [], ap (λ (l : List ℕ). i ∷ n ∷ l) w.0 ∙ ap (λ (j : Taken Information). i ∷ n ∷ (j.value.contents ++ j.rest)) (sound-inj q))

information-ends : (s : List ℕ) (g : Taken Information) → information s ≡ sound g → Ends (g.value.contents ++ g.rest) s
unfolding information
information-ends [] g e = not_sound e
information-ends (i ∷ s) g e =
    either (leb 0x80 i) (done (record { identifier = i; contents = [] })) _ s g e
    (λ _ k. (i ∷ [], ap (λ (j : Taken Information). i ∷ (j.value.contents ++ j.rest)) (sound-inj k)))
    (λ _ k. length-ends i s g k)

pub taken-ends : (w : ℕ) (s : List ℕ) (v : Taken (List ℕ)) → first_taken w s ≡ some v → Ends (v.value ++ v.rest) s
taken-ends w s v e = go (length s) s (omega arith) e
  where
    met : (x : List ℕ) (g : Taken Information) → information x ≡ sound g → (b : Bool)
        → cond b (some (record { value = g.value.contents; rest = g.rest })) (first_taken w g.rest) ≡ some v
        → (first_taken w g.rest ≡ some v → Ends (v.value ++ v.rest) g.rest) → Ends (v.value ++ v.rest) x
    met x g p true k ih = subst (λ (z : Taken (List ℕ)). Ends (z.value ++ z.rest) x) (some_inj k) (information-ends x g p)
    met x g p false k ih = let l = information-local x g p in further-ends (v.value ++ v.rest) g.rest x (ih k) (l.taken, l.split)

    turn : (x : List ℕ) (o : Answer (Taken Information)) → information x ≡ o → first_taken w x ≡ some v
        → ((r : List ℕ) → length r < length x → first_taken w r ≡ some v → Ends (v.value ++ v.rest) r) → Ends (v.value ++ v.rest) x
    turn x (fault n) p k ih = let y = sym (taken_none w x n p) ∙ k in let z : ◌≡◌ {A = ℕ} 0 1 = cc in absurd (omega arith)
    turn x (sound g) p k ih = met x g p (eqb g.value.identifier w) (sym (taken_step w x g p) ∙ k) (ih g.rest (information-shorter x g p))

    go : (m : ℕ) (x : List ℕ) → length x ≤ m → first_taken w x ≡ some v → Ends (v.value ++ v.rest) x
    go zero x l k = turn x (information x) refl k (λ r j f. absurd (omega arith))
    go (suc m) x l k = turn x (information x) refl k (λ r j f. go m r (omega arith) f)

pub laid-ends : (type : ℕ) (v r s : List ℕ) → s ≡ laid type v r → Ends (v ++ r) s
laid-ends type v r s e = go (eqb type register_type) e
  where
    go : (b : Bool) → s ≡ cond b (0x1C ∷ length v ∷ (v ++ r)) (length v ∷ (v ++ r)) → Ends (v ++ r) s
    go true h = (0x1C ∷ length v ∷ [], h)
    go false h = (length v ∷ [], h)

-- step 4 has one cause
pub required-faults : (P : ℕ → Type 0) (type : ℕ) (s : List ℕ) → P mandatory_missing → Faults P (required type s)
unfolding required mandatory sized
required-faults P type s h =
    then-faults P (mandatory type s) _
    (read-faults P (eqb type register_type) _ _ s
    (then-faults P (octet mandatory_missing s) _ (octet-faults P mandatory_missing s h) λ i. check-faults P (eqb i.value 0x1C) mandatory_missing _ h (sized-faults i.rest))
    (sized-faults s))
    (λ g. check-faults P (clear g.rest) mandatory_missing (sound g) h tt)
  where
    sized-faults : (r : List ℕ) → Faults P (sized r)
    sized-faults r = then-faults P (octet mandatory_missing r) _ (octet-faults P mandatory_missing r h) λ n. front-faults P mandatory_missing n.value n.rest h
