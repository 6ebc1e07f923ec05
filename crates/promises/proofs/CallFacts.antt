-- What is known of every local call: it is refused with one of 01's numbers, or it sends a message that fits and changes the
-- entry that it names to one that an image can hold.
use Prim.Native.Nat.{ℕ, ◌+◌, ◌≤◌, ◌<◌}
use mathlib.Core.Path.{◌≡◌, refl, ap, ◌∙◌}
use mathlib.Core.List.{List}
use mathlib.Core.Bool.{Bool, true, false, cond, not, ◌&&◌, ◌||◌}
use mathlib.Core.Option.{Option, none, some}
use native.Mathlib.Omega.{arith}
use lib.IntN.{ℤ}
use lib.ListN.{length}
use lib.Dec.{leb, eqb}
use borrow.Author.Tests.{leb-true, not-true}
use Rattle.octets.specs.Reader.{Answer, fault, sound, and_then, check}
use Rattle.octets.proofs.ReaderLaws.{sound-inj, not_sound, through, passed}
use Rattle.codes.specs.Operations.{begins}
use Rattle.codes.proofs.IdLaws.{IsId}
use Rattle.codes.specs.Errors.{listed}
use Rattle.parameters.specs.Suits.{suits, none_or_one, InvokeWritten, ResultWritten}
use Rattle.sides.specs.Side.{among, full, operation_of}
use Rattle.sides.proofs.SideLaws.{neither}
use Rattle.table.specs.Table.{entry_number, named, entry_at, valid, lowest_closed}
use Rattle.table.specs.Change.{ours, peers, CanChange}
use Rattle.table.proofs.TableLaws.{holds_at, lowest-closed-is}
use Rattle.table.proofs.ChangeLaws.{SaidIn, begins-holds, adds-holds, clears-holds, closes-holds}
use Rattle.calling.specs.Calls.{Sending, or_refused, transaction, fitting, send_begin, send_invoke, send_result, send_error, send_release}
use Rattle.promises.specs.OneVerdict.{is_refusal}

never : {C : Type 0} {k : ℕ} → ◌≡◌ {A = Option ℕ} none (some k) → C
never e = let z : ◌≡◌ {A = ℕ} 0 1 = cc in absurd (omega arith)

named-most : (flag value k : ℕ) → named flag value ≡ some k → k < 14
named-most flag value k e = go (leb flag 1) (leb value 6) refl e
  where
    placed : (b : Bool) → value ≤ 6 → cond b value (7 + value) < 14
    placed true h = omega arith
    placed false h = omega arith

    go : (a c : Bool) → leb value 6 ≡ c → cond (a && c) (some (entry_number flag value)) none ≡ some k → k < 14
    go true true q e =
        let h : entry_number flag value ≡ k = cc in
        let l = placed (eqb flag 1) (leb-true value 6 q) in
        omega arith
    go true false q e = never e
    go false true q e = never e
    go false false q e = never e

-- what it sends fits, and its entry can change so; an id that it adds is said where the call's is
pub record Goes (t : List ℕ) (room : ℕ) (which : Option ℕ) (said : Type 0) (s : Sending) : Type 0 where
  pub short : length s.message ≤ 255
  pub fits : length s.message ≤ room
  pub names : which ≡ some s.entry
  pub can : CanChange t s.entry s.change
  pub says : said → SaidIn s.change

abbrev pub Fine : List ℕ → ℕ → Option ℕ → Type 0 → Answer Sending → Type 0
Fine t room which said (fault n) = is_refusal n ≡ true
Fine t room which said (sound s) = Goes t room which said s

module _ (t : List ℕ) (room : ℕ) (which : Option ℕ) (said : Type 0) where
  fine-check : (b : Bool) (n : ℕ) (o : Answer Sending) → is_refusal n ≡ true → (b ≡ true → Fine t room which said o) → Fine t room which said (check b n o)
  fine-check true n o h k = k refl
  fine-check false n o h k = h

  fine-fitting : (s : Sending) → which ≡ some s.entry → CanChange t s.entry s.change → (said → SaidIn s.change) → Fine t room which said (fitting room s)
  unfolding fitting
  fine-fitting s w h f =
      fine-check (leb (length s.message) 255) 26 _ refl λ a.
      fine-check (leb (length s.message) room) 27 (sound s) refl λ c.
      record { short = leb-true _ _ a; fits = leb-true _ _ c; names = w; can = h; says = f }

  fine-named : (o : Option ℕ) (n : ℕ) (k : ℕ → Answer Sending) → is_refusal n ≡ true → ((v : ℕ) → o ≡ some v → Fine t room which said (k v)) → Fine t room which said (and_then (or_refused n o) k)
  fine-named none n k h f = h
  fine-named (some v) n k h f = f v refl

  fine-open : (k : ℕ) (f : ℕ → Answer Sending) → ((entry_at t k).is_open ≡ true → Fine t room which said (f k)) → Fine t room which said (and_then (check (entry_at t k).is_open 22 (sound k)) f)
  fine-open k f h = go (entry_at t k).is_open refl
    where
      go : (b : Bool) → (entry_at t k).is_open ≡ b → Fine t room which said (and_then (check b 22 (sound k)) f)
      go true e = h e
      go false e = refl

module _ (t : List ℕ) (room : ℕ) where
  -- begin names the lowest closed own value
  pub fine-begin : (o : ℕ) (id : ℤ) (p : List ℕ) → Fine t room (lowest_closed t) (IsId id) (send_begin t room o id p)
  unfolding send_begin
  fine-begin o id p =
      fine-check t room _ _ (valid t) 28 _ refl λ v.
      fine-check t room _ _ (begins o) 20 _ refl λ a.
      fine-named t room _ _ (lowest_closed t) 21 _ refl λ n e.
      fine-check t room _ _ (suits InvokeWritten o p) 25 _ refl λ c.
      let k = lowest-closed-is t n e in
      let l : n < 14 = omega (arith, k.0) in
      fine-fitting t room _ _ _ e (v, (l, begins-holds (entry_at t n) id o (holds_at t n v l) k.1 a)) (λ i. i)

  -- the others name an open transaction by its flag and value
  module _ (flag value : ℕ) where
    fine-transaction : (said : Type 0) (f : ℕ → Answer Sending) → ((k : ℕ) → named flag value ≡ some k → k < 14 → Fine t room (named flag value) said (f k))
        → Fine t room (named flag value) said (and_then (transaction t flag value) f)
    unfolding transaction
    fine-transaction said f h = go (named flag value) refl
      where
        go : (o : Option ℕ) → named flag value ≡ o → Fine t room (named flag value) said (and_then (and_then (or_refused 22 o) (λ k. check (entry_at t k).is_open 22 (sound k))) f)
        go none e = refl
        go (some k) e = fine-open t room (named flag value) said k f (λ q. h k e (named-most flag value k e))

    pub fine-invoke : (o : ℕ) (id : ℤ) (p : List ℕ) → Fine t room (named flag value) (IsId id) (send_invoke t room flag value o id p)
    unfolding send_invoke
    fine-invoke o id p =
        fine-check t room _ _ (valid t) 28 _ refl λ v.
        fine-check t room _ _ (begins o) 20 _ refl λ a.
        fine-transaction _ _ λ k e l.
        fine-check t room _ _ (not (full (entry_at t k).own || among id (entry_at t k).own)) 23 _ refl λ c.
        fine-check t room _ _ (suits InvokeWritten o p) 25 _ refl λ d.
        let w = neither (full (entry_at t k).own) (among id (entry_at t k).own) (not-true _ c) in
        fine-fitting t room _ _ _ e (v, (l, adds-holds (entry_at t k) (holds_at t k v l) ours id o w.0 w.1 a)) (λ i. i)

    pub fine-result : (id : ℤ) (p : List ℕ) → Fine t room (named flag value) (IsId id) (send_result t room flag value id p)
    unfolding send_result
    fine-result id p =
        fine-check t room _ _ (valid t) 28 _ refl λ v.
        fine-transaction _ _ λ k e l.
        fine-check t room _ _ (among id (entry_at t k).peer) 24 _ refl λ c.
        fine-check t room _ _ (suits ResultWritten (operation_of id (entry_at t k).peer) p) 25 _ refl λ d.
        fine-fitting t room _ _ _ e (v, (l, clears-holds (entry_at t k) (holds_at t k v l) peers id)) (λ i. tt)

    pub fine-error : (id : ℤ) (code : ℕ) (p : List ℕ) → Fine t room (named flag value) (IsId id) (send_error t room flag value id code p)
    unfolding send_error
    fine-error id code p =
        fine-check t room _ _ (valid t) 28 _ refl λ v.
        fine-check t room _ _ (listed code) 20 _ refl λ a.
        fine-transaction _ _ λ k e l.
        fine-check t room _ _ (among id (entry_at t k).peer) 24 _ refl λ c.
        fine-check t room _ _ (none_or_one p) 25 _ refl λ d.
        fine-fitting t room _ _ _ e (v, (l, clears-holds (entry_at t k) (holds_at t k v l) peers id)) (λ i. tt)

    pub fine-release : Fine t room (named flag value) (Unit {0}) (send_release t room flag value)
    unfolding send_release
    fine-release =
        fine-check t room _ _ (valid t) 28 _ refl λ v.
        fine-transaction _ _ λ k e l.
        fine-fitting t room _ _ _ e (v, (l, closes-holds (entry_at t k))) (λ i. tt)

-- an open transaction is the entry that its flag and value name
pub transaction-is : (t : List ℕ) (flag value k : ℕ) → transaction t flag value ≡ sound k → named flag value ≡ some k
unfolding transaction
transaction-is t flag value k e =
    through (or_refused 22 (named flag value)) _ k e λ j a b.
    passed (entry_at t j).is_open 22 (sound j) k b λ o c.
    named-of (named flag value) j a ∙ ap some (sound-inj c)
  where
    named-of : (o : Option ℕ) (j : ℕ) → or_refused 22 o ≡ sound j → o ≡ some j
    named-of none j h = not_sound h
    named-of (some i) j h = ap some (sound-inj h)
