-- What the definitions say on each path through the code that reads a component, and where its parameter stands.
use Prim.Native.Nat.{ℕ, ◌+◌, ◌-◌, ◌≤◌}
use mathlib.Core.Path.{◌≡◌, refl, sym, ap, ◌∙◌}
use mathlib.Core.List.{List, [], ◌∷◌}
use mathlib.Core.Bool.{Bool, true, false, ◌&&◌}
use mathlib.Core.Option.{Option as Maybe, none, some}
use native.Mathlib.Omega.{arith}
use native.Mathlib.Nat.{add-zero, sub-zero}
use lib.ListN.{length, get_or, drop, length-drop}
use lib.IntN.{ℤ}
use lib.Seq.{drop-nil, get_or-drop, drop-length}
use lib.Dec.{leb, eqb}
use borrow.Author.Tests.{eq-eqb, ne_eqb}
use Rattle.std.specs.Prelude.{Option, None, Some, Result, Ok, Err}
use Rattle.octets.specs.Part.{between}
use Rattle.octets.specs.Reader.{fault, sound, took, is_empty}
use Rattle.octets.proofs.PartLaws.{length-between, get_d_between, to_end, none_between, rest_part_lem}
use Rattle.elements.specs.Element.{element}
use Rattle.codes.specs.Ids.{id_of}
use Rattle.codes.specs.Problems.{problem_tag}
use Rattle.places.specs.Places.{misplaced, single, parameter, InvokePlaces, invoke_places, coded, rejected}
use Rattle.places.specs.Seen.{last}
use Rattle.places.proofs.Left.{nothing_left, something-left, left-none, left_some, last-is, last_end}
use Rattle.components.specs.Component.{Component, invoke, result, error, reject, parameter_of, invoke_tag, reject_tag, invoke_of, result_of, error_of, reject_of}
use Rattle.components.specs.Facility.{parameter_in, Finding, empty, shows, general, left_over, faulty_reject, after_tag, component, inside, facility, parameter_start}
use Rattle.components.specs.Seen.{shown_seen, parameter_length, unread_seen, UnreadWithin, reading_seen, ReadingWithin, outer_fault}
use Rattle.components.specs.declared.shown.Shown.{Shown}
use Rattle.components.specs.declared.facility.Unread.{Unread}

pub invoke-none : (s : List ℕ) (i : ℤ) (n : ℕ) → fault n ≡ invoke_places s → fault n ≡ invoke_of i s
unfolding invoke_of
invoke-none s i n e = rw (← e)

-- an operation with its linked id, and what is left behind it; i is the id as the code holds it
module _ (s : List ℕ) (c : InvokePlaces) (e : ℕ) (q : took c (drop e s) ≡ invoke_places s) (d : ℤ) where
  pub invoke-fault : (n : ℕ) → fault n ≡ parameter (drop e s) → fault n ≡ invoke_of d s
  unfolding invoke_of
  invoke-fault n z = rw (← q, ← z)

  pub invoke-is : (i : ℤ) → i ≡ d → e ≤ length s → sound (drop e s) ≡ parameter (drop e s)
      → sound (invoke i c.linked c.operation (last (length s - e) s)) ≡ invoke_of d s
  unfolding invoke_of
  invoke-is i j l z = rw (j, last-is s e l, ← q, ← z)

pub error-none : (s : List ℕ) (d : ℤ) (n : ℕ) → fault n ≡ coded s → fault n ≡ error_of d s
unfolding error_of
error-none s d n e = rw (← e)

pub error-is : (s : List ℕ) (d i : ℤ) (o : ℕ) (p : List ℕ) → i ≡ d → sound (record { code = o; parameter = p }) ≡ coded s → sound (error i o p) ≡ error_of d s
unfolding error_of
error-is s d i o p j e = rw (j, ← e)

pub result-bare : (s : List ℕ) (d i : ℤ) (n : ℕ) → i ≡ d → length s ≡ 0 → sound (result i none (last n s)) ≡ result_of d s
unfolding result_of
result-bare [] d i n j h = rw (j, drop-nil)
result-bare (a ∷ s) d i n j h = absurd (omega arith)

pub result-none : (s : List ℕ) (d : ℤ) (n : ℕ) → is_empty s ≡ false → fault n ≡ element s → fault n ≡ result_of d s
unfolding result_of
result-none s d n h e = rw (h, ← e)

module _ (s : List ℕ) (t a e : ℕ) (h : a ≤ e) (l : e ≤ length s) (q : took (record { tag = t; contents = between a e s }) (drop e s) ≡ element s) (d : ℤ) (f : is_empty s ≡ false) where
  pub result-tag : (t ≡ 0x30 → ⊥) → fault misplaced ≡ result_of d s
  unfolding result_of
  result-tag g = rw (f, ← q, ne_eqb t 0x30 g)

  module _ (g : t ≡ 0x30) where
    pub result-fault : (n : ℕ) → fault n ≡ coded (between a e s) → fault n ≡ result_of d s
    unfolding result_of
    result-fault n z = rw (f, ← q, eq-eqb t 0x30 g, ← z)

    module _ (o n : ℕ) (z : sound (record { code = o; parameter = last n (between a e s) }) ≡ coded (between a e s)) where
      pub result-behind : (e ≡ length s → ⊥) → fault misplaced ≡ result_of d s
      unfolding result_of
      result-behind y = rw (f, ← q, eq-eqb t 0x30 g, ← z, left_some s e l y)

      pub result-is : (i : ℤ) → i ≡ d → n ≤ length (between a e s) → e ≡ length s → sound (result i (some o) (last n s)) ≡ result_of d s
      unfolding result_of
      result-is i j k y =
          let r : between a e s ≡ drop a s = to_end a e s (omega arith) in
          let m : n ≤ length (drop a s) = rw r at k in
          rw (f, ← q, eq-eqb t 0x30 g, ← z, left-none s e y, r, last_end s a n (omega arith) m, j)

pub reject-none : (s : List ℕ) (n : ℕ) → fault n ≡ rejected s → fault n ≡ reject_of s
unfolding reject_of
reject-none s n e = rw (← e)

module _ (s : List ℕ) (i : Maybe ℤ) (e : ℕ) (q : took i (drop e s) ≡ rejected s) where
  pub reject-fault : (n : ℕ) → fault n ≡ element (drop e s) → fault n ≡ reject_of s
  unfolding reject_of
  reject-fault n z = rw (← q, ← z)

  module _ (t a f : ℕ) (m : f ≤ length (drop e s)) (z : took (record { tag = t; contents = between a f (drop e s) }) (drop f (drop e s)) ≡ element (drop e s)) where
    pub reject-behind : (f ≡ length s - e → ⊥) → fault misplaced ≡ reject_of s
    unfolding reject_of
    reject-behind g = rw (← q, ← z, left_some (drop e s) f m (λ y. g (y ∙ length-drop e s)))

    module _ (g : f ≡ length s - e) where
      pub reject-tag : problem_tag t ≡ false → fault misplaced ≡ reject_of s
      unfolding reject_of
      reject-tag k = rw (← q, ← z, left-none (drop e s) f (g ∙ sym (length-drop e s)), k)

      pub reject-length : problem_tag t ≡ true → (f - a ≡ 1 → ⊥) → fault misplaced ≡ reject_of s
      unfolding reject_of
      reject-length k y = rw (← q, ← z, left-none (drop e s) f (g ∙ sym (length-drop e s)), k, length-between a f (drop e s) m, ne_eqb (f - a) 1 y)

      pub reject-is : problem_tag t ≡ true → f - a ≡ 1 → sound (reject i t (get_or s (e + a) 0)) ≡ reject_of s
      unfolding reject_of
      reject-is k y =
          rw (
            ← q,
            ← z,
            left-none (drop e s) f (g ∙ sym (length-drop e s)),
            k,
            length-between a f (drop e s) m,
            eq-eqb (f - a) 1 y,
            get_d_between a f (drop e s) 0 (omega arith),
            get_or-drop,
            add-zero,
          )

-- the component shown of a part that goes on to the end is shown of the whole
pub shown_end : (r : Shown) (s : List ℕ) (a : ℕ) → a ≤ length s → parameter_length r ≤ length (drop a s) → shown_seen (drop a s) r ≡ shown_seen s r
shown_end (Shown.Invoke id linked operation n) s a l h = rw (last_end s a n l h)
shown_end (Shown.Result id operation n) s a l h = rw (last_end s a n l h)
shown_end (Shown.Error id code n) s a l h = rw (last_end s a n l h)
shown_end (Shown.Reject id tag problem) s a l h = refl

pub reading-end : (r : Result (Option Shown) Unread) (s : List ℕ) (a : ℕ) → a ≤ length s → ReadingWithin (drop a s) r
    → (reading_seen (drop a s) r ≡ reading_seen s r) × ReadingWithin s r
reading-end (Ok None) s a l h = (refl, tt)
reading-end (Ok (Some r)) s a l h = (ap shows (shown_end r s a l h), omega (arith, length-drop a s))
reading-end (Err u) s a l h = (refl, h)

module _ (s : List ℕ) (tag : ℕ) where
  pub inside-faulty : (n : ℕ) → tag ≡ reject_tag → fault n ≡ reject_of s → faulty_reject ≡ inside tag s
  unfolding inside component
  inside-faulty n f e = rw (eq-eqb tag reject_tag f, ← e, eq-eqb tag reject_tag f)

  pub inside-reject : (c : Component) → tag ≡ reject_tag → sound c ≡ reject_of s → shows c ≡ inside tag s
  unfolding inside component
  inside-reject c f e = rw (eq-eqb tag reject_tag f, ← e)

  module _ (f : tag ≡ reject_tag → ⊥) where
    pub inside-none : (n : ℕ) → fault n ≡ single 0x02 s → general n none ≡ inside tag s
    unfolding inside component
    inside-none n e = rw (ne_eqb tag reject_tag f, ← e, ne_eqb tag reject_tag f, ← e)

    module _ (o e : ℕ) (q : took o (drop e s) ≡ single 0x02 s) where
      pub inside-fault : (n : ℕ) (i : ℤ) → i ≡ id_of o → fault n ≡ after_tag tag (id_of o) (drop e s) → general n (some i) ≡ inside tag s
      unfolding inside component
      inside-fault n i j z = rw (j, ne_eqb tag reject_tag f, ← q, ← z, ne_eqb tag reject_tag f, ← q)

      pub inside-shows : (c : Component) → sound c ≡ after_tag tag (id_of o) (drop e s) → shows c ≡ inside tag s
      unfolding inside component
      inside-shows c z = rw (ne_eqb tag reject_tag f, ← q, ← z)

pub facility-empty : (s : List ℕ) → length s ≡ 0 → empty ≡ facility s
unfolding facility
facility-empty s h = rw (nothing_left s h)

module _ (s : List ℕ) (h : length s ≡ 0 → ⊥) where
  pub facility-tag : leb invoke_tag (get_or s 0 0) && leb (get_or s 0 0) reject_tag ≡ false → general 0 none ≡ facility s
  unfolding facility
  facility-tag f = rw (something-left s h, f)

  module _ (f : leb invoke_tag (get_or s 0 0) && leb (get_or s 0 0) reject_tag ≡ true) where
    pub facility-outer : (u : Unread) → u ≡ outer_fault (get_or s 0 0) → (n : ℕ) → element s ≡ fault n → (unread_seen u ≡ facility s) × UnreadWithin u
    unfolding facility
    facility-outer u j n e = go (eqb (get_or s 0 0) reject_tag) refl
      where
        go : (b : Bool) → eqb (get_or s 0 0) reject_tag ≡ b → (unread_seen u ≡ facility s) × UnreadWithin u
        go true q = rw (j, something-left s h, f, e, q) (refl, tt)
        go false q = rw (j, something-left s h, f, e, q) (refl, refl)

    module _ (t a e : ℕ) (l : e ≤ length s) (q : took (record { tag = t; contents = between a e s }) (drop e s) ≡ element s) where
      pub facility-left : (e ≡ length s → ⊥) → left_over ≡ facility s
      unfolding facility
      facility-left g = rw (something-left s h, f, ← q, left_some s e l g)

      pub facility-inside : (r : Finding) → e ≡ length s → r ≡ inside (get_or s 0 0) (drop a s) → r ≡ facility s
      unfolding facility
      facility-inside r g z = rw (something-left s h, f, ← q, left-none s e g, to_end a e s (omega arith)) z

-- what is not shown has no parameter
pub not-shown : (r : Result (Option Shown) Unread) (s : List ℕ) → ((shown : Shown) → r ≡ Ok (Some shown) → ⊥) → [] ≡ parameter_in (reading_seen s r)
not-shown (Ok None) s k = refl
not-shown (Ok (Some shown)) s k = absurd (k shown refl)
not-shown (Err (Unread.General problem id)) s k = refl
not-shown (Err Unread.LeftOver) s k = refl
not-shown (Err Unread.FaultyReject) s k = refl

-- the parameter of what is shown is the last octets
pub parameter-shown : (r : Shown) (s : List ℕ) → last (parameter_length r) s ≡ parameter_of (shown_seen s r)
parameter-shown (Shown.Invoke id linked operation n) s = refl
parameter-shown (Shown.Result id operation n) s = refl
parameter-shown (Shown.Error id code n) s = refl
parameter-shown (Shown.Reject id tag problem) s = rw sub-zero (drop-length s)

-- the parameter's octets and its place, where there is none
pub no-parameter : (s : List ℕ) → [] ≡ parameter_in (facility s) → (between (length s) (length s) s ≡ parameter_in (facility s)) × (length s ≡ parameter_start s)
no-parameter s e = (none_between (length s) (length s) s (omega arith) ∙ e, rw (← e, sub-zero))

-- and where it is the last n octets
pub last-parameter : (s : List ℕ) (n : ℕ) → n ≤ length s → last n s ≡ parameter_in (facility s)
    → (between (length s - n) (length s) s ≡ parameter_in (facility s)) × (length s - n ≡ parameter_start s)
last-parameter s n l e =
    let m : length (last n s) ≡ n = rw (length-drop (length s - n) s) (omega arith) in
    (rest_part_lem (length s - n) s ∙ e, rw (← e, m))

pub ruleset shown = (parameter-shown)
