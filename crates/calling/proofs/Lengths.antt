-- A message held against its bounds, and how long each message is.
use Prim.Native.Nat.{ℕ, ◌+◌, ◌≤◌, ◌<◌}
use native.Mathlib.Omega.{arith}
use mathlib.Core.Path.{◌≡◌, refl, sym, ◌∙◌}
use mathlib.Core.List.{List, [], ◌∷◌}
use mathlib.Core.Bool.{Bool, true, false, cond}
use mathlib.Core.Option.{none}
use borrow.Author.Tests.{lt-leb, le-leb, leb-true, ne_eqb}
use lib.IntN.{ℤ}
use lib.ListN.{length, length-append}
use lib.Dec.{leb, eqb}
use Rattle.std.specs.Prelude.{Result, Ok, Err}
use Rattle.octets.specs.Reader.{fault, sound}
use Rattle.codes.specs.Refusals.{number_of}
use Rattle.codes.specs.declared.refusals.Refusal.{Refusal}
use Rattle.codes.proofs.IdLaws.{held-is}
use Rattle.components.specs.Component.{invoke, error}
use Rattle.components.specs.Written.{component_octets, result_for, coded_length, result_length}
use Rattle.writing.proofs.WriteLaws.{invoke-octets, error-octets, answer-octets}
use Rattle.messages.specs.Layout.{register, facility_message}
use Rattle.calling.specs.Calls.{Sending, fitting}
use Rattle.calling.specs.Seen.{length_refusal}

-- the two tests of a length, by what they answer
module _ (n room : ℕ) where
  pub over : 255 < n → Err Refusal.MessageTooLong ≡ length_refusal n room
  over h = rw (lt-leb _ _ h)

  pub shorter : n ≤ 255 → room < n → Err Refusal.BufferTooShort ≡ length_refusal n room
  shorter h l = rw (le-leb _ _ h, lt-leb _ _ l)

  pub enough : n ≤ 255 → n ≤ room → Ok tt ≡ length_refusal n room
  enough h l = rw (le-leb _ _ h, le-leb _ _ l)

abbrev refusal : Bool → Bool → Result (Unit {0}) Refusal
refusal short fitted = cond short (cond fitted (Ok tt) (Err Refusal.BufferTooShort)) (Err Refusal.MessageTooLong)

-- a message of n octets, held against its bounds
module _ (room : ℕ) (s : Sending) (n : ℕ) (e : length s.message ≡ n) where
  pub too_long_lem : 255 < n → fault 26 ≡ fitting room s
  unfolding fitting
  too_long_lem h = rw (e, lt-leb _ _ h)

  refused-by : (a b : Bool) → leb n 255 ≡ a → leb n room ≡ b → (f : Refusal) → Err f ≡ refusal a b → fault (number_of f) ≡ fitting room s
  unfolding fitting
  refused-by true true p q f h = cc
  refused-by true false p q f h = let g : f ≡ Refusal.BufferTooShort = cc in rw (e, p, q, g)
  refused-by false b p q f h = let g : f ≡ Refusal.MessageTooLong = cc in rw (e, p, g)

  pub refused : (f : Refusal) → Err f ≡ length_refusal n room → fault (number_of f) ≡ fitting room s
  refused f h = refused-by (leb n 255) (leb n room) refl refl f h

  fits_by : (a b : Bool) → leb n 255 ≡ a → leb n room ≡ b → refusal a b ≡ Ok tt
      → (sound s ≡ fitting room s) × ((length s.message ≤ 255) × (length s.message ≤ room))
  unfolding fitting
  fits_by true true p q h = (rw (e, p, q), (rw e (leb-true _ _ p), rw e (leb-true _ _ q)))
  fits_by true false p q h = cc
  fits_by false b p q h = cc

  pub fits : (r : Result (Unit {0}) Refusal) → r ≡ length_refusal n room → r ≡ Ok tt
      → (sound s ≡ fitting room s) × ((length s.message ≤ 255) × (length s.message ≤ room))
  fits r d h = fits_by (leb n 255) (leb n room) refl refl (sym d ∙ h)

-- how long each message is, by the length of its parameter
module _ (first : ℕ) (id : ℤ) (o : ℕ) (p : List ℕ) where
  pub register-octets : length (register first (component_octets (invoke id none o p))) ≡ 7 + coded_length (length p)
  unfolding register
  register-octets = omega (arith, length-append (component_octets (invoke id none o p)) (0x7F ∷ 0x01 ∷ 0x00 ∷ []), invoke-octets id o p)

  pub facility-invoke : length (facility_message first (component_octets (invoke id none o p))) ≡ 3 + coded_length (length p)
  unfolding facility_message
  facility-invoke = omega (arith, invoke-octets id o p)

  pub facility-error : length (facility_message first (component_octets (error id o p))) ≡ 3 + coded_length (length p)
  unfolding facility_message
  facility-error = omega (arith, error-octets id o p)

  pub facility-answer : length (facility_message first (component_octets (result_for id o p))) ≡ 3 + result_length (length p)
  unfolding facility_message
  facility-answer = omega (arith, answer-octets id o p)

-- a parameter of more than 255 octets is in no message
pub long-answer : (n : ℕ) → 255 < n → 255 < 3 + result_length n
long-answer n h =
    let e : eqb n 0 ≡ false = ne_eqb n 0 (λ z. absurd (omega arith)) in
    rw e (omega arith)

-- by these the checks of the calls are proved: the lengths, and an id that is the one that was handed on
pub ruleset call_steps = (register-octets, facility-invoke, facility-error, facility-answer, held-is)
