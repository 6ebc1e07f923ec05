-- The steps by the type of the message, and what leads up to them.
use Prim.Native.Nat.{ℕ}
use mathlib.Core.Path.{◌≡◌, refl, sym}
use mathlib.Core.List.{List}
use mathlib.Core.Bool.{Bool, true, false, cond}
use lib.ListN.{length, get_or, drop}
use lib.Dec.{leb, eqb}
use borrow.Author.Tests.{eqb-true}
use Rattle.messages.specs.Layout.{discriminator, value, flag, release_type, facility_type, register_type}
use Rattle.table.specs.Table.{Entry, entry_at, valid}
use Rattle.deciding.specs.Decision.{Decision, silent, with_cause}
use Rattle.deciding.specs.Steps.{first_octet, picked_entry, four_to_six, on_release, decide}
use Rattle.deciding.specs.Seen.{from_type}
use Rattle.deciding.proofs.Paths.{type-unknown}

-- what becomes of each type
unfoldable pub on_type : Entry → ℕ → ℕ → List ℕ → Decision
on_type e flag type s =
    cond (eqb type release_type) (cond e.is_open (on_release e s) (silent 1))
    (cond (eqb type facility_type) (cond e.is_open (four_to_six e facility_type s) (with_cause 81))
    (cond (eqb type register_type) (cond e.is_open (with_cause 98) (cond (eqb flag 1) (silent 1) (four_to_six e register_type s)))
    (with_cause 97)))

module _ (e : Entry) (flag : ℕ) (s : List ℕ) where
  release-is : from_type e flag release_type s ≡ cond e.is_open (on_release e s) (silent 1)
  unfolding from_type
  release-is = go e.is_open refl
    where
      go : (o : Bool) → e.is_open ≡ o → from_type e flag release_type s ≡ cond o (on_release e s) (silent 1)
      go true q = rw q
      go false q = rw q

  facility-is : from_type e flag facility_type s ≡ cond e.is_open (four_to_six e facility_type s) (with_cause 81)
  unfolding from_type
  facility-is = go e.is_open refl
    where
      go : (o : Bool) → e.is_open ≡ o → from_type e flag facility_type s ≡ cond o (four_to_six e facility_type s) (with_cause 81)
      go true q = rw q
      go false q = rw q

  register-is : from_type e flag register_type s ≡ cond e.is_open (with_cause 98) (cond (eqb flag 1) (silent 1) (four_to_six e register_type s))
  unfolding from_type
  register-is = go e.is_open (eqb flag 1) refl refl
    where
      go : (o f : Bool) → e.is_open ≡ o → eqb flag 1 ≡ f → from_type e flag register_type s ≡ cond o (with_cause 98) (cond f (silent 1) (four_to_six e register_type s))
      go true f q r = rw q
      go false true q r = rw (q, r)
      go false false q r = rw (q, r)

  pub on-type : (type : ℕ) → from_type e flag type s ≡ on_type e flag type s
  unfolding on_type
  on-type type = go (eqb type release_type) (eqb type facility_type) (eqb type register_type) refl refl refl
    where
      go : (a b c : Bool) → eqb type release_type ≡ a → eqb type facility_type ≡ b → eqb type register_type ≡ c
          → from_type e flag type s
          ≡ cond a (cond e.is_open (on_release e s) (silent 1))
          (cond b (cond e.is_open (four_to_six e facility_type s) (with_cause 81))
          (cond c (cond e.is_open (with_cause 98) (cond (eqb flag 1) (silent 1) (four_to_six e register_type s)))
          (with_cause 97)))
      go true b c p q r = rw (eqb-true type release_type p) release-is
      go false true c p q r = rw (eqb-true type facility_type q) facility-is
      go false false true p q r = rw (eqb-true type register_type r) register-is
      go false false false p q r = sym (type-unknown e flag type s (rw (p, q, r)))

-- whatever holds of each way that a type can go holds of where it goes
module _ (P : Decision → Type 0) (e : Entry) (flag type : ℕ) (s : List ℕ) (p1 : P (silent 1)) (p81 : P (with_cause 81)) (p97 : P (with_cause 97)) (p98 : P (with_cause 98))
    (onReleased : type ≡ release_type → e.is_open ≡ true → P (on_release e s))
    (onFacility : type ≡ facility_type → e.is_open ≡ true → P (four_to_six e facility_type s))
    (onRegister : type ≡ register_type → e.is_open ≡ false → P (four_to_six e register_type s)) where
  either : (b : Bool) (x y : Decision) → (b ≡ true → P x) → (b ≡ false → P y) → P (cond b x y)
  either true x y h k = h refl
  either false x y h k = k refl

  pub by-type : P (on_type e flag type s)
  unfolding on_type
  by-type =
      either (eqb type release_type) _ _ (λ a. either e.is_open _ _ (λ o. onReleased (eqb-true type release_type a) o) (λ o. p1))
      (λ a. either (eqb type facility_type) _ _ (λ b. either e.is_open _ _ (λ o. onFacility (eqb-true type facility_type b) o) (λ o. p81))
      (λ b. either (eqb type register_type) _ _
      (λ c. either e.is_open _ _ (λ o. p98) (λ o. either (eqb flag 1) _ _ (λ f. p1) (λ f. onRegister (eqb-true type register_type c) o)))
      (λ c. p97)))

-- the tests that lead to the type: of the table, of the room, and of the message's length and first octet
pub record GoesOn (t : List ℕ) (space : ℕ) (m : List ℕ) : Type 0 where
  pub table : valid t ≡ true
  pub room : leb 12 space ≡ true
  pub most : leb (length m) 255 ≡ true
  pub least : leb 2 (length m) ≡ true
  pub protocol : eqb (discriminator (first_octet m)) 11 ≡ true
  pub transaction : eqb (value (first_octet m)) 7 ≡ false

-- what follows them
abbrev pub further : List ℕ → List ℕ → Decision
further t m = on_type (entry_at t (picked_entry m)) (flag (first_octet m)) (get_or m 1 0) (drop 2 m)

further-is : (t m : List ℕ) → from_type (entry_at t (picked_entry m)) (flag (first_octet m)) (get_or m 1 0) (drop 2 m) ≡ further t m
further-is t m = on-type (entry_at t (picked_entry m)) (flag (first_octet m)) (drop 2 m) (get_or m 1 0)

-- whatever holds of every silence and of what follows the tests holds of the decision
pub tested : (P : Decision → Type 0) (t m : List ℕ) (room : ℕ) → P (silent 28) → P (silent 27) → P (silent 6) → P (silent 1) → P (silent 7)
    → (GoesOn t room m → P (further t m)) → P (decide t m room)
unfolding decide from_type
tested P t m room p28 p27 p6 p1 p7 next =
    go (valid t) (leb 12 room) (leb (length m) 255) (leb 2 (length m)) (eqb (discriminator (first_octet m)) 11) (eqb (value (first_octet m)) 7) refl refl refl refl refl refl
  where
    go : (a b c d f g : Bool) → valid t ≡ a → leb 12 room ≡ b → leb (length m) 255 ≡ c → leb 2 (length m) ≡ d → eqb (discriminator (first_octet m)) 11 ≡ f → eqb (value (first_octet m)) 7 ≡ g
        → P (decide t m room)
    go false b c d f g q₁ q₂ q₃ q₄ q₅ q₆ = rw q₁ p28
    go true false c d f g q₁ q₂ q₃ q₄ q₅ q₆ = rw (q₁, q₂) p27
    go true true false d f g q₁ q₂ q₃ q₄ q₅ q₆ = rw (q₁, q₂, q₃) p6
    go true true true false f g q₁ q₂ q₃ q₄ q₅ q₆ = rw (q₁, q₂, q₃, q₄) p1
    go true true true true false g q₁ q₂ q₃ q₄ q₅ q₆ = rw (q₁, q₂, q₃, q₄, q₅) p7
    go true true true true true true q₁ q₂ q₃ q₄ q₅ q₆ = rw (q₁, q₂, q₃, q₄, q₅, q₆) p1
    go true true true true true false q₁ q₂ q₃ q₄ q₅ q₆ =
        rw (q₁, q₂, q₃, q₄, q₅, q₆, further-is t m) (next (record { table = q₁; room = q₂; most = q₃; least = q₄; protocol = q₅; transaction = q₆ }))

pub decide-further : (t m : List ℕ) (room : ℕ) → GoesOn t room m → decide t m room ≡ further t m
unfolding decide from_type
decide-further t m room h = rw (h.table, h.room, h.most, h.least, h.protocol, h.transaction, further-is t m)
