-- A message written in pieces is one writing at the front.
use Prim.Native.Nat.{ℕ, ◌+◌, ◌≤◌}
use mathlib.Core.Path.{◌≡◌, refl, ◌∙◌}
use mathlib.Core.List.{List, [], ◌∷◌, ◌++◌}
use native.Mathlib.Omega.{arith}
use lib.ListN.{length, length-append}
use Rattle.octets.specs.Splice.{splice}
use Rattle.octets.proofs.SpliceLaws.{splice-splice}
use Rattle.codes.proofs.IdLaws.{held-is}
use Rattle.writing.proofs.WriteLaws.{invoke-octets, answer-octets, reject-octets, reject-bound, six-length}
use Rattle.messages.specs.Layout.{register_type, facility_type, release_type, register, facility_message, release_facility}

joined : (b x z h v : List ℕ) (n : ℕ) → length h + length v ≤ length b → x ≡ splice b 0 h → n ≡ length h → z ≡ splice x n v → z ≡ splice b 0 (h ++ v)
joined b x z h v n f p q r =
    let e : n ≡ 0 + length h = omega arith in
    r ∙ rw (p, e) (splice-splice b 0 h v (omega arith))

module _ (b x z : List ℕ) (first n : ℕ) (v : List ℕ) (e : n ≡ length v) where
  pub facility-joined : 3 + length v ≤ length b → x ≡ splice b 0 (first ∷ facility_type ∷ n ∷ []) → z ≡ splice x 3 v → z ≡ splice b 0 (facility_message first v)
  unfolding facility_message
  facility-joined f p r = rw (← e) (joined b x z (first ∷ facility_type ∷ n ∷ []) v 3 (omega arith) p refl r)

  pub release-joined : 4 + length v ≤ length b → x ≡ splice b 0 (first ∷ release_type ∷ 0x1C ∷ n ∷ []) → z ≡ splice x 4 v → z ≡ splice b 0 (release_facility first v)
  unfolding release_facility
  release-joined f p r = rw (← e) (joined b x z (first ∷ release_type ∷ 0x1C ∷ n ∷ []) v 4 (omega arith) p refl r)

  pub register-joined : (y : List ℕ) (m : ℕ) → 7 + length v ≤ length b → x ≡ splice b 0 (first ∷ register_type ∷ 0x1C ∷ n ∷ []) → y ≡ splice x 4 v → m ≡ 4 + length v
      → z ≡ splice y m (0x7F ∷ 0x01 ∷ 0x00 ∷ []) → z ≡ splice b 0 (register first v)
  unfolding register
  register-joined y m f p q k r =
      let h : List ℕ = first ∷ register_type ∷ 0x1C ∷ n ∷ [] in
      let l = length-append h v in
      rw (← e)
      (joined b y z (h ++ v) (0x7F ∷ 0x01 ∷ 0x00 ∷ []) m (omega arith) (joined b x y h v 4 (omega arith) p refl q) (omega arith) r)

pub facility-length : (first : ℕ) (v : List ℕ) → length (facility_message first v) ≡ 3 + length v
unfolding facility_message
facility-length first v = omega arith

pub release_length : (first : ℕ) (v : List ℕ) → length (release_facility first v) ≡ 4 + length v
unfolding release_facility
release_length first v = omega arith

pub register-length : (first : ℕ) (v : List ℕ) → length (register first v) ≡ 7 + length v
unfolding register
register-length first v = omega (arith, length-append v (0x7F ∷ 0x01 ∷ 0x00 ∷ []))

-- an id as the code holds it, and how long each piece is
pub ruleset sent = (held-is, invoke-octets, answer-octets, reject-octets, reject-bound, six-length, facility-length, release_length, register-length)
