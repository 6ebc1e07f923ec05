-- The blocks of a file: the first 512 octets, then the blocks of what is left.
use Prim.Native.Nat.{ℕ, zero, suc, ◌≤◌, ◌<◌}
use mathlib.Core.Path.{◌≡◌, refl, ap, ◌∙◌}
use mathlib.Core.List.{List, [], ◌∷◌, ◌++◌}
use native.Mathlib.Omega.{arith}
use lib.ListN.{length, take, drop, length-append, length-drop}
use lib.Seq.{take_at, drop_at}
use Rattle.trace.specs.Files.{blocks_by, blocks_in, joined}

-- any count that is enough gives the same
enough : (f k : ℕ) (s : List ℕ) → length s ≤ f → length s ≤ k → blocks_by f s ≡ blocks_by k s
unfolding blocks_by
enough zero zero s p q = refl
enough zero (suc k) [] p q = refl
enough zero (suc k) (a ∷ s) p q = absurd (omega arith)
enough (suc f) zero [] p q = refl
enough (suc f) zero (a ∷ s) p q = absurd (omega arith)
enough (suc f) (suc k) [] p q = refl
enough (suc f) (suc k) (a ∷ s) p q =
    let l : length (drop 512 (a ∷ s)) ≤ length s = simp length-drop (omega arith) in
    ap (λ (r : List (List ℕ)). take 512 (a ∷ s) ∷ r) (enough f k (drop 512 (a ∷ s)) (omega arith) (omega arith))

pub blocks-none : blocks_in [] ≡ []
unfolding blocks_in blocks_by
blocks-none = refl

pub blocks_step : (s : List ℕ) → 0 < length s → blocks_in s ≡ take 512 s ∷ blocks_in (drop 512 s)
unfolding blocks_in blocks_by
blocks_step [] h = absurd (omega arith)
blocks_step (a ∷ s) h =
    let l : length (drop 512 (a ∷ s)) ≤ length s = simp length-drop (omega arith) in
    ap (λ (r : List (List ℕ)). take 512 (a ∷ s) ∷ r) (enough (length s) (length (drop 512 (a ∷ s))) (drop 512 (a ∷ s)) l (omega arith))

-- what holds of no octets, and with what is left behind the first block also of the whole, holds
pub by_blocks : (P : List ℕ → Type 0) → P [] → ((s : List ℕ) → 0 < length s → P (drop 512 s) → P s) → (s : List ℕ) → P s
by_blocks P base step s = go (length s) s (omega arith)
  where
    go : (f : ℕ) (s : List ℕ) → length s ≤ f → P s
    go zero [] h = base
    go zero (a ∷ s) h = absurd (omega arith)
    go (suc f) [] h = base
    go (suc f) (a ∷ s) h = step (a ∷ s) (omega arith) (go f (drop 512 (a ∷ s)) (simp length-drop (omega arith)))

pub blocks-cons : (b rest : List ℕ) → length b ≡ 512 → blocks_in (b ++ rest) ≡ b ∷ blocks_in rest
blocks-cons b rest e = blocks_step (b ++ rest) (simp length-append (omega arith)) ∙ rw (take_at b rest 512 e, drop_at b rest 512 e)

-- blocks of 512 octets each
abbrev pub Whole : List (List ℕ) → Type 0
Whole [] = Unit {0}
Whole (b ∷ others) = (length b ≡ 512) × Whole others

pub blocks-joined : (blocks : List (List ℕ)) → Whole blocks → blocks_in (joined blocks) ≡ blocks
blocks-joined [] w = blocks-none
blocks-joined (b ∷ others) w = blocks-cons b (joined others) w.0 ∙ ap (λ (r : List (List ℕ)). b ∷ r) (blocks-joined others w.1)
