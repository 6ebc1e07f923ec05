-- A file is its blocks, 512 octets each but perhaps the last, and none of them is empty.
use Rattle.std.specs.Prelude.{ℕ, ◌≤◌, ◌≡◌, List, [], ◌∷◌, length}
use Rattle.trace.specs.Files.{blocks_in, joined}

abbrev pub Cut : List (List ℕ) → Type 0
Cut [] = Unit {0}
Cut (b ∷ []) = (1 ≤ length b) × (length b ≤ 512)
Cut (b ∷ (c ∷ others)) = (length b ≡ 512) × Cut (c ∷ others)

abbrev pub AllBlocks : Type 0
AllBlocks = (file : List ℕ) → (joined (blocks_in file) ≡ file) × Cut (blocks_in file)

-- four octets hold the number of each: fewer than 4,294,967,297 blocks, the last at place 4,294,967,295
abbrev pub Numbered : List ℕ → Type 0
Numbered file = length (blocks_in file) ≤ 4294967296
