-- A file is its blocks: put together again they are the file, and only the last may be short.
use Prim.Native.Nat.{ℕ, ◌<◌}
use mathlib.Core.Path.{◌≡◌, refl, sym, ap, ◌∙◌}
use mathlib.Core.List.{List, [], ◌∷◌, ◌++◌}
use native.Mathlib.Omega.{arith}
use lib.ListN.{length, take, drop, length-take, length-drop, take-append-drop}
use Rattle.trace.specs.Files.{blocks_in, joined}
use Rattle.trace_promises.specs.Blocks.{Cut, AllBlocks}
use Rattle.trace_promises.proofs.FileLaws.{blocks-none, blocks_step, by_blocks}

pub joined-all : (s : List ℕ) → joined (blocks_in s) ≡ s
joined-all =
    by_blocks (λ s. joined (blocks_in s) ≡ s) (ap joined blocks-none) λ s h behind.
    ap joined (blocks_step s h) ∙ ap (λ (r : List ℕ). take 512 s ++ r) behind ∙ take-append-drop 512 s

-- a first block before others
cut_on : (s rest : List ℕ) → 0 < length s → drop 512 s ≡ rest → Cut (blocks_in rest) → Cut (take 512 s ∷ blocks_in rest)
cut_on s [] h e c = rw blocks-none (simp length-take (omega arith), simp length-take (omega arith))
cut_on s (a ∷ rest) h e c =
    let l = sym (length-drop 512 s) ∙ ap length e in
    let b = blocks_step (a ∷ rest) (omega arith) in
    rw b (simp length-take (omega arith), rw b at c)

cut_all : (s : List ℕ) → Cut (blocks_in s)
cut_all = by_blocks (λ s. Cut (blocks_in s)) (rw blocks-none tt) λ s h behind. rw (blocks_step s h) (cut_on s (drop 512 s) h refl behind)

pub all_blocks : AllBlocks
all_blocks file = (joined-all file, cut_all file)
