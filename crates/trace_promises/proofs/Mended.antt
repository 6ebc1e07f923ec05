-- Salvage: what is due of each block is written and listed, what comes out is whole, and a whole file comes out as it was.
use Prim.Native.Nat.{ℕ, suc, ◌+◌, ◌≤◌, ◌<◌}
use mathlib.Core.Path.{◌≡◌, refl, sym, ap, ◌∙◌, subst}
use mathlib.Core.List.{List, [], ◌∷◌, ◌++◌, append_assoc}
use mathlib.Core.Option.{none, some}
use mathlib.Core.Bool.{Bool, true, false, cond}
use native.Mathlib.Omega.{arith}
use native.Mathlib.Nat.{zero-add, add-zero}
use lib.ListN.{length, length-append}
use lib.Dec.{eqb}
use borrow.Author.Tests.{eq-eqb}
use Rattle.octets.specs.Reader.{Answer, fault, sound}
use Rattle.octets.proofs.ReaderLaws.{through, passed}
use Rattle.trace.specs.Records.{Record}
use Rattle.trace.specs.Blocks.{wrong_number, number_in, block_records, records_at}
use Rattle.trace.specs.Files.{Refusal, Reading, blocks_in, joined, read_on, read_from, read_file}
use Rattle.trace.specs.Salvage.{fate_by, fate_of, renumbered, written_by, Listed, dropped, renumbered36, short, listed_by, Salvaged, ahead, salvage_from, salvaged, mended_file}
use Rattle.trace.specs.declared.Fate.{Fate}
use Rattle.trace.specs.declared.Fate.TheVariants.{Kept, Renumbered, Dropped, Short}
use Rattle.trace.proofs.FaultLaws.{sound-was}
use Rattle.trace_promises.specs.Mended.{WholeStays, sound_records, ReadsMended, Settles, sound_count, due_by, due, EachBlock}
use Rattle.trace_promises.proofs.FileLaws.{Whole, blocks-joined}
use Rattle.trace_promises.proofs.Blocks.{joined-all}
use Rattle.trace_promises.proofs.RenumberLaws.{renumbered-length, renumbered-sound, renumbered-number}

-- one block: what its fate gives is what is due

abbrev made : ℕ → ℕ → List ℕ → Fate → Salvaged
made kept place b f = record { blocks = written_by kept b f; list = listed_by place f }

made-due : (kept place : ℕ) (b : List ℕ) (o : Answer (List Record)) → made kept place b (fate_by kept (number_in b) o) ≡ due_by kept place b o
made-due kept place b (fault n) = go (eqb n 32)
  where
    go : (t : Bool) → made kept place b (cond t Short (Dropped (number_in b) n)) ≡ record { blocks = []; list = cond t (short place) (dropped (number_in b) n) ∷ [] }
    go true = refl
    go false = refl
made-due kept place b (sound row) = go (eqb (number_in b) kept)
  where
    go : (t : Bool) → made kept place b (cond t Kept (Renumbered (number_in b)))
        ≡ cond t (record { blocks = b ∷ []; list = [] }) (record { blocks = renumbered kept b ∷ []; list = renumbered36 (number_in b) ∷ [] })
    go true = refl
    go false = refl

-- it, and then what the others give
abbrev with_others : ℕ → ℕ → List (List ℕ) → Salvaged → Salvaged
with_others kept place others d = ahead d.blocks d.list (salvage_from (kept + length d.blocks) (suc place) others)

salvage-step : (kept place : ℕ) (b : List ℕ) (others : List (List ℕ)) → salvage_from kept place (b ∷ others) ≡ with_others kept place others (due kept place b)
unfolding salvage_from fate_of
salvage-step kept place b others = ap (with_others kept place others) (made-due kept place b (block_records b))

-- what is written of a sound block is one block, sound at its place
due-sound : {C : Type 0} (kept place : ℕ) (b : List ℕ) (row : List Record) → block_records b ≡ sound row
    → ((c : List ℕ) → (due_by kept place b (sound row)).blocks ≡ c ∷ [] → length c ≡ 512 → (kept < 4294967296 → records_at kept c ≡ sound row) → C) → C
unfolding records_at
due-sound {C} kept place b row e next = go (eqb (number_in b) kept) refl
  where
    l : length b ≡ 512
    l = (sound-was b row e).long

    go : (t : Bool) → eqb (number_in b) kept ≡ t → C
    go true q = next b (rw q) l (λ h. rw (e, q))
    go false q = next (renumbered kept b) (rw q) (renumbered-length kept b l) (λ h. rw (renumbered-sound kept b row e, eq-eqb (number_in (renumbered kept b)) kept (renumbered-number kept b h)))

-- all blocks: what holds of the blocks and of what is written of them, by how many were kept before
module _ (P : ℕ → List (List ℕ) → List (List ℕ) → Type 0)
    (none_left : (kept : ℕ) → P kept [] [])
    (one-dropped : (kept : ℕ) (b : List ℕ) (n : ℕ) (others out : List (List ℕ)) → block_records b ≡ fault n → P kept others out → P kept (b ∷ others) out)
    (one_kept : (kept : ℕ) (b : List ℕ) (row : List Record) (c : List ℕ) (others out : List (List ℕ))
    → block_records b ≡ sound row → length c ≡ 512 → (kept < 4294967296 → records_at kept c ≡ sound row) → P (suc kept) others out → P kept (b ∷ others) (c ∷ out))
  where
    over-blocks : (kept place : ℕ) (blocks : List (List ℕ)) → P kept blocks (salvage_from kept place blocks).blocks
    unfolding salvage_from
    over-blocks kept place [] = none_left kept
    over-blocks kept place (b ∷ others) =
        subst (λ (s : Salvaged). P kept (b ∷ others) s.blocks) (sym (salvage-step kept place b others)) (go (block_records b) refl (λ k. over-blocks k (suc place) others))
      where
        go : (o : Answer (List Record)) → block_records b ≡ o → ((k : ℕ) → P k others (salvage_from k (suc place) others).blocks)
            → P kept (b ∷ others) (with_others kept place others (due_by kept place b o)).blocks
        go (fault n) e on = rw (add-zero kept) (one-dropped kept b n others _ e (on kept))
        go (sound row) e on =
            due-sound kept place b row e λ c q l r.
            let s : kept + 1 ≡ suc kept = omega arith in
            rw (q, s) (one_kept kept b row c others _ e l r (on (suc kept)))

all_whole : (kept place : ℕ) (blocks : List (List ℕ)) → Whole (salvage_from kept place blocks).blocks
all_whole = over-blocks (λ kept blocks out. Whole out) (λ kept. tt) (λ kept b n others out e w. w) (λ kept b row c others out e l r w. (l, w))

all-counted : (kept place : ℕ) (blocks : List (List ℕ)) → length (salvage_from kept place blocks).blocks ≡ sound_count blocks
all-counted =
    over-blocks (λ kept blocks out. length out ≡ sound_count blocks) (λ kept. refl) (λ kept b n others out e w. rw e w) (λ kept b row c others out e l r w. rw e (ap suc w))

abbrev ReadsFrom : ℕ → List (List ℕ) → List (List ℕ) → Type 0
ReadsFrom kept blocks out = kept + length blocks ≤ 4294967296 → read_from kept out ≡ record { records = sound_records blocks; refused = none }

all_read : (kept place : ℕ) (blocks : List (List ℕ)) → ReadsFrom kept blocks (salvage_from kept place blocks).blocks
unfolding read_from
all_read =
    over-blocks ReadsFrom (λ kept h. refl)
    (λ kept b n others out e w h. rw e (w (omega arith)))
    (λ kept b row c others out e l r w h. rw (e, r (omega arith), w (omega arith)))

-- a whole file

due-kept : (place : ℕ) (b : List ℕ) (row : List Record) (k : ℕ) → records_at place b ≡ sound row → due place k b ≡ record { blocks = b ∷ []; list = [] }
unfolding records_at
due-kept place b row k e =
    through (block_records b) _ row e λ found p q.
    passed (eqb (number_in b) place) wrong_number (sound found) row q λ t r.
    rw (p, t)

not_none : {C : Type 0} {r : Refusal} → some r ≡ none → C
not_none e = let z : ◌≡◌ {A = ℕ} 0 1 = cc in absurd (omega arith)

all-kept : (k place : ℕ) (blocks : List (List ℕ)) → (read_from k blocks).refused ≡ none → salvage_from k place blocks ≡ record { blocks = blocks; list = [] }
unfolding read_from salvage_from
all-kept k place [] h = refl
all-kept k place (b ∷ others) h = go (records_at k b) refl h (all-kept (suc k) (suc place) others)
  where
    go : (o : Answer (List Record)) → records_at k b ≡ o → (read_on k o (read_from (suc k) others)).refused ≡ none
        → ((read_from (suc k) others).refused ≡ none → salvage_from (suc k) (suc place) others ≡ record { blocks = others; list = [] })
        → salvage_from k place (b ∷ others) ≡ record { blocks = b ∷ others; list = [] }
    go (fault n) e h on = not_none h
    go (sound row) e h on =
        let s : k + 1 ≡ suc k = omega arith in
        salvage-step k place b others ∙ rw (due-kept k b row place e, s, on h)

pub whole-stays : WholeStays
unfolding read_file salvaged mended_file
whole-stays file h =
    let e = all-kept 0 0 (blocks_in file) h in
    (ap (λ (s : Salvaged). joined s.blocks) e ∙ joined-all file, ap (λ (s : Salvaged). s.list) e)

-- what comes out

out-blocks : (file : List ℕ) → blocks_in (mended_file file) ≡ (salvaged file).blocks
unfolding salvaged mended_file
out-blocks file = blocks-joined (salvage_from 0 0 (blocks_in file)).blocks (all_whole 0 0 (blocks_in file))

pub reads-mended : ReadsMended
unfolding read_file salvaged
reads-mended file h = ap (read_from 0) (out-blocks file) ∙ all_read 0 0 (blocks_in file) (omega arith)

pub settles : Settles
unfolding salvaged mended_file
settles file h =
    let e : salvaged (mended_file file) ≡ record { blocks = (salvaged file).blocks; list = [] } =
    ap (salvage_from 0 0) (out-blocks file)
    ∙ all-kept 0 0 (salvaged file).blocks (ap (λ (r : Reading). r.refused) (all_read 0 0 (blocks_in file) (omega arith))) in
    (ap (λ (s : Salvaged). joined s.blocks) e, ap (λ (s : Salvaged). s.list) e)

-- blocks and others behind them

ahead-ahead : (a b : List (List ℕ)) (x y : List Listed) (s : Salvaged) → ahead a x (ahead b y s) ≡ ahead (a ++ b) (x ++ y) s
ahead-ahead a b x y s = rw (append_assoc a b s.blocks, append_assoc x y s.list)

salvage-append : (kept place : ℕ) (x y : List (List ℕ))
    → salvage_from kept place (x ++ y)
    ≡ ahead (salvage_from kept place x).blocks (salvage_from kept place x).list (salvage_from (kept + length (salvage_from kept place x).blocks) (place + length x) y)
unfolding salvage_from
salvage-append kept place [] y = rw (add-zero kept, add-zero place)
salvage-append kept place (b ∷ x) y =
    let w : List (List ℕ) = written_by kept b (fate_of kept b) in
    let l : List Listed = listed_by place (fate_of kept b) in
    let s : Salvaged = salvage_from (kept + length w) (suc place) x in
    let i : kept + length w + length s.blocks ≡ kept + length (w ++ s.blocks) = rw (length-append w s.blocks) (omega arith) in
    let j : suc place + length x ≡ place + suc (length x) = omega arith in
    ap (ahead w l) (salvage-append (kept + length w) (suc place) x y)
    ∙ ahead-ahead w s.blocks l s.list _
    ∙ ap (ahead (w ++ s.blocks) (l ++ s.list)) (λ n. salvage_from (i n) (j n) y)

pub each-block : EachBlock
unfolding salvaged
each-block file before b after e =
    let first : Salvaged = salvage_from 0 0 before in
    let d : Salvaged = due (sound_count before) (length before) b in
    let last : Salvaged = salvage_from (sound_count before + length d.blocks) (suc (length before)) after in
    let kept : length first.blocks ≡ sound_count before = all-counted 0 0 before in
    let i : 0 + length first.blocks ≡ sound_count before = zero-add (length first.blocks) ∙ kept in
    let all : salvaged file ≡ ahead first.blocks first.list (ahead d.blocks d.list last) =
    ap (salvage_from 0 0) e
    ∙ salvage-append 0 0 before (b ∷ after)
    ∙ ap (ahead first.blocks first.list) ((λ n. salvage_from (i n) (zero-add (length before) n) (b ∷ after)) ∙ salvage-step (sound_count before) (length before) b after) in
    record {
      first = first;
      last = last;
      blocks = ap (λ (s : Salvaged). s.blocks) all;
      list = ap (λ (s : Salvaged). s.list) all;
      place = kept;
      others = all-counted (sound_count before + length d.blocks) (suc (length before)) after;
    }
