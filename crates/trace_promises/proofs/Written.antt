-- What the writer writes the reader reads, and a block is opened only when a record doesn't fit.
use Prim.Native.Nat.{ℕ, suc, ◌+◌, ◌≤◌}
use mathlib.Core.Path.{◌≡◌, refl, ap, ◌∙◌}
use mathlib.Core.List.{List, [], ◌∷◌, ◌++◌, append_assoc}
use mathlib.Core.Option.{none}
use mathlib.Core.Bool.{Bool, true, false, cond}
use native.Mathlib.Omega.{arith}
use lib.ListN.{length}
use Rattle.trace.specs.Records.{Record, Good}
use Rattle.trace.specs.Blocks.{block_of}
use Rattle.trace.specs.Files.{joined, blocks_in, read_from, read_file}
use Rattle.trace.specs.Writing.{fits, pack_from, packed, blocks_from, blocks_of, file_of}
use Rattle.trace_promises.specs.Written.{ReadsBack, FewBlocks, Row, Tight, in_order, OpensLate}
use Rattle.trace_promises.proofs.FileLaws.{blocks-none, blocks-cons}
use Rattle.trace_promises.proofs.WrittenLaws.{block-length, block_at, Held, held_first, held_more, by-test}

-- the records of the rows, in order
pack-order : (held others : List Record) → in_order (pack_from held others) ≡ held ++ others
pack-order held [] = refl
pack-order held (r ∷ others) =
    by-test (λ (rows : List (List Record)). in_order rows ≡ held ++ (r ∷ others)) (fits held r) _ _
    (λ f. pack-order (held ++ (r ∷ [])) others ∙ append_assoc held (r ∷ []) others)
    (λ f. ap (λ (t : List Record). held ++ t) (pack-order (r ∷ []) others))

packed-order : (records : List Record) → in_order (packed records) ≡ records
packed-order [] = refl
packed-order (r ∷ others) = pack-order (r ∷ []) others

-- a block holds each row
abbrev Rows : List (List Record) → Type 0
Rows [] = Unit {0}
Rows (row ∷ others) = Held row × Rows others

pack-rows : (held others : List Record) → Held held → Good others → Rows (pack_from held others)
pack-rows held [] h g = (h, tt)
pack-rows held (r ∷ others) h g =
    by-test Rows (fits held r) _ _
    (λ f. pack-rows (held ++ (r ∷ [])) others (held_more held r h g.0 f) g.1)
    (λ f. (h, pack-rows (r ∷ []) others (held_first r g.0) g.1))

packed-rows : (records : List Record) → Good records → Rows (packed records)
packed-rows [] g = tt
packed-rows (r ∷ others) g = pack-rows (r ∷ []) others (held_first r g.0) g.1

-- blocks numbered from their place on are read
read-rows : (place : ℕ) (rows : List (List Record)) → Rows rows → place + length rows ≤ 4294967296
    → read_from place (blocks_in (joined (blocks_from place rows))) ≡ record { records = in_order rows; refused = none }
unfolding read_from
read-rows place [] h l = rw blocks-none
read-rows place (row ∷ others) h l =
    rw (blocks-cons (block_of place row) (joined (blocks_from (suc place) others)) (block-length place row h.0.1), block_at place row h.0.1 h.0.0 (omega arith), read-rows (suc place) others h.1 (omega arith))

pub reads-back : ReadsBack
unfolding read_file file_of blocks_of
reads-back records g l =
    read-rows 0 (packed records) (packed-rows records g) (omega arith)
    ∙ ap (λ (t : List Record). record { records = t; refused = none }) (packed-order records)

-- the first row begins with this record
abbrev Headed : Record → List (List Record) → Type 0
Headed r [] = ⊥
Headed r ([] ∷ others) = ⊥
Headed r ((a ∷ row) ∷ others) = a ≡ r

pack-headed : (r : Record) (row others : List Record) → Headed r (pack_from (r ∷ row) others)
pack-headed r row [] = refl
pack-headed r row (a ∷ others) = by-test (Headed r) (fits (r ∷ row) a) _ _ (λ f. pack-headed r (row ++ (a ∷ [])) others) (λ f. refl)

tight-behind : (held : List Record) (r : Record) (rows : List (List Record)) → Row held → fits held r ≡ false → Headed r rows → Tight rows → Tight (held ∷ rows)
tight-behind held r [] h f e t = absurd e
tight-behind held r ([] ∷ others) h f e t = absurd e
tight-behind held r ((a ∷ row) ∷ others) h f e t = (h, (rw e f, t))

pack-tight : (r : Record) (row others : List Record) → Held (r ∷ row) → Good others → Tight (pack_from (r ∷ row) others)
pack-tight r row [] h g = h.1
pack-tight r row (a ∷ others) h g =
    by-test Tight (fits (r ∷ row) a) _ _
    (λ f. pack-tight r (row ++ (a ∷ [])) others (held_more (r ∷ row) a h g.0 f) g.1)
    (λ f. tight-behind (r ∷ row) a (pack_from (a ∷ []) others) h.1 f (pack-headed a [] others) (pack-tight a [] others (held_first a g.0) g.1))

packed-tight : (records : List Record) → Good records → Tight (packed records)
packed-tight [] g = tt
packed-tight (r ∷ others) g = pack-tight r [] others (held_first r g.0) g.1

pub opens-late : OpensLate
opens-late records g = (packed-order records, packed-tight records g)

-- a block is opened by a record
pack-few : (held records : List Record) → length (pack_from held records) ≤ suc (length records)
pack-few held [] = omega arith
pack-few held (r ∷ others) = go (fits held r) (pack-few (held ++ (r ∷ [])) others) (pack-few (r ∷ []) others)
  where
    go : (b : Bool) → length (pack_from (held ++ (r ∷ [])) others) ≤ suc (length others) → length (pack_from (r ∷ []) others) ≤ suc (length others)
        → length (cond b (pack_from (held ++ (r ∷ [])) others) (held ∷ pack_from (r ∷ []) others)) ≤ suc (suc (length others))
    go true p q = omega arith
    go false p q = omega arith

pub few-blocks : FewBlocks
few-blocks [] = omega arith
few-blocks (r ∷ others) = pack-few (r ∷ []) others
