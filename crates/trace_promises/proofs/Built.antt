-- What the two calls build, and what the writer's steps build, are the blocks of the records.
use Prim.Native.Nat.{ℕ, suc, ◌+◌, ◌%◌}
use mathlib.Core.Path.{◌≡◌, refl, sym, ap, ◌∙◌}
use mathlib.Core.List.{List, [], ◌∷◌, ◌++◌}
use mathlib.Core.Bool.{Bool, true, false}
use native.Mathlib.Omega.{arith}
use lib.ListN.{length}
use borrow.Author.Tests.{le-leb}
use Rattle.trace.specs.Numbers.{sum_of}
use Rattle.trace.specs.Records.{Record, bad_record, good_record, Good, record_octets, records_of}
use Rattle.trace.specs.Blocks.{zeros, record_part, sealed, body, block_of}
use Rattle.trace.specs.Writing.{fits, pack_from, blocks_from, blocks_of}
use Rattle.trace.specs.Calls.{refused_by, done, begin_leaves, add_answer, with_record, add_leaves}
use Rattle.trace.specs.Steps.{wrote, holds, hands_over}
use Rattle.trace.proofs.RecordLaws.{good-was}
use Rattle.trace.proofs.CallPaths.{begin-done, four-modulo}
use Rattle.trace_promises.specs.Built.{build_from, CallsBuild, Writing, ahead, ended, write_from, until_bad, bad_code, WriterBuilds}
use Rattle.trace_promises.proofs.WrittenLaws.{block-length, block-front, block-used, block-part, block_back, row-behind, Held, held_first, held_more, by-test}

-- a number counts modulo 4,294,967,296
block-modulo : (n : ℕ) (row : List Record) → block_of (n % 4294967296) row ≡ block_of n row
unfolding block_of
block-modulo n row = ap (λ (t : List ℕ). sealed (t ++ body (records_of row))) (four-modulo n)

pub empty-zeros : block_of 0 [] ≡ zeros 512
unfolding block_of sealed body sum_of
empty-zeros = refl

pub held_none : Held []
held_none = (tt, omega arith)

pub fits-first : (r : Record) → good_record r ≡ true → fits [] r ≡ true
fits-first r g = let w = good-was r g in le-leb (0 + length (record_octets r)) 504 (omega arith)

-- the call that adds a record, on a block of a row
module _ (n : ℕ) (held : List Record) (h : Held held) (r : Record) where
  pub add-bad : good_record r ≡ false → add_answer (block_of n held) r ≡ refused_by bad_record
  unfolding add_answer
  add-bad b = rw (block_back n held h.1 h.0, b)

  row-added : with_record (block_of n held) r ≡ block_of n (held ++ (r ∷ []))
  unfolding with_record block_of
  row-added =
      let e : record_part (block_of n held) ++ record_octets r ≡ records_of (held ++ (r ∷ [])) =
      ap (λ (t : List ℕ). t ++ record_octets r) (block-part n held h.1) ∙ sym (row-behind held r) in
      λ i. sealed (block-front n held i ++ body (e i))

  module _ (g : good_record r ≡ true) where
    pub add-good : add_answer (block_of n held) r ≡ done (fits held r)
    unfolding add_answer
    add-good = rw (block_back n held h.1 h.0, g, block-used n held h.1)

    pub add-leaves : fits held r ≡ true → add_leaves (block_of n held) r ≡ block_of n (held ++ (r ∷ []))
    unfolding add_leaves
    add-leaves f = rw (add-good, f) row-added

-- the first record of a block that was begun
add-first : (n : ℕ) (r : Record) → good_record r ≡ true → add_leaves (block_of n []) r ≡ block_of n (r ∷ [])
add-first n r g = add-leaves n [] held_none r g (fits-first r g)

pub add-next : (n : ℕ) (r : Record) → good_record r ≡ true → add_leaves (block_of (suc n % 4294967296) []) r ≡ block_of (suc n) (r ∷ [])
add-next n r g = add-first (suc n % 4294967296) r g ∙ block-modulo (suc n) (r ∷ [])

begun : (b : List ℕ) (n : ℕ) → length b ≡ 512 → begin_leaves b n ≡ block_of n []
begun b n e = sym (begin-done b n e).1

-- the loop over the two calls

build-rows : (n : ℕ) (held others : List Record) → Held held → Good others → build_from n (block_of n held) others ≡ blocks_from n (pack_from held others)
build-rows n held [] h g = refl
build-rows n held (r ∷ others) h g =
    by-test (λ (rows : List (List Record)). build_from n (block_of n held) (r ∷ others) ≡ blocks_from n rows) (fits held r) _ _
    (λ f. rw (add-good n held h r g.0, f, add-leaves n held h r g.0 f) (build-rows n (held ++ (r ∷ [])) others (held_more held r h g.0 f) g.1))
    (λ f. rw (add-good n held h r g.0, f, begun (block_of n held) (suc n % 4294967296) (block-length n held h.1), add-next n r g.0)
    (ap (λ (t : List (List ℕ)). block_of n held ∷ t) (build-rows (suc n) (r ∷ []) others (held_first r g.0) g.1)))

pub calls-build : CallsBuild
unfolding blocks_of
calls-build lent [] e g = refl
calls-build lent (r ∷ others) e g = rw (begun lent 0 e, add-first 0 r g.0) (build-rows 0 (r ∷ []) others (held_first r g.0) g.1)

-- the writer's steps

module _ (opened : Bool) (n : ℕ) (held : List Record) (full : List ℕ) (r : Record) (others : List Record) (h : Held held) where
  step-bad : good_record r ≡ false → write_from opened (block_of n held) full (n % 4294967296) (r ∷ others) ≡ ended opened (block_of n held) bad_record
  unfolding wrote
  step-bad b = rw (add-bad n held h r b)

  module _ (g : good_record r ≡ true) where
    step_fits : fits held r ≡ true
        → write_from opened (block_of n held) full (n % 4294967296) (r ∷ others) ≡ write_from true (block_of n (held ++ (r ∷ []))) full (n % 4294967296) others
    unfolding wrote holds hands_over
    step_fits f = rw (add-good n held h r g, f, add-leaves n held h r g f)

    step-full : fits held r ≡ false
        → write_from opened (block_of n held) full (n % 4294967296) (r ∷ others)
        ≡ ahead true (block_of n held) (write_from true (block_of (suc n) (r ∷ [])) (block_of n held) (suc n % 4294967296) others)
    unfolding wrote holds hands_over
    step-full f =
        let e : (n % 4294967296 + 1) % 4294967296 ≡ suc n % 4294967296 = omega arith in
        rw (add-good n held h r g, f, e, add-next n r g)

-- what is written of the records that come, behind a row that is held
abbrev due : ℕ → List Record → List Record → Writing
due n held records = record { blocks = blocks_from n (pack_from held (until_bad records)); refused = bad_code records }

write-rows : (n : ℕ) (held : List Record) (full : List ℕ) (others : List Record) → Held held → write_from true (block_of n held) full (n % 4294967296) others ≡ due n held others
write-rows n held full [] h = refl
write-rows n held full (r ∷ others) h =
    let steps : Writing = write_from true (block_of n held) full (n % 4294967296) (r ∷ others) in
    by-test (λ (kept : List Record). steps ≡ record { blocks = blocks_from n (pack_from held kept); refused = bad_code (r ∷ others) }) (good_record r) _ _
    (λ g. by-test (λ (rows : List (List Record)). steps ≡ record { blocks = blocks_from n rows; refused = bad_code (r ∷ others) }) (fits held r) _ _
    (λ f. step_fits true n held full r others h g f ∙ rw g (write-rows n (held ++ (r ∷ [])) full others (held_more held r h g f)))
    (λ f. step-full true n held full r others h g f ∙ rw g (ap (ahead true (block_of n held)) (write-rows (suc n) (r ∷ []) (block_of n held) others (held_first r g)))))
    (λ b. step-bad true n held full r others h b ∙ rw b)

write-first : (full : List ℕ) (records : List Record) → write_from false (block_of 0 []) full 0 records ≡ record { blocks = blocks_of (until_bad records); refused = bad_code records }
unfolding blocks_of
write-first full [] = refl
write-first full (r ∷ others) =
    by-test (λ (kept : List Record). write_from false (block_of 0 []) full 0 (r ∷ others) ≡ record { blocks = blocks_of kept; refused = bad_code (r ∷ others) }) (good_record r) _ _
    (λ g. step_fits false 0 [] full r others held_none g (fits-first r g) ∙ rw g (write-rows 0 (r ∷ []) full others (held_first r g)))
    (λ b. step-bad false 0 [] full r others held_none b ∙ rw b)

pub writer-builds : WriterBuilds
writer-builds full records = ap (λ (b : List ℕ). write_from false b full 0 records) (sym empty-zeros) ∙ write-first full records
