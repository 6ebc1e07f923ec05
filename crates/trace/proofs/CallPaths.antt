-- What the definitions of the calls and of salvage say on each path through the code.
use Rattle.std.specs.Prelude.{Ok, Err}
use Rattle.std.proofs.Common.{◌≡◌, ℕ, ◌+◌, ◌/◌, ◌%◌, ◌<◌, ◌≤◌, Bool, true, false, cond, eqb, List, [], ◌++◌, length, refl, sym, ap, ◌∙◌, arith, eq-eqb, ne_eqb, le-leb}
use borrow.Author.Tests.{lt-leb}
use Rattle.octets.specs.Part.{between}
use Rattle.octets.specs.Reader.{Answer, fault, sound, and_then, check}
use Rattle.octets.proofs.FaultLaws.{Faults}
use Rattle.trace.specs.Numbers.{four}
use Rattle.trace.specs.Records.{Record, bad_record, good_record, record_octets}
use Rattle.trace.specs.Blocks.{short_block, wrong_number, records_at, number_in, used_in, sealed, block_of, block_records, fault_of}
use Rattle.trace.specs.Calls.{refused_by, done, begin_answer, begin_leaves, add_answer, with_record, add_leaves}
use Rattle.trace.specs.Steps.{next_number, wrote, holds, hands_over}
use Rattle.trace.specs.Salvage.{fate_by, fate_of, renumbered}
use Rattle.trace.specs.Faults.{number_of}
use Rattle.trace.specs.declared.faults.Fault.{Fault}
use Rattle.trace.specs.Seen.{mended}
use Rattle.trace.specs.declared.Fate.TheVariants.{Kept, Renumbered, Dropped, Short}
use Rattle.trace.proofs.Paths.{is-short}
use Rattle.trace.proofs.FaultLaws.{OfBlock, block-faults, whole-faults, fault_back, not_0, no-fault-sound}

pub begin-refused : (b : List ℕ) (n : ℕ) → (length b ≡ 512 → ⊥) → (refused_by short_block ≡ begin_answer b) × (b ≡ begin_leaves b n)
unfolding begin_answer begin_leaves
begin-refused b n h = let e = ne_eqb (length b) 512 h in (rw e, rw e)

pub begin-done : (b : List ℕ) (n : ℕ) → length b ≡ 512 → (done true ≡ begin_answer b) × (block_of n [] ≡ begin_leaves b n)
unfolding begin_answer begin_leaves
begin-done b n h = let e = eq-eqb (length b) 512 h in (rw e, rw e)

module _ (b : List ℕ) (r : Record) where
  pub add-short : (length b ≡ 512 → ⊥) → (refused_by short_block ≡ add_answer b r) × (b ≡ add_leaves b r)
  unfolding add_answer add_leaves block_records
  add-short h = let e = ne_eqb (length b) 512 h in (rw e, rw e)

  pub add-refused : (fault_of (block_records b) ≡ 0 → ⊥) → (refused_by (fault_of (block_records b)) ≡ add_answer b r) × (b ≡ add_leaves b r)
  unfolding add_answer add_leaves
  add-refused h = let e = ne_eqb (fault_of (block_records b)) 0 h in (rw e, rw e)

  module _ (f : fault_of (block_records b) ≡ 0) where
    pub add-bad : good_record r ≡ false → (refused_by bad_record ≡ add_answer b r) × (b ≡ add_leaves b r)
    unfolding add_answer add_leaves
    add-bad h = let e = eq-eqb (fault_of (block_records b)) 0 f in (rw (e, h), rw (e, h))

    module _ (g : good_record r ≡ true) where
      pub add-full : 504 < used_in b + 2 + length r.message → (done false ≡ add_answer b r) × (b ≡ add_leaves b r)
      unfolding add_answer add_leaves
      add-full h =
          let e = eq-eqb (fault_of (block_records b)) 0 f in
          let l = lt-leb (used_in b + length (record_octets r)) 504 (omega arith) in
          (rw (e, g, l), rw (e, g, l))

      pub add_done : used_in b + 2 + length r.message ≤ 504 → (done true ≡ add_answer b r) × (with_record b r ≡ add_leaves b r)
      unfolding add_answer add_leaves
      add_done h =
          let e = eq-eqb (fault_of (block_records b)) 0 f in
          let l = le-leb (used_in b + length (record_octets r)) 504 (omega arith) in
          (rw (e, g, l), rw (e, g, l))

-- salvage

by-short : (kept number : ℕ) (o : Answer (List Record)) → fault_of o ≡ 32 → Short ≡ fate_by kept number o
by-short kept number (fault n) e = rw (eq-eqb n 32 e)
by-short kept number (sound row) e = absurd (omega arith)

pub fate-short : (kept : ℕ) (b : List ℕ) → fault_of (block_records b) ≡ 32 → (Short ≡ fate_of kept b) × (b ≡ mended kept b (fate_of kept b))
unfolding fate_of
fate-short kept b h = let e = by-short kept (number_in b) (block_records b) h in (e, ap (mended kept b) e)

by-dropped : (kept number : ℕ) (o : Answer (List Record)) → (fault_of o ≡ 32 → ⊥) → (fault_of o ≡ 0 → ⊥) → Dropped number (fault_of o) ≡ fate_by kept number o
by-dropped kept number (fault n) h z = rw (ne_eqb n 32 h)
by-dropped kept number (sound row) h z = absurd (z refl)

pub fate-dropped : (kept : ℕ) (b : List ℕ) → (fault_of (block_records b) ≡ 32 → ⊥) → (fault_of (block_records b) ≡ 0 → ⊥)
    → (Dropped (number_in b) (fault_of (block_records b)) ≡ fate_of kept b) × (b ≡ mended kept b (fate_of kept b))
unfolding fate_of
fate-dropped kept b h z = let e = by-dropped kept (number_in b) (block_records b) h z in (e, ap (mended kept b) e)

-- the same by the block's length, and by the fault that was found

pub fate-other-length : (kept : ℕ) (b : List ℕ) → (length b ≡ 512 → ⊥) → (Short ≡ fate_of kept b) × (b ≡ mended kept b (fate_of kept b))
fate-other-length kept b h = fate-short kept b (sym (is-short b h))

above-32 : (o : Answer (List Record)) → Faults (λ n. 32 < n) o → fault_of o ≡ 32 → ⊥
above-32 (fault n) h e = omega arith
above-32 (sound row) h e = omega arith

pub fate-fault : (kept : ℕ) (b : List ℕ) (f : Fault) → length b ≡ 512 → number_of f ≡ fault_of (block_records b)
    → (Dropped (number_in b) (number_of f) ≡ fate_of kept b) × (b ≡ mended kept b (fate_of kept b))
fate-fault kept b f l e =
    let w = fate-dropped kept b (above-32 (block_records b) (whole-faults b l)) (λ z. not_0 f (e ∙ z)) in
    (ap (Dropped (number_in b)) e ∙ w.0, w.1)

by-kept : (kept number : ℕ) (o : Answer (List Record)) → Faults OfBlock o → fault_of o ≡ 0 → number ≡ kept → Kept ≡ fate_by kept number o
by-kept kept number (fault n) f h e = let l = f.0 in absurd (omega arith)
by-kept kept number (sound row) f h e = rw (eq-eqb number kept e)

pub fate-kept : (kept : ℕ) (b : List ℕ) → fault_of (block_records b) ≡ 0 → number_in b ≡ kept → (Kept ≡ fate_of kept b) × (b ≡ mended kept b (fate_of kept b))
unfolding fate_of
fate-kept kept b h q = let e = by-kept kept (number_in b) (block_records b) (block-faults b) h q in (e, ap (mended kept b) e)

by-moved : (kept number : ℕ) (o : Answer (List Record)) → Faults OfBlock o → fault_of o ≡ 0 → (number ≡ kept → ⊥) → Renumbered number ≡ fate_by kept number o
by-moved kept number (fault n) f h e = let l = f.0 in absurd (omega arith)
by-moved kept number (sound row) f h e = rw (ne_eqb number kept e)

-- what four octets say of a number is what they say of it modulo 4,294,967,296
pub four-modulo : (n : ℕ) → four (n % 4294967296) ≡ four n
four-modulo n =
    let a : n % 4294967296 / 16777216 % 256 ≡ n / 16777216 % 256 = omega arith in
    let b : n % 4294967296 / 65536 % 256 ≡ n / 65536 % 256 = omega arith in
    let c : n % 4294967296 / 256 % 256 ≡ n / 256 % 256 = omega arith in
    let d : n % 4294967296 % 256 ≡ n % 256 = omega arith in
    rw (a, b, c, d)

modulo : (n : ℕ) (b : List ℕ) → renumbered (n % 4294967296) b ≡ renumbered n b
unfolding renumbered
modulo n b = ap (λ (t : List ℕ). sealed (t ++ between 4 510 b)) (four-modulo n)

pub fate-moved : (kept : ℕ) (b : List ℕ) → fault_of (block_records b) ≡ 0 → (number_in b ≡ kept → ⊥)
    → (Renumbered (number_in b) ≡ fate_of kept b) × (renumbered (kept % 4294967296) b ≡ mended kept b (fate_of kept b))
unfolding fate_of
fate-moved kept b h q =
    let e = by-moved kept (number_in b) (block_records b) (block-faults b) h q in
    (e, modulo kept b ∙ ap (mended kept b) e)

-- the writer's step

module _ (held : List ℕ) (number : ℕ) (r : Record) (full : List ℕ) where
  pub wrote-refused : (f : Fault) → refused_by (number_of f) ≡ add_answer held r
      → (Err f ≡ wrote held number r) × ((add_leaves held r ≡ holds held number r) × (full ≡ hands_over full held r))
  unfolding wrote holds hands_over
  wrote-refused f e = let z = ne_eqb (number_of f) 0 (not_0 f) in (rw (← e, z, fault_back f), (rw (← e, z), rw (← e, z)))

  pub wrote-added : done true ≡ add_answer held r
      → (Ok (record { number = number; is_full = false }) ≡ wrote held number r) × ((add_leaves held r ≡ holds held number r) × (full ≡ hands_over full held r))
  unfolding wrote holds hands_over
  wrote-added e = (rw (← e), (rw (← e), rw (← e)))

  pub wrote-full : done false ≡ add_answer held r
      → (Ok (record { number = next_number number; is_full = true }) ≡ wrote held number r)
      × ((add_leaves (block_of (next_number number) []) r ≡ holds held number r) × (add_leaves held r ≡ hands_over full held r))
  unfolding wrote holds hands_over add_leaves
  wrote-full e = (rw (← e), (rw (← e), rw (← e)))

-- a block at its place

module _ (place : ℕ) (b : List ℕ) where
  pub at-short : (length b ≡ 512 → ⊥) → short_block ≡ fault_of (records_at place b)
  unfolding records_at block_records
  at-short h = rw (ne_eqb (length b) 512 h)

  pub at-fault : (fault_of (block_records b) ≡ 0 → ⊥) → fault_of (block_records b) ≡ fault_of (records_at place b)
  unfolding records_at
  at-fault h = go (block_records b) h
    where
      go : (o : Answer (List Record)) → (fault_of o ≡ 0 → ⊥) → fault_of o ≡ fault_of (and_then o (λ records. check (eqb (number_in b) place) wrong_number (sound records)))
      go (fault n) h = refl
      go (sound records) h = absurd (h refl)

  module _ (f : fault_of (block_records b) ≡ 0) where
    pub at_other : (number_in b ≡ place → ⊥) → wrong_number ≡ fault_of (records_at place b)
    unfolding records_at
    at_other h = let w = no-fault-sound (block_records b) (block-faults b) f in rw (w.1, ne_eqb (number_in b) place h)

    pub at_place : number_in b ≡ place → 0 ≡ fault_of (records_at place b)
    unfolding records_at
    at_place h = let w = no-fault-sound (block_records b) (block-faults b) f in rw (w.1, eq-eqb (number_in b) place h)
