-- 02 [7]: "Refusals, in this order for each block: 32 short block, 33 sum, 34 use count, 35 record or rest, 36 number not the
-- block's place". A file has one first fault, and which.
use Rattle.std.specs.Prelude.{ℕ, ◌<◌, ◌≤◌, ◌≡◌, List, [], ◌∷◌, Bool, ◌&&◌, length, get_or, take, eqb, leb}
use Rattle.std.proofs.Math.Option.{Option, none, some}
use Rattle.octets.specs.Unless.{unless}
use Rattle.trace.specs.Numbers.{sum_of}
use Rattle.trace.specs.Records.{records_in}
use Rattle.trace.specs.Blocks.{number_in, used_in, sum_in, record_part, rest_part, all_zero, records_at, fault_of}
use Rattle.trace.specs.Files.{Refusal, blocks_in, read_file}
use Rattle.trace.specs.Seen.{is_sound}

-- a number and what must hold, or else the number is the fault
pub record Test : Type 0 where
  pub number : ℕ
  pub holds : Bool

-- 0 where all hold
abbrev pub first_of : List Test → ℕ
first_of [] = 0
first_of (t ∷ others) = unless t.holds t.number (first_of others)

abbrev pub tests : ℕ → List ℕ → List Test
tests place b =
    record { number = 32; holds = eqb (length b) 512 }
    ∷ record { number = 33; holds = eqb (sum_of (take 510 b)) (sum_in b) }
    ∷ record { number = 34; holds = leb (used_in b) 504 }
    ∷ record { number = 35; holds = all_zero (rest_part b) && is_sound (records_in (record_part b)) }
    ∷ record { number = 36; holds = eqb (number_in b) place }
    ∷ []

-- the fault of a block at its place is that of the first test that fails
abbrev pub InOrder : Type 0
InOrder = (place : ℕ) (b : List ℕ) → fault_of (records_at place b) ≡ first_of (tests place b)

abbrev pub SoundBefore : List (List ℕ) → ℕ → Type 0
SoundBefore blocks n = (i : ℕ) → i < n → first_of (tests i (get_or blocks i [])) ≡ 0

-- what a reader says of a file: nothing where every block is sound at its place; else the first that isn't, and its first fault
abbrev pub Tells : List (List ℕ) → Option Refusal → Type 0
Tells blocks none = SoundBefore blocks (length blocks)
Tells blocks (some r) =
    (r.place < length blocks) × (SoundBefore blocks r.place × ((first_of (tests r.place (get_or blocks r.place [])) ≡ r.number) × ((32 ≤ r.number) × (r.number ≤ 36))))

abbrev pub FirstFault : Type 0
FirstFault = (file : List ℕ) → Tells (blocks_in file) (read_file file).refused
