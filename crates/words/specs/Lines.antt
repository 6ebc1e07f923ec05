-- Input as lines: a line ends at 10, or where the input ends.
use Rattle.std.specs.Prelude.{ℕ, suc, ◌+◌, List, [], ◌∷◌, cond, length, take, drop, eqb, ltb}
use Rattle.octets.specs.Splice.{splice}
use Rattle.words.specs.declared.lines.Gathered.{Gathered}

-- how many octets stand before the first 10
unfoldable pub line_end : List ℕ → ℕ
line_end [] = 0
line_end (c ∷ s) = cond (eqb c 10) 0 (suc (line_end s))

-- a line's octets from a place of the input on
unfoldable pub piece : List ℕ → ℕ → List ℕ
piece input from = take (line_end (drop from input)) (drop from input)

-- no line is longer than this; 4,096 octets in hex with blanks between them have room
abbrev pub longest : ℕ
longest = 16384

-- so many octets of a line, or one more than the longest for every longer line
abbrev pub held : ℕ → List ℕ → ℕ
held have p = cond (ltb longest (have + length p)) (suc longest) (have + length p)

-- the line after a piece more; of one that is too long nothing more is kept
abbrev pub with_piece : List ℕ → ℕ → List ℕ → List ℕ
with_piece line have p = cond (ltb longest (have + length p)) line (splice line have p)

-- where the next line begins, how long this one is, and whether it is whole
unfoldable pub gathered : List ℕ → ℕ → ℕ → Gathered
gathered input from have =
    record {
      next = cond (ltb (from + length (piece input from)) (length input)) (suc (from + length (piece input from))) (from + length (piece input from));
      have = held have (piece input from);
      is_whole = ltb (from + length (piece input from)) (length input);
    }
