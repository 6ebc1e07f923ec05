-- C23: "`received HEX` or `sent HEX` .. The reader prints the word and the octets as the bench prints octets, going on in lines that
-- start with a space."
use Rattle.std.specs.Prelude.{ℕ, List, [], ◌∷◌, ◌++◌, cond, eqb}
use Rattle.std.proofs.Math.Option.{Option, none, some}
use Rattle.octets.specs.Reader.{Answer, fault, sound}
use Rattle.printing.specs.Numbers.{decimal}
use Rattle.printing.specs.Lines.{octets_line}
use Rattle.trace.specs.Records.{Record}
use Rattle.trace.specs.Blocks.{records_at}
use Rattle.trace.specs.Files.{Refusal, read_file}

-- `received`, `sent`
abbrev pub received : List ℕ
received = 114 ∷ 101 ∷ 99 ∷ 101 ∷ 105 ∷ 118 ∷ 101 ∷ 100 ∷ []

abbrev pub sent : List ℕ
sent = 115 ∷ 101 ∷ 110 ∷ 116 ∷ []

-- "a direction (0 received, 1 sent)"
abbrev pub word_of : ℕ → List ℕ
word_of direction = cond (eqb direction 0) received sent

abbrev pub record_line : Record → List ℕ
record_line r = octets_line (word_of r.direction) r.message

unfoldable pub record_lines : List Record → List ℕ
record_lines [] = []
record_lines (r ∷ others) = record_line r ++ record_lines others

-- a word, a number, a word, a number
unfoldable pub four_line : List ℕ → ℕ → List ℕ → ℕ → List ℕ
four_line first n second k = first ++ decimal n ++ second ++ decimal k ++ (10 ∷ [])

-- `block N refused R`
abbrev pub block_word : List ℕ
block_word = 98 ∷ 108 ∷ 111 ∷ 99 ∷ 107 ∷ 32 ∷ []

abbrev pub refused_word : List ℕ
refused_word = 32 ∷ 114 ∷ 101 ∷ 102 ∷ 117 ∷ 115 ∷ 101 ∷ 100 ∷ 32 ∷ []

unfoldable pub refused_line : ℕ → ℕ → List ℕ
refused_line place number = four_line block_word place refused_word number

-- what is printed of a block at its place
abbrev pub text_by : ℕ → Answer (List Record) → List ℕ
text_by place (fault n) = refused_line place n
text_by place (sound records) = record_lines records

unfoldable pub block_text : ℕ → List ℕ → List ℕ
block_text place b = text_by place (records_at place b)

-- "the records of the blocks before it, then the place and the number as the last line"
abbrev pub last_line : Option Refusal → List ℕ
last_line none = []
last_line (some r) = refused_line r.place r.number

unfoldable pub reader_text : List ℕ → List ℕ
reader_text file = record_lines (read_file file).records ++ last_line (read_file file).refused

-- C22: "if refused, one line: `line N refused 35`"
unfoldable pub bad_line : ℕ → List ℕ
bad_line line = four_line (108 ∷ 105 ∷ 110 ∷ 101 ∷ 32 ∷ []) line refused_word 35
