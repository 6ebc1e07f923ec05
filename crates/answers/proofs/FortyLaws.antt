-- Whatever is typed, no line of the answer is longer than forty characters.
use Prim.Native.Nat.{ℕ}
use mathlib.Core.Path.{◌≡◌, refl}
use mathlib.Core.List.{List, [], ◌∷◌, ◌++◌, append_assoc}
use mathlib.Core.Bool.{Bool, true, false, cond}
use native.Mathlib.Omega.{arith}
use lib.ListN.{length, take}
use lib.Dec.{ltb, leb}
use Rattle.octets.specs.Reader.{is_empty}
use Rattle.printing.specs.Numbers.{decimal}
use Rattle.printing.specs.Lines.{octets_line}
use Rattle.printing.specs.Forty.{forty_from, forty, plain}
use Rattle.printing.proofs.FortyLaws.{forty-append, count-forty, number-forty, octets-forty}
use Rattle.words.specs.Commands as commands
use Rattle.words.specs.declared.Ending.{Ending}
use Rattle.words.specs.declared.Ending.TheVariants.{Whole, Wrong, Long}
use Rattle.std.proofs.Common.{Option, None, Some, Result as OrElse, Ok, Err}
use Rattle.words.specs.declared.NotUnderstood.{NotUnderstood}
use Rattle.words.specs.declared.Command.{Command}
use Rattle.words.specs.declared.Command.TheVariants.{Receive, Begin, Invoke, Result, Error, Release, Table, Buffer, Batch}
use Rattle.reports.specs.Words.{table_word, buffer_word, line_word, table_set}
use Rattle.reports.proofs.FortyLaws.{received-forty, called-forty, batched-forty}
use Rattle.words.specs.Lines.{longest}
use Rattle.answers.specs.declared.answer.Asks.{Asks}
use Rattle.answers.specs.declared.answer.Asks.TheVariants.{Room, Image, Call}
use Rattle.answers.specs.Answers.{State, Said, says, not_understood, too_long, made, image, asks_of, unless_whole, octets_at, on_octets, by_asks, by_command, answer, answer_line}

nothing : forty [] ≡ true
unfolding forty forty_from
nothing = refl

empty-line : forty (10 ∷ []) ≡ true
unfolding forty forty_from
empty-line = refl

-- a line, and the empty one behind it
two_ends : (x text : List ℕ) → forty (x ++ text ++ (10 ∷ [])) ≡ true → forty (x ++ (text ++ (10 ∷ []) ++ (10 ∷ []))) ≡ true
two_ends x text h = rw (← append_assoc x (text ++ (10 ∷ [])) (10 ∷ []), ← append_assoc x text (10 ∷ [])) (forty-append (x ++ text ++ (10 ∷ [])) (10 ∷ []) h empty-line)

understood-forty : (n : ℕ) → forty (not_understood n) ≡ true
unfolding not_understood plain
understood-forty n =
    let w : List ℕ = 32 ∷ 110 ∷ 111 ∷ 116 ∷ 32 ∷ 117 ∷ 110 ∷ 100 ∷ 101 ∷ 114 ∷ 115 ∷ 116 ∷ 111 ∷ 111 ∷ 100 ∷ [] in
    two_ends (line_word ++ decimal n) w (count-forty line_word w n refl refl (omega arith))

long-forty : (n : ℕ) → forty (too_long n) ≡ true
unfolding too_long plain
long-forty n =
    let w : List ℕ = 32 ∷ 116 ∷ 111 ∷ 111 ∷ 32 ∷ 108 ∷ 111 ∷ 110 ∷ 103 ∷ [] in
    two_ends (line_word ++ decimal n) w (count-forty line_word w n refl refl (omega arith))

made-forty : (t buffer p : List ℕ) (c : Command) → forty (made t buffer p c).text ≡ true
unfolding made
made-forty t buffer p (Receive at) = received-forty p _ _
made-forty t buffer p (Begin operation id at) = called-forty true _ _
made-forty t buffer p (Invoke flag value operation id at) = called-forty false _ _
made-forty t buffer p (Result flag value id at) = called-forty false _ _
made-forty t buffer p (Error flag value id code at) = called-forty false _ _
made-forty t buffer p (Release flag value) = called-forty false _ _
made-forty t buffer p (Batch at) = batched-forty _ _
made-forty t buffer p (Table at) = nothing
made-forty t buffer p (Buffer n) = nothing

set-forty : forty table_set ≡ true
unfolding forty forty_from
set-forty = refl

module _ (n : ℕ) (s : State) where
  image-forty : (p : List ℕ) → forty (image n s p).text ≡ true
  unfolding image plain
  image-forty p = go (is_empty p) (leb (length p) 300)
    where
      go : (a b : Bool)
          → forty (cond a (says (octets_line table_word s.table ++ (10 ∷ [])) s) (cond b (says table_set (record { table = p; room = s.room })) (says (not_understood n) s))).text ≡ true
      go true b = forty-append (octets_line table_word s.table) (10 ∷ []) (octets-forty table_word s.table refl (omega arith)) empty-line
      go false true = set-forty
      go false false = understood-forty n

  ended-forty : (e : Ending) (said : Said) → forty said.text ≡ true → forty (unless_whole n s e said).text ≡ true
  ended-forty Whole said h = h
  ended-forty Wrong said h = understood-forty n
  ended-forty Long said h = long-forty n

  octets-answered : (line : List ℕ) (at : ℕ) (isImage : Bool) (c : Command) → forty (on_octets n line at isImage c s).text ≡ true
  unfolding on_octets
  octets-answered line at true c = ended-forty (octets_at line at).ends _ (image-forty (octets_at line at).octets)
  octets-answered line at false c = ended-forty (octets_at line at).ends _ (made-forty _ _ (octets_at line at).octets c)

  asked : (line : List ℕ) (c : Command) (a : Asks) → forty (by_asks n line c s a).text ≡ true
  unfolding by_asks plain
  asked line c (Room room) = forty-append _ (10 ∷ []) (number-forty buffer_word room refl (omega arith)) empty-line
  asked line c (Image at) = octets-answered line at true c
  asked line c (Call at) = octets-answered line at false c

  told : (line : List ℕ) (r : OrElse (Option Command) NotUnderstood) → forty (by_command n line s r).text ≡ true
  unfolding by_command
  told line (Ok None) = nothing
  told line (Ok (Some c)) = asked line c (asks_of (length line) c)
  told line (Err e) = understood-forty n

  pub answer-forty : (line : List ℕ) (have : ℕ) → forty (answer_line n line have s).text ≡ true
  unfolding answer_line answer
  answer-forty line have = go (ltb longest have)
    where
      go : (b : Bool) → forty (cond b (says (too_long n) s) (answer n (take have line) s)).text ≡ true
      go true = long-forty n
      go false = told (take have line) (commands.command (take have line))
