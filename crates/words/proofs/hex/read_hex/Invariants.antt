use Rattle.words.proofs.HexLaws.{Reading}
use Rattle.words.proofs.hex.read_hex.Given as goal

abbrev pub invariant-loop-c : goal.invariant-loop-c
invariant-loop-c l = Reading l.text l.initial.buffer l.buffer l.count l.half l.c-index
