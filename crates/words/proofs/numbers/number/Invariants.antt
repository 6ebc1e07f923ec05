use Rattle.std.proofs.Common.{◌≡◌, ◌≤◌, drop}
use Rattle.words.specs.Numbers.{number_from, number}
use Rattle.words.proofs.numbers.number.Given as goal

abbrev pub invariant-loop-c : goal.invariant-loop-c
invariant-loop-c l = record {
  so_far : number_from l.most l.n (drop l.c-index l.word) ≡ number l.most l.word;
  within : l.n ≤ l.most;
}
