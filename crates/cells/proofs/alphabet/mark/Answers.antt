use mathlib.Core.Path.{refl}
use Rattle.cells.specs.Alphabet.{character_of}
use Rattle.cells.specs.Marks.{mark_at}
use Rattle.cells.proofs.AlphabetLaws.{behind-first}
use Rattle.cells.proofs.alphabet.mark.Goals as goal

pub second_mark-requires : goal.second_mark-requires
second_mark-requires c = (behind-first c.args.place c.requires c.in_default.in_default-own.rest, c.requires)

pub returns-in-0 : goal.returns-in-0
unfolding mark_at character_of
returns-in-0 c = rw c.in-0.is refl

pub returns-in-1 : goal.returns-in-1
unfolding mark_at character_of
returns-in-1 c = rw c.in-1.is refl

pub returns-in-2 : goal.returns-in-2
unfolding mark_at character_of
returns-in-2 c = rw c.in-2.is refl

pub returns-in-3 : goal.returns-in-3
unfolding mark_at character_of
returns-in-3 c = rw c.in-3.is refl

pub returns-in-4 : goal.returns-in-4
unfolding mark_at character_of
returns-in-4 c = rw c.in-4.is refl

pub returns-in-5 : goal.returns-in-5
unfolding mark_at character_of
returns-in-5 c = rw c.in-5.is refl

pub returns-in-6 : goal.returns-in-6
unfolding mark_at character_of
returns-in-6 c = rw c.in-6.is refl

pub returns-in-7 : goal.returns-in-7
unfolding mark_at character_of
returns-in-7 c = rw c.in-7.is refl

pub returns-in-8 : goal.returns-in-8
unfolding mark_at character_of
returns-in-8 c = rw c.in-8.is refl

pub returns-in-9 : goal.returns-in-9
unfolding mark_at character_of
returns-in-9 c = rw c.in-9.is refl

pub returns-in-10 : goal.returns-in-10
unfolding mark_at character_of
returns-in-10 c = rw c.in-10.is refl

pub returns-in-11 : goal.returns-in-11
unfolding mark_at character_of
returns-in-11 c = rw c.in-11.is refl

pub returns-in-12 : goal.returns-in-12
unfolding mark_at character_of
returns-in-12 c = rw c.in-12.is refl

pub returns-in-13 : goal.returns-in-13
unfolding mark_at character_of
returns-in-13 c = rw c.in-13.is refl

pub returns-in-14 : goal.returns-in-14
unfolding mark_at character_of
returns-in-14 c = rw c.in-14.is refl

pub returns-in-15 : goal.returns-in-15
unfolding mark_at character_of
returns-in-15 c = rw c.in-15.is refl

pub returns-in_default : goal.returns-in_default
returns-in_default c = c.second_mark.ensures
