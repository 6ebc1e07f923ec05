use mathlib.Core.Path.{refl}
use Rattle.cells.specs.Alphabet.{character_of}
use Rattle.cells.specs.Marks.{mark_at}
use Rattle.cells.proofs.AlphabetLaws.{behind-second}
use Rattle.cells.proofs.alphabet.second_mark.Goals as goal

pub later_mark-requires : goal.later_mark-requires
later_mark-requires c = (behind-second c.args.place c.requires.0 c.requires.1 c.in_default.in_default-own.rest, c.requires.1)

pub returns-in-16 : goal.returns-in-16
unfolding mark_at character_of
returns-in-16 c = rw c.in-16.is refl

pub returns-in-17 : goal.returns-in-17
unfolding mark_at character_of
returns-in-17 c = rw c.in-17.is refl

pub returns-in-18 : goal.returns-in-18
unfolding mark_at character_of
returns-in-18 c = rw c.in-18.is refl

pub returns-in-19 : goal.returns-in-19
unfolding mark_at character_of
returns-in-19 c = rw c.in-19.is refl

pub returns-in-20 : goal.returns-in-20
unfolding mark_at character_of
returns-in-20 c = rw c.in-20.is refl

pub returns-in-21 : goal.returns-in-21
unfolding mark_at character_of
returns-in-21 c = rw c.in-21.is refl

pub returns-in-22 : goal.returns-in-22
unfolding mark_at character_of
returns-in-22 c = rw c.in-22.is refl

pub returns-in-23 : goal.returns-in-23
unfolding mark_at character_of
returns-in-23 c = rw c.in-23.is refl

pub returns-in-24 : goal.returns-in-24
unfolding mark_at character_of
returns-in-24 c = rw c.in-24.is refl

pub returns-in-25 : goal.returns-in-25
unfolding mark_at character_of
returns-in-25 c = rw c.in-25.is refl

pub returns-in-26 : goal.returns-in-26
unfolding mark_at character_of
returns-in-26 c = rw c.in-26.is refl

pub returns-in-27 : goal.returns-in-27
unfolding mark_at character_of
returns-in-27 c = rw c.in-27.is refl

pub returns-in-28 : goal.returns-in-28
unfolding mark_at character_of
returns-in-28 c = rw c.in-28.is refl

pub returns-in-29 : goal.returns-in-29
unfolding mark_at character_of
returns-in-29 c = rw c.in-29.is refl

pub returns-in-30 : goal.returns-in-30
unfolding mark_at character_of
returns-in-30 c = rw c.in-30.is refl

pub returns-in-31 : goal.returns-in-31
unfolding mark_at character_of
returns-in-31 c = rw c.in-31.is refl

pub returns-in_default : goal.returns-in_default
returns-in_default c = c.later_mark.ensures
