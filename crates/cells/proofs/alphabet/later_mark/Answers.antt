use mathlib.Core.Path.{refl}
use Rattle.cells.specs.Alphabet.{character_of, own_of}
use Rattle.cells.specs.Marks.{mark_at}
use Rattle.cells.proofs.AlphabetLaws.{no-mark}
use Rattle.cells.proofs.alphabet.later_mark.Goals as goal

pub returns-in-32 : goal.returns-in-32
unfolding mark_at character_of
returns-in-32 c = rw c.in-32.is refl

pub returns-in-33 : goal.returns-in-33
unfolding mark_at character_of
returns-in-33 c = rw c.in-33.is refl

pub returns-in-34 : goal.returns-in-34
unfolding mark_at character_of
returns-in-34 c = rw c.in-34.is refl

pub returns-in-35 : goal.returns-in-35
unfolding mark_at character_of
returns-in-35 c = rw c.in-35.is refl

pub returns-in-36 : goal.returns-in-36
unfolding mark_at character_of
returns-in-36 c = rw c.in-36.is refl

pub returns-in-37 : goal.returns-in-37
unfolding mark_at character_of
returns-in-37 c = rw c.in-37.is refl

pub returns-in-38 : goal.returns-in-38
unfolding mark_at character_of
returns-in-38 c = rw c.in-38.is refl

pub returns-in-39 : goal.returns-in-39
unfolding mark_at character_of
returns-in-39 c = rw c.in-39.is refl

pub returns-in-40 : goal.returns-in-40
unfolding mark_at character_of
returns-in-40 c = rw c.in-40.is refl

pub returns-in-41 : goal.returns-in-41
unfolding mark_at character_of
returns-in-41 c = rw c.in-41.is refl

pub returns-in-42 : goal.returns-in-42
unfolding mark_at character_of
returns-in-42 c = rw c.in-42.is refl

pub returns-in-43 : goal.returns-in-43
unfolding mark_at own_of
returns-in-43 c = rw c.in-43.is refl

pub returns-in-47 : goal.returns-in-47
unfolding mark_at own_of
returns-in-47 c = rw c.in-47.is refl

pub returns-in-48 : goal.returns-in-48
unfolding mark_at own_of
returns-in-48 c = rw c.in-48.is refl

pub returns-in-51 : goal.returns-in-51
unfolding mark_at own_of
returns-in-51 c = rw c.in-51.is refl

pub returns-in-52 : goal.returns-in-52
unfolding mark_at own_of
returns-in-52 c = rw c.in-52.is refl

pub returns-in-53 : goal.returns-in-53
unfolding mark_at own_of
returns-in-53 c = rw c.in-53.is refl

pub returns-in-55 : goal.returns-in-55
unfolding mark_at own_of
returns-in-55 c = rw c.in-55.is refl

pub returns-in-56 : goal.returns-in-56
unfolding mark_at own_of
returns-in-56 c = rw c.in-56.is refl

pub returns-in-57 : goal.returns-in-57
unfolding mark_at own_of
returns-in-57 c = rw c.in-57.is refl

pub returns-in-58 : goal.returns-in-58
unfolding mark_at own_of
returns-in-58 c = rw c.in-58.is refl

pub returns-in_default : goal.returns-in_default
returns-in_default c = no-mark c.args.place c.requires.0 c.requires.1 c.in_default.in_default-own.rest
