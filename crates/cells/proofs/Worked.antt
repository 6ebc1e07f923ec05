-- The worked cases, computed.
use mathlib.Core.Path.{refl}
use Rattle.octets.specs.Splice.{splice}
use Rattle.cells.specs.Septets.{septet_at, septets_from, septets_sent}
use Rattle.cells.specs.Alphabet.{character_of, own_of, extension_of}
use Rattle.cells.specs.Characters.{characters, string_text}
use Rattle.cells.specs.Lines.{up_to_space, lines_by, lines_of, line_octets}
use Rattle.cells.specs.Cells.{cells}
use Rattle.cells.specs.Packing.{number, digits, packed}
use Rattle.cells.specs.Worked.{WorkedTexts, WorkedLines, MostLines}

pub worked-texts : WorkedTexts
unfolding septet_at septets_from septets_sent character_of own_of extension_of characters string_text number digits packed
worked-texts = (refl, (refl, (refl, (refl, (refl, (refl, (refl, (refl, (refl, (refl, (refl, (refl, (refl, (refl, refl))))))))))))))

pub worked-lines : WorkedLines
unfolding septet_at septets_from septets_sent character_of own_of extension_of characters string_text number digits packed up_to_space lines_by lines_of line_octets cells splice
worked-lines = (refl, (refl, (refl, (refl, (refl, (refl, (refl, (refl, (refl, (refl, (refl, (refl, refl))))))))))))

pub most-lines : MostLines
unfolding septet_at septets_from septets_sent character_of own_of extension_of characters string_text number digits packed up_to_space lines_by lines_of line_octets
most-lines = refl
