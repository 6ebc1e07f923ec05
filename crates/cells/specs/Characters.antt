-- Septets as characters.
use Rattle.std.specs.Prelude.{ℕ, List, [], ◌∷◌, cond, eqb}
use Rattle.cells.specs.Septets.{unpacked}
use Rattle.cells.specs.Alphabet.{escape, character_of, extension_of}

-- "an escape and the septet behind it are one character"; pairs from the left; "An escape that ends the text is a space", which
-- stands at 1B of the alphabet
unfoldable pub characters : List ℕ → List ℕ
characters [] = []
characters (c ∷ []) = character_of c ∷ []
characters (c ∷ d ∷ s) = cond (eqb c escape) (extension_of d ∷ characters s) (character_of c ∷ characters (d ∷ s))

-- "The text" is "the characters after pad and escapes"
unfoldable pub string_text : List ℕ → List ℕ
string_text string = characters (unpacked string)
