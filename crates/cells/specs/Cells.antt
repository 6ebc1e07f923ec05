-- "A USSD string as text on forty cells": what the call returns and leaves.
use Rattle.std.specs.Prelude.{ℕ, ◌/◌, List, Bool, ◌&&◌, length, eqb, leb}
use Rattle.octets.specs.Splice.{splice}
use Rattle.octets.specs.Unless.{unless}
use Rattle.cells.specs.Characters.{string_text}
use Rattle.cells.specs.Lines.{lines_of, line_octets}
use Rattle.cells.specs.declared.Laid.{Laid}
use Rattle.cells.specs.declared.Extent.{Extent}

pub record Layout : Type 0 where
  pub laid : Laid
  pub text : List ℕ
  pub lines : List ℕ

-- "a refused call writes nothing and returns 0 in every field but the code"
abbrev pub refused_laid : ℕ → Laid
refused_laid code = record { code = code; characters = 0; lines = 0 }

abbrev pub refused_layout : ℕ → List ℕ → List ℕ → Layout
refused_layout code text lines = record { laid = refused_laid code; text = text; lines = lines }

-- how much there is
abbrev pub extent_of : List ℕ → Extent
extent_of string = record { characters = length (string_text string); lines = length (lines_of (string_text string)) }

-- "41 exactly if the text has more characters than `text_length`, or more lines than `lines_length` / 2 rounded down"
abbrev pub has_room : List ℕ → ℕ → ℕ → Bool
has_room string characters octets = leb (length (string_text string)) characters && leb (length (lines_of (string_text string))) (octets / 2)

-- a text and its lines; "what stands behind the part written stays as lent"
abbrev pub laid_out : List ℕ → List ℕ → List ℕ → Layout
laid_out characters text lines =
    record {
      laid = record { code = 0; characters = length characters; lines = length (lines_of characters) };
      text = splice text 0 characters;
      lines = splice lines 0 (line_octets (lines_of characters));
    }

-- "Refusals: 40 another coding scheme, 41 output too short, in that order."
unfoldable pub cells : ℕ → List ℕ → List ℕ → List ℕ → Layout
cells scheme string text lines =
    unless (eqb scheme 0x0F) (refused_layout 40 text lines)
    (unless (has_room string (length text) (length lines)) (refused_layout 41 text lines)
    (laid_out (string_text string) text lines))
