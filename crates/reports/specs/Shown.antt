-- What is printed of a received message and of a call, line by line.
use Rattle.std.specs.Prelude.{ℕ, ◌*◌, ◌≡◌, List, [], ◌∷◌, ◌++◌, Bool, true, not, ◌&&◌, length, take, replicate, eqb, ltb}
use Rattle.printing.specs.Lines.{when, octets_line, number_line, id_line, problem_line}
use Rattle.printing.specs.Utf8.{text_rows}
use Rattle.cells.specs.Characters.{string_text}
use Rattle.cells.specs.Lines.{lines_of, line_octets}
use Rattle.cells.specs.Cells.{Layout, cells}
use Rattle.components.specs.Component.{invoke_tag, result_tag, error_tag, reject_tag}
use Rattle.showing.specs.Views.{standing}
use Rattle.showing.specs.declared.ComponentView.{ComponentView}
use Rattle.showing.specs.declared.TextView.{TextView}
use Rattle.showing.specs.declared.CauseView.{CauseView}
use Rattle.telephone.specs.Receive.{receive}
use Rattle.telephone.specs.FromC.{received_of}
use Rattle.telephone.specs.declared.receive.Received.{Received}
use Rattle.telephone.specs.declared.calls.Called.{Called}
use Rattle.reports.specs.Words.{invoke_word, result_word, error_word, reject_word, reject_none, linked_word, operation_word, code_word, parameter_word, scheme_word, string_word, lines_word, tail_word, cause_word, reply_word, message_word, value_word, verdict_line, done_or_refused}

-- "`invoke 5`, `result 1`, `error 1`, `reject 5` or `reject none`"
unfoldable pub kind_lines : ComponentView → List ℕ
kind_lines v =
    when (eqb v.kind invoke_tag) (id_line invoke_word v.id)
    ++ when (eqb v.kind result_tag) (id_line result_word v.id)
    ++ when (eqb v.kind error_tag) (id_line error_word v.id)
    ++ when (eqb v.kind reject_tag && v.has_id) (id_line reject_word v.id)
    ++ when (eqb v.kind reject_tag && not v.has_id) reject_none

-- "`linked -3`; `operation 60`; `code 17`; `problem 81 0`"
unfoldable pub number_lines : ComponentView → List ℕ
number_lines v =
    when v.has_linked (id_line linked_word v.linked)
    ++ when v.has_operation (number_line operation_word v.operation)
    ++ when (eqb v.kind error_tag) (number_line code_word v.code)
    ++ when (eqb v.kind reject_tag) (problem_line v.tag v.problem)

-- "`parameter 30 06 ..`"
unfoldable pub parameter_line : List ℕ → ComponentView → List ℕ
parameter_line m v = when (ltb v.parameter.start v.parameter.end) (octets_line parameter_word (standing m v.parameter))

-- "`lines N` follows it, then the N lines of text, each alone on a line of its own"; "With another scheme nothing is printed for it"
unfoldable pub laid_lines : Layout → List ℕ
laid_lines o = when (eqb o.laid.code 0) (number_line lines_word o.laid.lines ++ text_rows o.text (take (2 * o.laid.lines) o.lines))

-- the text of a string, in the room that is enough for every text that is shown
unfoldable pub cell_lines : ℕ → List ℕ → List ℕ
cell_lines scheme string = laid_lines (cells scheme string (replicate 182 0) (replicate 18 0))

-- "`scheme 0F`, `string 41`, `tail 04 01 02`"; "Wherever `string` is printed and the scheme is 0F", its lines
unfoldable pub text_lines : List ℕ → TextView → List ℕ
text_lines m t =
    when t.is_there (octets_line scheme_word (t.scheme ∷ []))
    ++ when t.is_there (octets_line string_word (standing m t.string))
    ++ when t.is_there (cell_lines t.scheme (standing m t.string))
    ++ when t.is_there (octets_line tail_word (standing m t.tail))

-- "`cause E0 9D`"
unfoldable pub cause_line : List ℕ → CauseView → List ℕ
cause_line m c = when c.is_there (octets_line cause_word (standing m c.contents))

-- "`reply 8B 2A ..` or, for a call, `message 0B 3B ..`"
unfoldable pub written_line : List ℕ → ℕ → List ℕ → List ℕ
written_line word written buffer = when (ltb 0 written) (octets_line word (take written buffer))

-- the lines in their order, "and then an empty line"
unfoldable pub received_text : List ℕ → List ℕ → Received → List ℕ
received_text m reply r =
    verdict_line r.code
    ++ kind_lines r.shown
    ++ number_lines r.shown
    ++ parameter_line m r.shown
    ++ text_lines m r.text
    ++ cause_line m r.cause
    ++ written_line reply_word r.written reply
    ++ (10 ∷ [])

-- "`value 3` (begin)"
unfoldable pub called_text : Bool → List ℕ → Called → List ℕ
called_text begins buffer c =
    done_or_refused c.code
    ++ when (begins && eqb c.code 0) (number_line value_word c.value)
    ++ written_line message_word c.written buffer
    ++ (10 ∷ [])

-- "`lines N` .., then the N lines of text, each alone on a line of its own", as 02 breaks it
abbrev pub broken_text : List ℕ → List ℕ
broken_text text = number_line lines_word (length (lines_of text)) ++ text_rows text (line_octets (lines_of text))

-- "Wherever `string` is printed and the scheme is 0F" they follow it: of a received message there is always room
abbrev pub LinesFollow : Type 0
LinesFollow =
    (t m b : List ℕ) (r : Received) → r ≡ received_of (length m) (receive t m b) → r.text.is_there ≡ true → r.text.scheme ≡ 0x0F
    → cell_lines r.text.scheme (standing m r.text.string) ≡ broken_text (string_text (standing m r.text.string))
