-- The words of an answer, as octets.
use Rattle.std.specs.Prelude.{ℕ, List, [], ◌∷◌, cond, eqb}

-- `invoke`
abbrev pub invoke_word : List ℕ
invoke_word = 105 ∷ 110 ∷ 118 ∷ 111 ∷ 107 ∷ 101 ∷ []

-- `result`
abbrev pub result_word : List ℕ
result_word = 114 ∷ 101 ∷ 115 ∷ 117 ∷ 108 ∷ 116 ∷ []

-- `error`
abbrev pub error_word : List ℕ
error_word = 101 ∷ 114 ∷ 114 ∷ 111 ∷ 114 ∷ []

-- `reject`
abbrev pub reject_word : List ℕ
reject_word = 114 ∷ 101 ∷ 106 ∷ 101 ∷ 99 ∷ 116 ∷ []

-- `linked`
abbrev pub linked_word : List ℕ
linked_word = 108 ∷ 105 ∷ 110 ∷ 107 ∷ 101 ∷ 100 ∷ []

-- `operation`
abbrev pub operation_word : List ℕ
operation_word = 111 ∷ 112 ∷ 101 ∷ 114 ∷ 97 ∷ 116 ∷ 105 ∷ 111 ∷ 110 ∷ []

-- `code`
abbrev pub code_word : List ℕ
code_word = 99 ∷ 111 ∷ 100 ∷ 101 ∷ []

-- `parameter`
abbrev pub parameter_word : List ℕ
parameter_word = 112 ∷ 97 ∷ 114 ∷ 97 ∷ 109 ∷ 101 ∷ 116 ∷ 101 ∷ 114 ∷ []

-- `scheme`
abbrev pub scheme_word : List ℕ
scheme_word = 115 ∷ 99 ∷ 104 ∷ 101 ∷ 109 ∷ 101 ∷ []

-- `string`
abbrev pub string_word : List ℕ
string_word = 115 ∷ 116 ∷ 114 ∷ 105 ∷ 110 ∷ 103 ∷ []

-- `lines`
abbrev pub lines_word : List ℕ
lines_word = 108 ∷ 105 ∷ 110 ∷ 101 ∷ 115 ∷ []

-- `tail`
abbrev pub tail_word : List ℕ
tail_word = 116 ∷ 97 ∷ 105 ∷ 108 ∷ []

-- `cause`
abbrev pub cause_word : List ℕ
cause_word = 99 ∷ 97 ∷ 117 ∷ 115 ∷ 101 ∷ []

-- `reply`
abbrev pub reply_word : List ℕ
reply_word = 114 ∷ 101 ∷ 112 ∷ 108 ∷ 121 ∷ []

-- `message`
abbrev pub message_word : List ℕ
message_word = 109 ∷ 101 ∷ 115 ∷ 115 ∷ 97 ∷ 103 ∷ 101 ∷ []

-- `value`
abbrev pub value_word : List ℕ
value_word = 118 ∷ 97 ∷ 108 ∷ 117 ∷ 101 ∷ []

-- `slots`
abbrev pub slots_word : List ℕ
slots_word = 115 ∷ 108 ∷ 111 ∷ 116 ∷ 115 ∷ []

-- `table`
abbrev pub table_word : List ℕ
table_word = 116 ∷ 97 ∷ 98 ∷ 108 ∷ 101 ∷ []

-- `buffer`
abbrev pub buffer_word : List ℕ
buffer_word = 98 ∷ 117 ∷ 102 ∷ 102 ∷ 101 ∷ 114 ∷ []

-- `line`
abbrev pub line_word : List ℕ
line_word = 108 ∷ 105 ∷ 110 ∷ 101 ∷ 32 ∷ []

-- `reject none`
abbrev pub reject_none : List ℕ
reject_none = 114 ∷ 101 ∷ 106 ∷ 101 ∷ 99 ∷ 116 ∷ 32 ∷ 110 ∷ 111 ∷ 110 ∷ 101 ∷ 10 ∷ []

-- `done 0`
abbrev pub done_line : List ℕ
done_line = 100 ∷ 111 ∷ 110 ∷ 101 ∷ 32 ∷ 48 ∷ 10 ∷ []

-- `table set`
abbrev pub table_set : List ℕ
table_set = 116 ∷ 97 ∷ 98 ∷ 108 ∷ 101 ∷ 32 ∷ 115 ∷ 101 ∷ 116 ∷ 10 ∷ 10 ∷ []

-- `not understood`
abbrev pub not_understood_words : List ℕ
not_understood_words = 32 ∷ 110 ∷ 111 ∷ 116 ∷ 32 ∷ 117 ∷ 110 ∷ 100 ∷ 101 ∷ 114 ∷ 115 ∷ 116 ∷ 111 ∷ 111 ∷ 100 ∷ 10 ∷ 10 ∷ []

-- `too long`
abbrev pub too_long_words : List ℕ
too_long_words = 32 ∷ 116 ∷ 111 ∷ 111 ∷ 32 ∷ 108 ∷ 111 ∷ 110 ∷ 103 ∷ 10 ∷ 10 ∷ []

-- "`refused 28 table damaged` for any refusal": 20 not listed, 21 no value free, 22 not open, 23 still waiting, 24 no such invoke, 25 wrong parameter, 26 message too long, 27 buffer too short, 28 table damaged, 30 bad record, 31 output too short
unfoldable pub refused_line : ℕ → List ℕ
refused_line code =
    cond (eqb code 20) (114 ∷ 101 ∷ 102 ∷ 117 ∷ 115 ∷ 101 ∷ 100 ∷ 32 ∷ 50 ∷ 48 ∷ 32 ∷ 110 ∷ 111 ∷ 116 ∷ 32 ∷ 108 ∷ 105 ∷ 115 ∷ 116 ∷ 101 ∷ 100 ∷ 10 ∷ [])
    (cond (eqb code 21) (114 ∷ 101 ∷ 102 ∷ 117 ∷ 115 ∷ 101 ∷ 100 ∷ 32 ∷ 50 ∷ 49 ∷ 32 ∷ 110 ∷ 111 ∷ 32 ∷ 118 ∷ 97 ∷ 108 ∷ 117 ∷ 101 ∷ 32 ∷ 102 ∷ 114 ∷ 101 ∷ 101 ∷ 10 ∷ [])
    (cond (eqb code 22) (114 ∷ 101 ∷ 102 ∷ 117 ∷ 115 ∷ 101 ∷ 100 ∷ 32 ∷ 50 ∷ 50 ∷ 32 ∷ 110 ∷ 111 ∷ 116 ∷ 32 ∷ 111 ∷ 112 ∷ 101 ∷ 110 ∷ 10 ∷ [])
    (cond (eqb code 23) (114 ∷ 101 ∷ 102 ∷ 117 ∷ 115 ∷ 101 ∷ 100 ∷ 32 ∷ 50 ∷ 51 ∷ 32 ∷ 115 ∷ 116 ∷ 105 ∷ 108 ∷ 108 ∷ 32 ∷ 119 ∷ 97 ∷ 105 ∷ 116 ∷ 105 ∷ 110 ∷ 103 ∷ 10 ∷ [])
    (cond (eqb code 24) (114 ∷ 101 ∷ 102 ∷ 117 ∷ 115 ∷ 101 ∷ 100 ∷ 32 ∷ 50 ∷ 52 ∷ 32 ∷ 110 ∷ 111 ∷ 32 ∷ 115 ∷ 117 ∷ 99 ∷ 104 ∷ 32 ∷ 105 ∷ 110 ∷ 118 ∷ 111 ∷ 107 ∷ 101 ∷ 10 ∷ [])
    (cond (eqb code 25) (114 ∷ 101 ∷ 102 ∷ 117 ∷ 115 ∷ 101 ∷ 100 ∷ 32 ∷ 50 ∷ 53 ∷ 32 ∷ 119 ∷ 114 ∷ 111 ∷ 110 ∷ 103 ∷ 32 ∷ 112 ∷ 97 ∷ 114 ∷ 97 ∷ 109 ∷ 101 ∷ 116 ∷ 101 ∷ 114 ∷ 10 ∷ [])
    (cond (eqb code 26) (114 ∷ 101 ∷ 102 ∷ 117 ∷ 115 ∷ 101 ∷ 100 ∷ 32 ∷ 50 ∷ 54 ∷ 32 ∷ 109 ∷ 101 ∷ 115 ∷ 115 ∷ 97 ∷ 103 ∷ 101 ∷ 32 ∷ 116 ∷ 111 ∷ 111 ∷ 32 ∷ 108 ∷ 111 ∷ 110 ∷ 103 ∷ 10 ∷ [])
    (cond (eqb code 27) (114 ∷ 101 ∷ 102 ∷ 117 ∷ 115 ∷ 101 ∷ 100 ∷ 32 ∷ 50 ∷ 55 ∷ 32 ∷ 98 ∷ 117 ∷ 102 ∷ 102 ∷ 101 ∷ 114 ∷ 32 ∷ 116 ∷ 111 ∷ 111 ∷ 32 ∷ 115 ∷ 104 ∷ 111 ∷ 114 ∷ 116 ∷ 10 ∷ [])
    (cond (eqb code 28) (114 ∷ 101 ∷ 102 ∷ 117 ∷ 115 ∷ 101 ∷ 100 ∷ 32 ∷ 50 ∷ 56 ∷ 32 ∷ 116 ∷ 97 ∷ 98 ∷ 108 ∷ 101 ∷ 32 ∷ 100 ∷ 97 ∷ 109 ∷ 97 ∷ 103 ∷ 101 ∷ 100 ∷ 10 ∷ [])
    (cond (eqb code 30) (114 ∷ 101 ∷ 102 ∷ 117 ∷ 115 ∷ 101 ∷ 100 ∷ 32 ∷ 51 ∷ 48 ∷ 32 ∷ 98 ∷ 97 ∷ 100 ∷ 32 ∷ 114 ∷ 101 ∷ 99 ∷ 111 ∷ 114 ∷ 100 ∷ 10 ∷ [])
    (cond (eqb code 31) (114 ∷ 101 ∷ 102 ∷ 117 ∷ 115 ∷ 101 ∷ 100 ∷ 32 ∷ 51 ∷ 49 ∷ 32 ∷ 111 ∷ 117 ∷ 116 ∷ 112 ∷ 117 ∷ 116 ∷ 32 ∷ 116 ∷ 111 ∷ 111 ∷ 32 ∷ 115 ∷ 104 ∷ 111 ∷ 114 ∷ 116 ∷ 10 ∷ [])
    []))))))))))

-- "`verdict 0 taken` .. (each verdict's number with a word or two)": 0 taken, 1 ignored, 2 cause sent, 3 reject sent, 4 reject received, 5 network released, 6 too long, 7 other protocol
unfoldable pub verdict_line : ℕ → List ℕ
verdict_line code =
    cond (eqb code 0) (118 ∷ 101 ∷ 114 ∷ 100 ∷ 105 ∷ 99 ∷ 116 ∷ 32 ∷ 48 ∷ 32 ∷ 116 ∷ 97 ∷ 107 ∷ 101 ∷ 110 ∷ 10 ∷ [])
    (cond (eqb code 1) (118 ∷ 101 ∷ 114 ∷ 100 ∷ 105 ∷ 99 ∷ 116 ∷ 32 ∷ 49 ∷ 32 ∷ 105 ∷ 103 ∷ 110 ∷ 111 ∷ 114 ∷ 101 ∷ 100 ∷ 10 ∷ [])
    (cond (eqb code 2) (118 ∷ 101 ∷ 114 ∷ 100 ∷ 105 ∷ 99 ∷ 116 ∷ 32 ∷ 50 ∷ 32 ∷ 99 ∷ 97 ∷ 117 ∷ 115 ∷ 101 ∷ 32 ∷ 115 ∷ 101 ∷ 110 ∷ 116 ∷ 10 ∷ [])
    (cond (eqb code 3) (118 ∷ 101 ∷ 114 ∷ 100 ∷ 105 ∷ 99 ∷ 116 ∷ 32 ∷ 51 ∷ 32 ∷ 114 ∷ 101 ∷ 106 ∷ 101 ∷ 99 ∷ 116 ∷ 32 ∷ 115 ∷ 101 ∷ 110 ∷ 116 ∷ 10 ∷ [])
    (cond (eqb code 4) (118 ∷ 101 ∷ 114 ∷ 100 ∷ 105 ∷ 99 ∷ 116 ∷ 32 ∷ 52 ∷ 32 ∷ 114 ∷ 101 ∷ 106 ∷ 101 ∷ 99 ∷ 116 ∷ 32 ∷ 114 ∷ 101 ∷ 99 ∷ 101 ∷ 105 ∷ 118 ∷ 101 ∷ 100 ∷ 10 ∷ [])
    (cond (eqb code 5) (118 ∷ 101 ∷ 114 ∷ 100 ∷ 105 ∷ 99 ∷ 116 ∷ 32 ∷ 53 ∷ 32 ∷ 110 ∷ 101 ∷ 116 ∷ 119 ∷ 111 ∷ 114 ∷ 107 ∷ 32 ∷ 114 ∷ 101 ∷ 108 ∷ 101 ∷ 97 ∷ 115 ∷ 101 ∷ 100 ∷ 10 ∷ [])
    (cond (eqb code 6) (118 ∷ 101 ∷ 114 ∷ 100 ∷ 105 ∷ 99 ∷ 116 ∷ 32 ∷ 54 ∷ 32 ∷ 116 ∷ 111 ∷ 111 ∷ 32 ∷ 108 ∷ 111 ∷ 110 ∷ 103 ∷ 10 ∷ [])
    (cond (eqb code 7) (118 ∷ 101 ∷ 114 ∷ 100 ∷ 105 ∷ 99 ∷ 116 ∷ 32 ∷ 55 ∷ 32 ∷ 111 ∷ 116 ∷ 104 ∷ 101 ∷ 114 ∷ 32 ∷ 112 ∷ 114 ∷ 111 ∷ 116 ∷ 111 ∷ 99 ∷ 111 ∷ 108 ∷ 10 ∷ [])
    (refused_line code))))))))

-- "`done 0` for a call that succeeded"
unfoldable pub done_or_refused : ℕ → List ℕ
done_or_refused code = cond (eqb code 0) done_line (refused_line code)
