-- The lines of the bench: a word, its numbers, and where its octets begin.
use Rattle.std.specs.Prelude.{ℕ, List, [], ◌∷◌, Bool, true, cond, ℤ, eqb, get_or, Option, None, Some, Result as OrElse, Ok, Err}
use Rattle.octets.specs.Reader.{is_empty}
use Rattle.words.specs.Words.{word_at, spelled, same}
use Rattle.words.specs.Numbers.{number, octet_at, id_at}
use Rattle.words.specs.declared.At.{At}
use Rattle.words.specs.declared.Verb.{Verb}
use Rattle.words.specs.declared.Verb.TheVariants as verbs
use Rattle.words.specs.declared.NotUnderstood.{NotUnderstood}
use Rattle.words.specs.declared.Command.{Command}
use Rattle.words.specs.declared.Command.TheVariants.{Receive, Begin, Invoke, Result, Error, Release, Table, Buffer, Batch}

-- `receive`, `begin`, `invoke`, `result`, `error`, `release`, `table`, `buffer`, `batch`
unfoldable pub verb_of : List ℕ → Option Verb
verb_of w =
    cond (same w (114 ∷ 101 ∷ 99 ∷ 101 ∷ 105 ∷ 118 ∷ 101 ∷ [])) (Some verbs.Receive)
    (cond (same w (98 ∷ 101 ∷ 103 ∷ 105 ∷ 110 ∷ [])) (Some verbs.Begin)
    (cond (same w (105 ∷ 110 ∷ 118 ∷ 111 ∷ 107 ∷ 101 ∷ [])) (Some verbs.Invoke)
    (cond (same w (114 ∷ 101 ∷ 115 ∷ 117 ∷ 108 ∷ 116 ∷ [])) (Some verbs.Result)
    (cond (same w (101 ∷ 114 ∷ 114 ∷ 111 ∷ 114 ∷ [])) (Some verbs.Error)
    (cond (same w (114 ∷ 101 ∷ 108 ∷ 101 ∷ 97 ∷ 115 ∷ 101 ∷ [])) (Some verbs.Release)
    (cond (same w (116 ∷ 97 ∷ 98 ∷ 108 ∷ 101 ∷ [])) (Some verbs.Table)
    (cond (same w (98 ∷ 117 ∷ 102 ∷ 102 ∷ 101 ∷ 114 ∷ [])) (Some verbs.Buffer)
    (cond (same w (98 ∷ 97 ∷ 116 ∷ 99 ∷ 104 ∷ [])) (Some verbs.Batch)
    None))))))))

abbrev pub then_octet : Option (At ℕ) → (ℕ → ℕ → Option Command) → Option Command
then_octet None k = None
then_octet (Some a) k = k a.value a.next

abbrev pub then_id : Option (At ℤ) → (ℤ → ℕ → Option Command) → Option Command
then_id None k = None
then_id (Some a) k = k a.value a.next

abbrev pub then_number : Option ℕ → (ℕ → Option Command) → Option Command
then_number None k = None
then_number (Some n) k = k n

-- nothing but blanks from a place on
abbrev pub ended : List ℕ → ℕ → Bool
ended s at = is_empty (spelled s (word_at s at))

-- `begin OPERATION ID [HEX]`
unfoldable pub begin_at : List ℕ → ℕ → Option Command
begin_at s at = then_octet (octet_at s at) (λ operation i. then_id (id_at s i) (λ id next. Some (Begin operation id next)))

-- `invoke FLAG VALUE OPERATION ID [HEX]`
unfoldable pub invoke_at : List ℕ → ℕ → Option Command
invoke_at s at =
    then_octet (octet_at s at) (λ flag i.
    then_octet (octet_at s i) (λ value j.
    then_octet (octet_at s j) (λ operation k.
    then_id (id_at s k) (λ id next. Some (Invoke flag value operation id next)))))

-- `result FLAG VALUE ID [HEX]`
unfoldable pub result_at : List ℕ → ℕ → Option Command
result_at s at =
    then_octet (octet_at s at) (λ flag i.
    then_octet (octet_at s i) (λ value j.
    then_id (id_at s j) (λ id next. Some (Result flag value id next))))

-- `error FLAG VALUE ID CODE [HEX]`
unfoldable pub error_at : List ℕ → ℕ → Option Command
error_at s at =
    then_octet (octet_at s at) (λ flag i.
    then_octet (octet_at s i) (λ value j.
    then_id (id_at s j) (λ id k.
    then_octet (octet_at s k) (λ code next. Some (Error flag value id code next)))))

-- `release FLAG VALUE`
unfoldable pub release_at : List ℕ → ℕ → Option Command
release_at s at =
    then_octet (octet_at s at) (λ flag i.
    then_octet (octet_at s i) (λ value next.
    cond (ended s next) (Some (Release flag value)) None))

-- `buffer N`, "0 to 300"
unfoldable pub buffer_at : List ℕ → ℕ → Option Command
buffer_at s at = cond (ended s (word_at s at).end) (then_number (number 300 (spelled s (word_at s at))) (λ n. Some (Buffer n))) None

unfoldable pub by_verb : List ℕ → ℕ → Verb → Option Command
by_verb s at verbs.Receive = Some (Receive at)
by_verb s at verbs.Begin = begin_at s at
by_verb s at verbs.Invoke = invoke_at s at
by_verb s at verbs.Result = result_at s at
by_verb s at verbs.Error = error_at s at
by_verb s at verbs.Release = release_at s at
by_verb s at verbs.Table = Some (Table at)
by_verb s at verbs.Buffer = buffer_at s at
by_verb s at verbs.Batch = Some (Batch at)

-- "Lines that are empty or start with # are passed over without an answer."
abbrev pub passed_over : List ℕ → Bool
passed_over w = cond (is_empty w) true (eqb (get_or w 0 0) 35)

-- by a verb that is none, or with numbers that are none, it's not understood
abbrev pub then_verb : Option Verb → (Verb → Option Command) → Option Command
then_verb None k = None
then_verb (Some v) k = k v

abbrev pub understood : Option Command → OrElse (Option Command) NotUnderstood
understood None = Err (record {})
understood (Some c) = Ok (Some c)

unfoldable pub command : List ℕ → OrElse (Option Command) NotUnderstood
command s =
    cond (passed_over (spelled s (word_at s 0))) (Ok None)
    (understood (then_verb (verb_of (spelled s (word_at s 0))) (by_verb s (word_at s 0).end)))
