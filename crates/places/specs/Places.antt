-- The places of a component, each read from the front of what is left (01, "Elements and components", step 5).
use Rattle.std.specs.Prelude.{ℕ, List, [], cond, length, get_or, ℤ, eqb}
use Rattle.std.proofs.Math.Option.{Option, none, some}
use Rattle.octets.specs.Reader.{Answer, sound, Reader, and_then, seq, done, need, is_empty, alone}
use Rattle.elements.specs.Element.{Element, element}
use Rattle.codes.specs.Ids.{id_of}

-- "missing, other tag, wrong contents length, or octets after the last place, readable or not, general 1"
abbrev pub misplaced : ℕ
misplaced = 1

-- "Each id, operation and error code has one octet of contents": the octet of an element that should have this tag
abbrev pub octet_in : ℕ → Element → Reader ℕ
octet_in tag e = need (eqb e.tag tag) misplaced (need (eqb (length e.contents) 1) misplaced (done (get_or e.contents 0 0)))

-- a place of one octet
unfoldable pub single : ℕ → Reader ℕ
single tag = seq element (λ e. octet_in tag e)

-- "optional one parameter", and nothing behind it: what is left is the parameter
unfoldable pub parameter : List ℕ → Answer (List ℕ)
parameter s = cond (is_empty s) (sound []) (and_then (alone misplaced (element s)) (λ e. sound s))

pub record InvokePlaces : Type 0 where
  pub linked : Option ℤ
  pub operation : ℕ

-- "optional 80 linked id; 02 operation"
unfoldable pub invoke_places : Reader InvokePlaces
invoke_places =
    seq element (λ e.
    cond (eqb e.tag 0x80)
    (seq (octet_in 0x80 e) (λ l. seq (single 0x02) (λ o. done (record { linked = some (id_of l); operation = o }))))
    (seq (octet_in 0x02 e) (λ o. done (record { linked = none; operation = o }))))

pub record Coded : Type 0 where
  pub code : ℕ
  pub parameter : List ℕ

-- "02 operation and optional one parameter", "02 error code; optional one parameter"
unfoldable pub coded : List ℕ → Answer Coded
coded s = and_then (single 0x02 s) (λ c. and_then (parameter c.rest) (λ p. sound (record { code = c.value; parameter = p })))

-- "02 invoke id, or 05 with length 0"
unfoldable pub rejected : Reader (Option ℤ)
rejected =
    seq element (λ e.
    cond (eqb e.tag 0x05) (need (is_empty e.contents) misplaced (done none))
    (seq (octet_in 0x02 e) (λ i. done (some (id_of i)))))
