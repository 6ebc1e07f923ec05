-- 01, step 5: what a Facility value says, read apart from the table.
use Rattle.std.specs.Prelude.{ℕ, ◌-◌, List, [], cond, ◌&&◌, length, get_or, ℤ, leb, eqb}
use Rattle.std.proofs.Math.Option.{Option, none, some}
use Rattle.octets.specs.Reader.{Answer, fault, sound, Taken, and_then, is_empty}
use Rattle.elements.specs.Element.{Element, element, unreadable}
use Rattle.codes.specs.Ids.{id_of}
use Rattle.places.specs.Places.{single}
use Rattle.components.specs.Component.{Component, invoke_tag, result_tag, reject_tag, invoke_of, result_of, error_of, reject_of, parameter_of}

pub data Finding : Type 0 where
  -- "An empty Facility value is taken with nothing shown."
  empty : Finding
  shows : Component → Finding
  -- a general problem, and "the invoke id if it was read"
  general : (problem : ℕ) (id : Option ℤ) → Finding
  -- "Octets left after it: cause 29, no component"
  left_over : Finding
  -- "Under outer tag A4 every fault but the cause 29 gives verdict 4."
  faulty_reject : Finding

-- what follows the id, which stands first under A1, A2 and A3
unfoldable pub after_tag : ℕ → ℤ → List ℕ → Answer Component
after_tag tag id s = cond (eqb tag invoke_tag) (invoke_of id s) (cond (eqb tag result_tag) (result_of id s) (error_of id s))

unfoldable pub component : ℕ → List ℕ → Answer Component
component tag s =
    cond (eqb tag reject_tag) (reject_of s)
    (and_then (single 0x02 s) (λ i. after_tag tag (id_of i.value) i.rest))

-- the id that stood in its place, whatever came behind it
abbrev pub id_read : Answer (Taken ℕ) → Option ℤ
id_read (fault n) = none
id_read (sound i) = some (id_of i.value)

-- a fault inside, under this outer tag
abbrev pub faulty : ℕ → ℕ → Option ℤ → Finding
faulty tag problem id = cond (eqb tag reject_tag) faulty_reject (general problem id)

abbrev pub found : ℕ → List ℕ → Answer Component → Finding
found tag s (fault n) = faulty tag n (id_read (single 0x02 s))
found tag s (sound c) = shows c

unfoldable pub inside : ℕ → List ℕ → Finding
inside tag s = found tag s (component tag s)

-- "Outer length: general 2. Octets left after it: cause 29"
abbrev pub outer : ℕ → Answer (Taken Element) → Finding
outer tag (fault n) = faulty tag unreadable none
outer tag (sound e) = cond (is_empty e.rest) (inside tag e.value.contents) left_over

-- "outer tag none of A1 to A4: general 0"
unfoldable pub facility : List ℕ → Finding
facility s =
    cond (is_empty s) empty
    (cond (leb invoke_tag (get_or s 0 0) && leb (get_or s 0 0) reject_tag) (outer (get_or s 0 0) (element s))
    (general 0 none))

-- "The parameter is handed back as a part of the caller's own message": of a component that is shown
abbrev pub parameter_in : Finding → List ℕ
parameter_in empty = []
parameter_in (shows c) = parameter_of c
parameter_in (general problem id) = []
parameter_in left_over = []
parameter_in faulty_reject = []

-- "its promise says which part it is": the parameter stands last in its Facility value
abbrev pub parameter_start : List ℕ → ℕ
parameter_start s = length s - length (parameter_in (facility s))
