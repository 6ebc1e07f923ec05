-- 01, "Elements and components", first paragraph: one element, a row of elements, and how they are written.
use Rattle.std.specs.Prelude.{ℕ, zero, suc, ◌+◌, ◌*◌, ◌/◌, ◌%◌, List, [], ◌∷◌, ◌++◌, Bool, false, cond, not, ◌||◌, length, ltb, eqb}
use Rattle.octets.specs.Reader.{Answer, fault, sound, Taken, Reader, seq, done, need, octet, front, is_empty}

-- The two ways in which an element is not there, numbered as step 5 of 01 numbers them.
-- "missing, ..., general 1"
abbrev pub missing : ℕ
missing = 1

-- "an element that can't be read, general 2"
abbrev pub unreadable : ℕ
unreadable = 2

-- "Refused tags: 00, and low five bits all ones."
abbrev pub refused_tag : ℕ → Bool
refused_tag tag = eqb tag 0x00 || eqb (tag % 32) 31

-- two octets as one number, high first
abbrev pub two_octets : Reader ℕ
two_octets = seq (octet unreadable) (λ high. seq (octet unreadable) (λ low. done (high * 256 + low)))

-- "Length forms read: 00 to 7F; 81 and one octet; 82 and two octets, shortest or not. 80 and 83 to FF are refused."
unfoldable pub length_of : Reader ℕ
length_of =
    seq (octet unreadable) (λ first.
    cond (ltb first 0x80) (done first)
    (cond (eqb first 0x81) (octet unreadable)
    (need (eqb first 0x82) unreadable two_octets)))

-- "An element is one tag octet, a length, contents."
pub record Element : Type 0 where
  pub tag : ℕ
  pub contents : List ℕ

-- "Contents that pass the enclosing end are refused": what is read is a part, and `front` can't pass its end.
unfoldable pub element : Reader Element
element =
    seq (octet missing) (λ tag.
    need (not (refused_tag tag)) unreadable
    (seq length_of (λ n.
    seq (front unreadable n) (λ contents.
    done (record { tag = tag; contents = contents })))))

-- "zero or more elements": a row, at most `most` of them. A row ends where its part ends.
abbrev pub goes_on : Answer (Taken Element) → (List ℕ → Bool) → Bool
goes_on (fault n) next = false
goes_on (sound g) next = next g.rest

unfoldable pub row_of : ℕ → List ℕ → Bool
row_of zero s = is_empty s
row_of (suc most) s = is_empty s || goes_on (element s) (λ rest. row_of most rest)

-- an element has at least an octet, so there are no more of them than octets
unfoldable pub row : List ℕ → Bool
row s = row_of (length s) s

-- "We write the shortest form."
unfoldable pub shortest : ℕ → List ℕ
shortest n = cond (ltb n 128) (n ∷ []) (cond (ltb n 256) (0x81 ∷ n ∷ []) (0x82 ∷ n / 256 ∷ n % 256 ∷ []))

-- the header of an element: its tag and its length
abbrev pub header : ℕ → ℕ → List ℕ
header tag n = tag ∷ shortest n

-- an element as it is written
abbrev pub written : ℕ → List ℕ → List ℕ
written tag contents = header tag (length contents) ++ contents
