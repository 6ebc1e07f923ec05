-- 01, "Message layout": the information elements behind the mandatory part, and those of RELEASE COMPLETE.
use Rattle.std.specs.Prelude.{ℕ, zero, suc, List, [], Bool, true, cond, ◌&&◌, ◌||◌, length, get_or, leb, eqb}
use Rattle.std.proofs.Math.Option.{Option, none, some}
use Rattle.octets.specs.Reader.{Answer, fault, sound, Taken, Reader, and_then, seq, done, check, octet, front, is_empty}
use Rattle.messages.specs.Layout.{mandatory_missing, mandatory}

pub record Information : Type 0 where
  pub identifier : ℕ
  pub contents : List ℕ

-- an element that is not there, and one that is cut
abbrev pub absent : ℕ
absent = 1

abbrev pub cut : ℕ
cut = 2

-- "Identifier with top bit 1: one octet. Otherwise identifier, length (one plain octet, 0 to 255, as the Facility's), value."
unfoldable pub information : Reader Information
information =
    seq (octet absent) (λ i.
    cond (leb 0x80 i) (done (record { identifier = i; contents = [] }))
    (seq (octet cut) (λ n.
    seq (front cut n) (λ v.
    done (record { identifier = i; contents = v })))))

-- what follows a whole one; "a cut one ends the scan"
abbrev pub onward : Answer (Taken Information) → (List ℕ → Bool) → Bool
onward (fault n) next = true
onward (sound g) next = next g.rest

-- "an identifier from 00 to 0F is comprehension required and gives cause 96, also when cut short; other identifiers are
-- passed over": whether the scan meets none, among at most `most` elements
unfoldable pub clear_of : ℕ → List ℕ → Bool
clear_of zero s = true
clear_of (suc most) s = is_empty s || (leb 0x10 (get_or s 0 0) && onward (information s) (λ rest. clear_of most rest))

-- "scanned to the end of the message": each takes at least an octet
unfoldable pub clear : List ℕ → Bool
clear s = clear_of (length s) s

-- step 4: the Facility value of a REGISTER or FACILITY, from the octets behind the type
unfoldable pub required : ℕ → Reader (List ℕ)
required type s = and_then (mandatory type s) (λ g. check (clear g.rest) mandatory_missing (sound g))

-- "In RELEASE COMPLETE the first whole 08 and first whole 1C are taken, the rest is passed over, and a cut one ends the scan."
abbrev pub wanted : ℕ → Answer (Taken Information) → (List ℕ → Option (Taken (List ℕ))) → Option (Taken (List ℕ))
wanted identifier (fault n) next = none
wanted identifier (sound g) next = cond (eqb g.value.identifier identifier) (some (record { value = g.value.contents; rest = g.rest })) (next g.rest)

unfoldable pub first_of : ℕ → ℕ → List ℕ → Option (Taken (List ℕ))
first_of zero identifier s = none
first_of (suc most) identifier s = wanted identifier (information s) (λ rest. first_of most identifier rest)

-- its contents, and what stands behind it
unfoldable pub first_taken : ℕ → List ℕ → Option (Taken (List ℕ))
first_taken identifier s = first_of (length s) identifier s

abbrev pub contents_of : Option (Taken (List ℕ)) → Option (List ℕ)
contents_of none = none
contents_of (some t) = some t.value

-- its contents alone
unfoldable pub first_whole : ℕ → List ℕ → Option (List ℕ)
first_whole identifier s = contents_of (first_taken identifier s)
