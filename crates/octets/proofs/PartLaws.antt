-- Parts: how long they are, at the ends of a list, and a part of a part.
use Prim.Native.Nat.{ℕ, zero, suc, ◌+◌, ◌-◌, ◌≤◌, ◌<◌, min}
use mathlib.Core.Path.{◌≡◌, refl, sym, ◌∙◌}
use mathlib.Core.List.{List, [], ◌∷◌}
use native.Mathlib.Omega.{arith}
use native.Mathlib.Nat.{sub-zero}
use lib.ListN.{length, take, drop, get_or, length-take, length-drop, drop_of_length-le}
use mathlib.Core.Bool.{Bool, true, false}
use Rattle.std.specs.Prelude.{◌==◌}
use lib.Dec.{leb}
use borrow.Author.Tests.{leb-true, leb-false, eqb-true}
use lib.Seq.{take_all, take-nil, drop-nil, get_or-take, get_or-drop}
use Rattle.octets.specs.Part.{between}

pub length-between : (from to : ℕ) (s : List ℕ) → to ≤ length s → length (between from to s) ≡ to - from
length-between from to s h = simp (length-take, length-drop) (omega arith)

-- an end that does not lie behind the start
pub none_between : (from to : ℕ) (s : List ℕ) → to ≤ from → between from to s ≡ []
none_between from to s h = let e : to - from ≡ 0 = omega arith in rw e

-- a start that lies past the end
pub past_end : (from to : ℕ) (s : List ℕ) → length s ≤ from → between from to s ≡ []
past_end from to s h = rw (drop_of_length-le s h, take-nil)

-- an end that lies past the end
pub to_end : (from to : ℕ) (s : List ℕ) → length s ≤ to → between from to s ≡ drop from s
to_end from to s h = take_all (to - from) (drop from s) (simp length-drop (omega arith))

-- `&s[i..]`
pub rest_part_lem : (i : ℕ) (s : List ℕ) → between i (length s) s ≡ drop i s
rest_part_lem i s = to_end i (length s) s (omega arith)

pub get_d_between : (from to : ℕ) (s : List ℕ) (k : ℕ) → k < to - from → get_or (between from to s) k 0 ≡ get_or s (from + k) 0
get_d_between from to s k h = get_or-take (to - from) (drop from s) k 0 h ∙ get_or-drop from s k 0

-- a part is what is left behind its start, up to its end
pub from-taken : (from to : ℕ) (s : List ℕ) → between from to s ≡ drop from (take to s)
from-taken zero to s = rw sub-zero
from-taken (suc from) zero s = let h : zero - suc from ≡ zero = omega arith in rw (h, drop-nil)
from-taken (suc from) (suc to) [] = rw take-nil
from-taken (suc from) (suc to) (x ∷ s) = let h : suc to - suc from ≡ to - from = omega arith in rw h (from-taken from to s)

-- places past the end stand for the end
pub clamped : (from to : ℕ) (s : List ℕ) → between (min from (min to (length s))) (min to (length s)) s ≡ between from to s
clamped from to s = go (leb from (min to (length s))) refl (leb to (length s)) refl
  where
    go : (b : Bool) → leb from (min to (length s)) ≡ b → (c : Bool) → leb to (length s) ≡ c → between (min from (min to (length s))) (min to (length s)) s ≡ between from to s
    go true p true q =
        let l = leb-true from (min to (length s)) p in
        let h = leb-true to (length s) q in
        let e : min to (length s) ≡ to = omega arith in
        let f : min from to ≡ from = omega arith in
        rw (e, f)
    go true p false q =
        let l = leb-true from (min to (length s)) p in
        let h = leb-false to (length s) q in
        let e : min to (length s) ≡ length s = omega arith in
        let f : min from (length s) ≡ from = omega arith in
        rw (e, f, to_end from to s (omega arith), rest_part_lem from s)
    go false p c q =
        let l = leb-false from (min to (length s)) p in
        let e : min from (min to (length s)) ≡ min to (length s) = omega arith in
        rw (e, none_between (min to (length s)) (min to (length s)) s (omega arith)) (sym (outside c q))
      where
        outside : (d : Bool) → leb to (length s) ≡ d → between from to s ≡ []
        outside true r = let l = leb-false from (min to (length s)) p in let h = leb-true to (length s) r in none_between from to s (omega arith)
        outside false r = let l = leb-false from (min to (length s)) p in let h = leb-false to (length s) r in past_end from to s (omega arith)

-- `rest.is_empty()`
pub left_over : (s : List ℕ) → false ≡ (length s == 0) → 0 < length s
left_over [] e = cc
left_over (a ∷ s) e = omega arith

pub none_left : (s : List ℕ) → true ≡ (length s == 0) → s ≡ []
none_left [] e = refl
none_left (a ∷ s) e = absurd (omega (arith, eqb-true (length (a ∷ s)) 0 (sym e)))
