-- The walk through the characters of a string: what holds before each of them.
use Prim.Native.Nat.{ℕ, suc, ◌+◌, ◌-◌, ◌*◌, ◌≤◌, ◌<◌}
use mathlib.Core.Path.{◌≡◌, refl, sym, ap, ◌∙◌}
use mathlib.Core.Bool.{Bool, true, false, cond, not, ◌&&◌, false≢true}
use mathlib.Core.List.{List, [], ◌∷◌, ◌++◌}
use native.Mathlib.Nat.{add-zero, zero-add}
use native.Mathlib.Numerals.{add-one}
use native.Mathlib.Omega.{arith}
use lib.ListN.{length, drop, get_or, length-append, drop_of_length-le}
use lib.Seq.{drop-cons}
use lib.Dec.{eqb, ltb}
use borrow.Author.Tests.{eqb-true, ltb-true, ltb-false}
use Rattle.octets.proofs.TestLaws.{both}
use Rattle.cells.specs.Septets.{septet_at, septets_in, is_padded, septets_sent, unpacked}
use Rattle.cells.specs.Alphabet.{escape, space, character_of, extension_of, made_by}
use Rattle.cells.specs.Characters.{characters, string_text}
use Rattle.cells.specs.Lines.{line, lines_of, line_octets}
use Rattle.cells.specs.Rows.{grown, is_over, left_of, ended_by, no_row, flow, put_if, walked, text_with, lines_with, GiveRoom}
use Rattle.cells.specs.declared.rows.Line.{Line}
use Rattle.cells.specs.declared.rows.Row.{Row}
use Rattle.cells.specs.declared.Walk.{Walk}
use Rattle.cells.proofs.SeptetLaws.{length-septets, get_or-septets}
use Rattle.cells.proofs.LineLaws.{extent-least, flow-lines, flow-count, octets-twice}
use Rattle.cells.proofs.RowLaws.{last_line_lem}
use Rattle.cells.proofs.PutLaws.{put-nil, put-put, length-put}

-- a septet that ends the text, and one that is no escape
alone : (c : ℕ) (s : List ℕ) → s ≡ [] → characters (c ∷ s) ≡ character_of c ∷ characters s
unfolding characters
alone c s e = rw e refl

plain : (c : ℕ) (s : List ℕ) → eqb c escape ≡ false → characters (c ∷ s) ≡ character_of c ∷ characters s
unfolding characters
plain c [] e = refl
plain c (d ∷ s) e = rw e refl

-- a septet, and those behind it
module _ (s : List ℕ) (at : ℕ) (h : at < length s) where
  front : drop at s ≡ get_or s at 0 ∷ drop (at + 1) s
  front = rw (add-one at) (drop-cons s at 0 h)

  -- an escape that is not the last waits for the next septet
  waits : get_or s at 0 ≡ escape → characters (drop at s) ≡ characters (escape ∷ drop (at + 1) s)
  waits e = rw (front, e) refl

  -- behind an escape
  paired : characters (escape ∷ drop at s) ≡ extension_of (get_or s at 0) ∷ characters (drop (at + 1) s)
  unfolding characters
  paired = rw front refl

  -- by itself
  single : eqb (get_or s at 0) escape && ltb (at + 1) (length s) ≡ false → characters (drop at s) ≡ character_of (get_or s at 0) ∷ characters (drop (at + 1) s)
  single e = rw front (by_tests (eqb (get_or s at 0) escape) (ltb (at + 1) (length s)) refl refl e)
    where
      by_tests : (b m : Bool) → eqb (get_or s at 0) escape ≡ b → ltb (at + 1) (length s) ≡ m → b && m ≡ false
          → characters (get_or s at 0 ∷ drop (at + 1) s) ≡ character_of (get_or s at 0) ∷ characters (drop (at + 1) s)
      by_tests true true d f g = cc
      by_tests true false d f g = let l = ltb-false (at + 1) (length s) f in alone (get_or s at 0) (drop (at + 1) s) (drop_of_length-le s l)
      by_tests false false d f g = let l = ltb-false (at + 1) (length s) f in alone (get_or s at 0) (drop (at + 1) s) (drop_of_length-le s l)
      by_tests false true d f g = plain (get_or s at 0) (drop (at + 1) s) d

-- no more characters than septets
few-characters : (s : List ℕ) → length (characters s) ≤ length s
unfolding characters
few-characters [] = omega arith
few-characters (c ∷ []) = omega arith
few-characters (c ∷ d ∷ s) = either (eqb c escape) (few-characters s) (few-characters (d ∷ s))
  where
    either : (b : Bool) → length (characters s) ≤ length s → length (characters (d ∷ s)) ≤ length (d ∷ s)
        → length (cond b (extension_of d ∷ characters s) (character_of c ∷ characters (d ∷ s))) ≤ suc (suc (length s))
    either true l k = omega arith
    either false l k = omega arith

octets-append : (a b : List Line) → line_octets (a ++ b) ≡ line_octets a ++ line_octets b
unfolding line_octets
octets-append [] b = refl
octets-append (l ∷ a) b = ap (λ s. l.cells ∷ l.dropped ∷ s) (octets-append a b)

-- a row that goes on stays within forty, and what is kept of it within the row
pub kept-within : (row : Row) (c : ℕ) → row.kept ≤ row.width → (grown row c).kept ≤ (grown row c).width
kept-within row c h = go (eqb c space)
  where
    go : (b : Bool) → cond b (suc row.width) row.kept ≤ suc row.width
    go true = omega arith
    go false = omega arith

left-within : (row : Row) → row.width ≤ 41 → row.kept ≤ row.width → ((left_of row).width ≤ 40) × ((left_of row).kept ≤ (left_of row).width)
unfolding left_of
left-within row h k = go (is_over row) refl
  where
    go : (b : Bool) → is_over row ≡ b → ((left_of row).width ≤ 40) × ((left_of row).kept ≤ (left_of row).width)
    go true e = let x = extent-least row.kept in rw e (omega arith, omega arith)
    go false e = let l = ltb-false 40 row.width e in rw e (l, k)

-- the characters from a septet on; an escape may wait before it
abbrev pub from : List ℕ → Bool → ℕ → List ℕ
from string escaped at = characters (cond escaped (escape ∷ drop at (unpacked string)) (drop at (unpacked string)))

-- before a septet: what is written, and what is still to be written behind it, make the whole
pub record Walked (string text₀ lines₀ : List ℕ) (writes : Bool) (count : ℕ) (text lines : List ℕ) (row : Row) (at : ℕ) (escaped : Bool) (written ended : ℕ) : Type 0 where
  pub counted : count ≡ septets_sent string
  pub within : at ≤ count
  pub waiting : escaped ≡ true → at < count
  pub narrow : row.width ≤ 40
  pub spaced : row.kept ≤ row.width
  pub text_length : length text ≡ length text₀
  pub lines_length : length lines ≡ length lines₀
  pub text_whole : put_if writes text written (from string escaped at) ≡ put_if writes text₀ 0 (string_text string)
  pub text_count : written + length (from string escaped at) ≡ length (string_text string)
  pub lines_whole : put_if writes lines (2 * ended) (line_octets (flow row (from string escaped at))) ≡ put_if writes lines₀ 0 (line_octets (lines_of (string_text string)))
  pub lines_count : ended + length (flow row (from string escaped at)) ≡ length (lines_of (string_text string))

abbrev pub Room : List ℕ → List ℕ → List ℕ → Bool → Type 0
Room string text lines writes = writes ≡ true → (length (string_text string) ≤ length text) × (2 * length (lines_of (string_text string)) ≤ length lines)

-- at the start
pub begins : (string text lines : List ℕ) (writes : Bool) (count : ℕ) → count ≡ septets_sent string → Walked string text lines writes count text lines no_row 0 false 0 0
unfolding string_text
begins string text lines writes count e =
    record {
      counted = e;
      within = omega arith;
      waiting = λ f. absurd (false≢true f);
      narrow = omega arith;
      spaced = omega arith;
      text_length = refl;
      lines_length = refl;
      text_whole = refl;
      text_count = zero-add _;
      lines_whole = rw (flow-lines (string_text string)) refl;
      lines_count = rw (flow-lines (string_text string)) (zero-add _);
    }

-- there are no more characters than septets, and no more lines than characters and one
pub few-septets : (string : List ℕ) → septets_sent string ≤ septets_in (length string)
unfolding septets_sent
few-septets string = go (is_padded string)
  where
    go : (b : Bool) → cond b (septets_in (length string) - 1) (septets_in (length string)) ≤ septets_in (length string)
    go true = omega arith
    go false = omega arith

pub text-bound : (string : List ℕ) → length (string_text string) ≤ septets_in (length string)
unfolding string_text
text-bound string =
    let a = few-characters (unpacked string) in
    let b = length-septets string 0 (septets_sent string) in
    let c = few-septets string in
    omega arith

line-bound : (string : List ℕ) → length (lines_of (string_text string)) ≤ septets_in (length string) + 1
line-bound string =
    let a = text-bound string in
    let b = rw (flow-lines (string_text string)) at (flow-count no_row (string_text string)) in
    omega arith

flow-one : (row : Row) (s : List ℕ) → 1 ≤ length (flow row s)
unfolding flow
flow-one row [] = omega arith
flow-one row (c ∷ s) =
    let a = flow-one (left_of (grown row c)) s in
    let b = length-append (ended_by (grown row c)) (flow (left_of (grown row c)) s) in
    omega arith

module _ {string text₀ lines₀ : List ℕ} {writes : Bool} {count : ℕ} {text lines : List ℕ} {row : Row} {at : ℕ} {escaped : Bool} {written ended : ℕ}
    (w : Walked string text₀ lines₀ writes count text lines row at escaped written ended) where
  -- what is counted fits
  pub ended-bound : ended + 1 ≤ septets_in (length string) + 1
  ended-bound =
      let a = flow-one row (from string escaped at) in
      let b = line-bound string in
      let e = w.lines_count in
      omega arith

  -- no more characters than septets
  pub written-bound : written ≤ septets_in (length string)
  written-bound = let a = text-bound string in let e = w.text_count in omega arith

  -- one more septet
  module _ (more : at < count) where
    pub held-there : at < septets_in (length string)
    held-there = let b = few-septets string in let e = w.counted in omega arith

    inside : at < length (unpacked string)
    inside = let b = length-septets string 0 (septets_sent string) in let e = w.counted in omega arith

    abbrev septet : ℕ
    septet = septet_at string at

    there : get_or (unpacked string) at 0 ≡ septet
    there = get_or-septets string 0 (septets_sent string) at (let e = w.counted in omega arith) ∙ ap (septet_at string) (zero-add at)

    -- the code's test: an escape that is not behind another, and not the last
    abbrev waits_now : Bool → Bool
    waits_now b = not b && eqb septet escape && ltb (at + 1) count

    all_there : length (unpacked string) ≡ count
    all_there = length-septets string 0 (septets_sent string) ∙ sym w.counted

    waits-on : (b : Bool) → waits_now b ≡ true → (from string b at ≡ from string true (at + 1)) × (at + 1 < count)
    waits-on true e = absurd (false≢true e)
    waits-on false e =
        let t = both (eqb septet escape) (ltb (at + 1) count) e in
        (waits (unpacked string) at inside (there ∙ eqb-true septet escape t.0), ltb-true (at + 1) count t.1)

    gives : (b : Bool) → waits_now b ≡ false → from string b at ≡ made_by b septet ∷ from string false (at + 1)
    gives true e = paired (unpacked string) at inside ∙ rw there refl
    gives false e = single (unpacked string) at inside (rw (there, all_there) e) ∙ rw there refl

    waited : waits_now escaped ≡ true → Walked string text₀ lines₀ writes count text lines row (at + 1) true written ended
    waited e =
        let g = waits-on escaped e in
        record {
          counted = w.counted;
          within = omega arith;
          waiting = λ f. g.1;
          narrow = w.narrow;
          spaced = w.spaced;
          text_length = w.text_length;
          lines_length = w.lines_length;
          text_whole = rw g.0 at w.text_whole;
          text_count = rw g.0 at w.text_count;
          lines_whole = rw g.0 at w.lines_whole;
          lines_count = rw g.0 at w.lines_count;
        }

    -- a character, and the row with it
    module _ (given : waits_now escaped ≡ false) where
      abbrev code : ℕ
      code = made_by escaped septet

      abbrev over : Row
      over = grown row code

      text-left : written + suc (length (from string false (at + 1))) ≡ length (string_text string)
      text-left = rw (gives escaped given) at w.text_count

      lines_left : ended + length (ended_by over) + length (flow (left_of over) (from string false (at + 1))) ≡ length (lines_of (string_text string))
      unfolding flow
      lines_left =
          let a = length-append (ended_by over) (flow (left_of over) (from string false (at + 1))) in
          let e = rw (gives escaped given) at w.lines_count in
          omega arith

      over-within : (over.width ≤ 41) × (over.kept ≤ over.width)
      over-within = let n = w.narrow in (omega arith, kept-within row code w.spaced)

      module _ (room : Room string text₀ lines₀ writes) where
        text-room : writes ≡ true → written < length text
        text-room y = let r = room y in let e = text-left in let l = w.text_length in omega arith

        lines-room : writes ≡ true → 2 * ended + length (line_octets (ended_by over)) ≤ length lines
        lines-room y =
            let r = room y in
            let e = lines_left in
            let l = w.lines_length in
            let t = octets-twice (ended_by over) in
            omega arith

        -- a turn: the character and the line that it ends are written
        goes_on_lem : Walked string text₀ lines₀ writes count (put_if writes text written (code ∷ []))
            (put_if writes lines (2 * ended) (line_octets (ended_by over))) (left_of over) (at + 1) false (written + 1) (ended + length (ended_by over))
        unfolding flow
        goes_on_lem =
            let r = from string false (at + 1) in
            let f = flow (left_of over) r in
            let t = octets-twice (ended_by over) in
            let u = octets-twice f in
            let l = left-within over over-within.0 over-within.1 in
            let e : 2 * (ended + length (ended_by over)) ≡ 2 * ended + length (line_octets (ended_by over)) = omega arith in
            let p : writes ≡ true → written + 1 + length r ≤ length text =
            λ y. let m = room y in let a = text-left in let b = w.text_length in omega arith in
            let q : writes ≡ true → 2 * ended + length (line_octets (ended_by over)) + length (line_octets f) ≤ length lines =
            λ y. let m = room y in let a = lines_left in let b = w.lines_length in omega arith in
            let g = gives escaped given in
            record {
              counted = w.counted;
              within = omega arith;
              waiting = λ y. absurd (false≢true y);
              narrow = l.0;
              spaced = l.1;
              text_length = length-put writes text written (code ∷ []) (λ y. let m = text-room y in omega arith) ∙ w.text_length;
              lines_length = length-put writes lines (2 * ended) (line_octets (ended_by over)) lines-room ∙ w.lines_length;
              text_whole = put-put writes text written (code ∷ []) r p ∙ (rw g at w.text_whole);
              text_count = let a = text-left in omega arith;
              lines_whole = rw e (put-put writes lines (2 * ended) (line_octets (ended_by over)) (line_octets f) q ∙ rw (← octets-append (ended_by over) f) (rw g at w.lines_whole));
              lines_count = lines_left;
            }

  -- at the end nothing is left, and the row makes the last line
  module _ (done : count ≤ at) where
    calm : (b : Bool) → (b ≡ true → at < count) → from string b at ≡ []
    unfolding characters
    calm true f = let l = f refl in absurd (omega arith)
    calm false f =
        let b = length-septets string 0 (septets_sent string) in
        let e = w.counted in
        let l : length (unpacked string) ≤ at = omega arith in
        rw (drop_of_length-le (unpacked string) l) refl

    none_left : from string escaped at ≡ []
    none_left = calm escaped w.waiting

    pub all-written : text ≡ put_if writes text₀ 0 (string_text string)
    all-written = sym (put-nil writes text written) ∙ (rw none_left at w.text_whole)

    pub all-counted : written ≡ length (string_text string)
    all-counted = sym (add-zero written) ∙ (rw none_left at w.text_count)

    pub last-counted : ended + 1 ≡ length (lines_of (string_text string))
    unfolding flow
    last-counted = rw none_left at w.lines_count

    pub last_written : put_if writes lines (2 * ended) (line_octets (line row.width 0 ∷ [])) ≡ put_if writes lines₀ 0 (line_octets (lines_of (string_text string)))
    unfolding flow
    last_written = rw (last_line_lem row w.narrow) (rw none_left at w.lines_whole)

    pub last-room : Room string text₀ lines₀ writes → writes ≡ true → 2 * ended + 2 ≤ length lines
    last-room room y = let r = room y in let e = last-counted in let l = w.lines_length in omega arith

-- a turn, by what the code got from its calls
module _ {string text₀ lines₀ : List ℕ} {writes : Bool} {count : ℕ} {text lines : List ℕ} {at : ℕ} {escaped : Bool} (walk : Walk)
    (w : Walked string text₀ lines₀ writes count text lines walk.row at escaped walk.characters walk.ended) (more : at < count)
    (x : ℕ) (read : x ≡ septet_at string at) (v : Bool) (told : v ≡ (not escaped && eqb x escape && ltb (at + 1) count)) (room : Room string text₀ lines₀ writes) where
  here : v ≡ waits_now w more escaped
  here = told ∙ rw read refl

  pub room-there : v ≡ false → writes ≡ true → GiveRoom text lines walk (made_by escaped x)
  room-there e y = rw read (text-room w more (sym here ∙ e) room y, lines-room w more (sym here ∙ e) room y)

  abbrev c : ℕ
  c = made_by escaped (septet_at string at)

  pub turned : (y z : List ℕ) (u : Walk) → u ≡ cond v walk (walked walk (made_by escaped x)) → y ≡ cond v text (text_with writes text walk (made_by escaped x))
      → z ≡ cond v lines (lines_with writes lines walk (made_by escaped x)) → Walked string text₀ lines₀ writes count y z u.row (at + 1) v u.characters u.ended
  turned y z u p q r = rw (p, q, r, read) (go v refl)
    where
      go : (b : Bool) → v ≡ b → Walked string text₀ lines₀ writes count (cond b text (text_with writes text walk c)) (cond b lines (lines_with writes lines walk c))
          (cond b walk (walked walk c)).row (at + 1) b (cond b walk (walked walk c)).characters (cond b walk (walked walk c)).ended
      go true e = waited w more (sym here ∙ e)
      go false e = goes_on_lem w more (sym here ∙ e) room
