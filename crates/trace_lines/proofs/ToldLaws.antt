-- Lines that tell records, on each path through the code.
use Prim.Native.Nat.{ℕ, ◌+◌, ◌-◌, ◌≤◌, ◌<◌}
use mathlib.Core.Path.{◌≡◌, refl, sym, ap, ◌∙◌}
use mathlib.Core.List.{List, [], ◌∷◌, ◌++◌}
use mathlib.Core.Option.{Option, none, some}
use mathlib.Core.Bool.{Bool, true, false, cond}
use native.Mathlib.Omega.{arith}
use lib.ListN.{length, take, drop, get_or, length-append}
use lib.Seq.{take_at, length-take-le, take-nil, drop-nil}
use lib.Dec.{eqb, leb}
use borrow.Author.Tests.{eq-eqb, ne_eqb, le-leb, lt-leb}
use Rattle.octets.specs.Splice.{splice}
use Rattle.octets.proofs.SpliceLaws.{splice_front}
use Rattle.words.specs.Words.{blank, word_at, spelled, same}
use Rattle.words.specs.Commands.{passed_over}
use Rattle.words.specs.Hex.{hex}
use Rattle.std.specs.Prelude.{Some}
use Rattle.octets.specs.declared.Span.{Span}
use Rattle.words.specs.declared.Ending.{Ending}
use Rattle.words.specs.declared.Ending.TheVariants.{Whole, Wrong, Long}
use Rattle.trace_lines.specs.Shown.{received, sent}
use Rattle.trace_lines.specs.Told.{Begun, grown_by, grown, Next, or_refuses, onward_with, followed, kind_of, kind_by}
use Rattle.trace_lines.specs.Desk.{join_seen, Lined, NextLined}
use Rattle.trace_lines.specs.declared.told.Kind.{Kind}
use Rattle.trace_lines.specs.declared.told.Kind.TheVariants.{Passed, Onward, First, Other}

-- octets joined to a record

pub joins-bad : (text : List ℕ) (ends : Ending) → ends ≡ (hex 255 text).ends → (ends ≡ Whole → ⊥) → (b : Begun) → none ≡ grown b text
unfolding grown
joins-bad text Whole e w b = absurd (w refl)
joins-bad text Wrong e w b = rw (← e)
joins-bad text Long e w b = rw (← e)

front-joined : (message octets : List ℕ) (count n : ℕ) → count ≤ length message → n ≡ length octets → take (count + n) (splice message count octets) ≡ take count message ++ octets
unfolding splice
front-joined message octets count n h k =
    let l = length-take-le count message h in
    take_at (take count message ++ octets) (drop (count + length octets) message) (count + n) (length-append (take count message) octets ∙ omega arith)

module _ (text : List ℕ) (count n : ℕ) (message : List ℕ) (l : length message ≡ 255) (c : count ≤ 255) (ends : Ending) (e : ends ≡ (hex 255 text).ends) (w : ends ≡ Whole) (k : n ≡ length (hex 255 text).octets) (b : Begun) (q : b.message ≡ take count message) where
  has : length b.message ≡ count
  has = ap length q ∙ length-take-le count message (omega arith)

  pub joins-over : 255 < count + n → none ≡ grown b text
  unfolding grown
  joins-over h = rw (← e, w, lt-leb (length b.message + length (hex 255 text).octets) 255 (let z = has in omega arith))

  pub joins-whole : (put space row after : List ℕ) → put ≡ take n row → row ≡ splice space 0 (hex 255 text).octets → after ≡ splice message count put → count + n ≤ 255 → join_seen b after (Some (count + n)) ≡ grown b text
  unfolding grown
  joins-whole put space row after p r a h =
      let z = has in
      let o : put ≡ (hex 255 text).octets = p ∙ ap (take n) (r ∙ splice_front space (hex 255 text).octets) ∙ take_at (hex 255 text).octets (drop (length (hex 255 text).octets) space) n (sym k) in
      let m : take (count + n) after ≡ b.message ++ (hex 255 text).octets = ap (take (count + n)) (a ∙ ap (splice message count) o) ∙ front-joined message (hex 255 text).octets count n (omega arith) k ∙ ap (λ (t : List ℕ). t ++ (hex 255 text).octets) (sym q) in
      rw (← e, w, le-leb (length b.message + length (hex 255 text).octets) 255 (omega arith), m)

-- the first word of a line

module _ (line : List ℕ) (first : Span) (f : first ≡ word_at line 0) (word : List ℕ) (w : word ≡ spelled line first) where
  told : (k : Kind) → kind_by line word first.end ≡ k → k ≡ kind_of line
  unfolding kind_of
  told k e = sym e ∙ ap (λ (t : List ℕ). kind_by line t first.end) w ∙ ap (λ (t : Span). kind_by line (spelled line t) t.end) f

  pub empty-line : word ≡ [] → Passed ≡ kind_of line
  empty-line h = told Passed (rw h)

  module _ (n : 0 < length word) where
    by_first : (s : List ℕ) → 0 < length s → passed_over s ≡ eqb (get_or s 0 0) 35
    by_first [] n = absurd (omega arith)
    by_first (a ∷ s) n = refl

    pub comment-line : get_or word 0 0 ≡ 35 → Passed ≡ kind_of line
    comment-line h = told Passed (rw (by_first word n, eq-eqb (get_or word 0 0) 35 h))

    module _ (m : get_or word 0 0 ≡ 35 → ⊥) where
      passes : passed_over word ≡ false
      passes = by_first word n ∙ ne_eqb (get_or word 0 0) 35 m

      pub onward-line : blank (get_or line 0 0) ≡ true → Onward ≡ kind_of line
      onward-line h = told Onward (rw (passes, h))

      module _ (b : blank (get_or line 0 0) ≡ false) where
        pub received-line : same word received ≡ true → First 0 first.end ≡ kind_of line
        received-line h = told (First 0 first.end) (rw (passes, b, h))

        module _ (r : same word received ≡ false) where
          pub sent-line : same word sent ≡ true → First 1 first.end ≡ kind_of line
          sent-line h = told (First 1 first.end) (rw (passes, b, r, h))

          pub other-line : same word sent ≡ false → Other ≡ kind_of line
          other-line h = told Other (rw (passes, b, r, h))

-- a line with a word has a first octet
pub some-octet : (line : List ℕ) (first : Span) (word : List ℕ) → word ≡ spelled line first → 0 < length word → 0 < length line
some-octet [] first word w n = let z : length word ≡ 0 = ap length (w ∙ none-between-nil first) in absurd (omega arith)
  where
    none-between-nil : (t : Span) → spelled [] t ≡ []
    none-between-nil t = rw (drop-nil {A = ℕ} t.start, take-nil {A = ℕ} (t.end - t.start))
some-octet (a ∷ line) first word w n = omega arith

-- lines are counted from 1

grown-by-lined : (b : Begun) (octets : List ℕ) (e : Ending) → 1 ≤ b.line → NextLined (or_refuses b.line (grown_by b octets e))
grown-by-lined b octets Whole h = go (leb (length b.message + length octets) 255)
  where
    go : (t : Bool) → NextLined (or_refuses b.line (cond t (some (record { direction = b.direction; message = b.message ++ octets; line = b.line })) none))
    go true = h
    go false = h
grown-by-lined b octets Wrong h = h
grown-by-lined b octets Long h = h

pub grown-lined : (b : Begun) (text : List ℕ) → 1 ≤ b.line → NextLined (or_refuses b.line (grown b text))
unfolding grown
grown-lined b text h = grown-by-lined b (hex 255 text).octets (hex 255 text).ends h

onward-lined : (line : List ℕ) (n : ℕ) (begun : Option Begun) → 1 ≤ n → Lined begun → NextLined (onward_with line n begun)
onward-lined line n none h b = h
onward-lined line n (some a) h b = grown-lined a line b

pub followed-lined : (kind : Kind) (line : List ℕ) (n : ℕ) (begun : Option Begun) → 1 ≤ n → Lined begun → NextLined (followed kind line n begun)
unfolding followed
followed-lined Passed line n begun h b = b
followed-lined Onward line n begun h b = onward-lined line n begun h b
followed-lined (First direction at) line n begun h b = grown-lined (record { direction = direction; message = []; line = n }) (drop at line) h
followed-lined Other line n begun h b = h

pub lined-by : (x y : Next) → x ≡ y → NextLined y → NextLined x
lined-by x y e m = rw e m
