-- However the input is cut, the writer takes its lines.
use Prim.Native.Nat.{ℕ, zero, suc, ◌+◌, ◌-◌, ◌<◌, ◌≤◌}
use mathlib.Core.Path.{◌≡◌, refl, sym, ap, ◌∙◌, subst}
use mathlib.Core.List.{List, [], ◌∷◌, ◌++◌, append_assoc, append-nil}
use mathlib.Core.Option.{Option}
use mathlib.Core.Bool.{Bool, true, false, cond, not}
use native.Mathlib.Omega.{arith}
use lib.ListN.{length, take, drop, length-append, length-drop, take-append-drop, drop_of_length-le}
use lib.Seq.{take_all, take-append_seam, drop-drop}
use lib.Dec.{eqb, ltb}
use borrow.Author.Tests.{ltb-true, ltb-false, lt-ltb, eqb-true, not-true}
use Rattle.octets.specs.Splice.{splice}
use Rattle.octets.proofs.SpliceLaws.{length-splice}
use Rattle.octets.proofs.TestLaws.{both}
use Rattle.printing.specs.Forty.{plain}
use Rattle.printing.proofs.FortyLaws.{plain-append}
use Rattle.words.specs.Lines.{line_end, piece, held, with_piece, gathered}
use Rattle.words.proofs.LineLaws.{piece-ends, piece-left, some-left, gathered-left, rest-left}
use Rattle.trace.specs.Files.{joined}
use Rattle.trace_lines.specs.Told.{Begun, kind_if, followed}
use Rattle.trace_promises.specs.Retold.{lines_in}
use Rattle.trace_promises.specs.Gathered.{Line, line_of, taken_from, taken_all, taken_left, taken_each, SameLine, SameLines, Gathers, GathersLeft, TakenAs}
use Rattle.trace_promises.proofs.LinesBack.{line-ends}

-- so much of a line is there: its octets and their count, or the count alone where it is too long
abbrev Stands : List ℕ → ℕ → List ℕ → Type 0
Stands line have c =
    (length line ≡ 16384) × ((plain c ≡ true) × ((length c ≤ 16384 → (have ≡ length c) × (take (length c) line ≡ c)) × (16384 < length c → have ≡ 16385)))

nothing-stands : (line : List ℕ) → length line ≡ 16384 → Stands line 0 []
unfolding plain
nothing-stands line l = (l, (refl, (λ h. (refl, refl), λ h. absurd (omega arith))))

-- a line that is too long stays so
long-stands : (line c p : List ℕ) → length line ≡ 16384 → plain (c ++ p) ≡ true → 16384 < length c + length p → Stands line 16385 (c ++ p)
long-stands line c p l t h =
    let a = length-append c p in
    (l, (t, (λ k. absurd (omega arith), λ k. refl)))

-- a piece is written behind what is there
front_kept : (line c p : List ℕ) → take (length c) line ≡ c → take (length (c ++ p)) (splice line (length c) p) ≡ c ++ p
unfolding splice
front_kept line c p e = rw e (take-append_seam (c ++ p) (drop (length c + length p) line))

piece-kept : (line c p : List ℕ) → length line ≡ 16384 → plain (c ++ p) ≡ true → take (length c) line ≡ c
    → (over : Bool) → ltb 16384 (length c + length p) ≡ over
    → Stands (cond over line (splice line (length c) p)) (cond over 16385 (length c + length p)) (c ++ p)
piece-kept line c p l t e true o = long-stands line c p l t (ltb-true 16384 (length c + length p) o)
piece-kept line c p l t e false o =
    let a = length-append c p in
    let h = ltb-false 16384 (length c + length p) o in
    (length-splice line (length c) p (omega arith) ∙ l, (t, (λ k. (sym a, front_kept line c p e), λ k. absurd (omega arith))))

kept_by : (line : List ℕ) (have : ℕ) (c p : List ℕ) → Stands line have c → plain (c ++ p) ≡ true → (long : Bool) → ltb 16384 (length c) ≡ long
    → Stands (with_piece line have p) (held have p) (c ++ p)
kept_by line have c p s t true o =
    let h = ltb-true 16384 (length c) o in
    let e : have ≡ 16385 = s.1.1.1 h in
    let u : ltb 16384 (have + length p) ≡ true = lt-ltb 16384 (have + length p) (omega arith) in
    rw u (long-stands line c p s.0 t (omega arith))
kept_by line have c p s t false o =
    let w = s.1.1.0 (ltb-false 16384 (length c) o) in
    rw w.0 (piece-kept line c p s.0 t w.1 (ltb 16384 (length c + length p)) refl)

kept : (line : List ℕ) (have : ℕ) (c p : List ℕ) → Stands line have c → plain p ≡ true → Stands (with_piece line have p) (held have p) (c ++ p)
kept line have c p s t = kept_by line have c p s (plain-append c p s.1.0 t) (ltb 16384 (length c)) refl

-- such a line is the one that is taken
same_by : (line : List ℕ) (have : ℕ) (c : List ℕ) → Stands line have c → (long : Bool) → ltb 16384 (length c) ≡ long → SameLine (line_of line have) c
same_by line have c s true o =
    let e : have ≡ 16385 = s.1.1.1 (ltb-true 16384 (length c) o) in
    let u : ltb 16384 have ≡ true = lt-ltb 16384 have (omega arith) in
    (u ∙ sym o, λ f. absurd (omega (arith, ltb-false 16384 have f)))
same_by line have c s false o =
    let w = s.1.1.0 (ltb-false 16384 (length c) o) in
    let e : have - 0 ≡ length c = omega (arith, w.0) in
    (ap (λ (k : ℕ). ltb 16384 k) w.0, λ f. ap (λ (k : ℕ). take k line) e ∙ w.1)

same : (line : List ℕ) (have : ℕ) (c : List ℕ) → Stands line have c → SameLine (line_of line have) c
same line have c s = same_by line have c s (ltb 16384 (length c)) refl

-- a piece ends before the first 10, or where the input ends
plain-first : (c : ℕ) (s : List ℕ) (b : Bool) → eqb c 10 ≡ b → plain (take (line_end s) s) ≡ true → plain (take (cond b 0 (suc (line_end s))) (c ∷ s)) ≡ true
unfolding plain
plain-first c s true e h = refl
plain-first c s false e h = rw e h

plain-before : (s : List ℕ) → plain (take (line_end s) s) ≡ true
unfolding line_end plain
plain-before [] = refl
plain-before (c ∷ s) = plain-first c s (eqb c 10) refl (plain-before s)

ten-first : (c : ℕ) (s : List ℕ) (b : Bool) → eqb c 10 ≡ b → (line_end s < length s → drop (line_end s) s ≡ 10 ∷ drop (suc (line_end s)) s)
    → cond b 0 (suc (line_end s)) < suc (length s) → drop (cond b 0 (suc (line_end s))) (c ∷ s) ≡ 10 ∷ drop (suc (cond b 0 (suc (line_end s)))) (c ∷ s)
ten-first c s true e h l = ap (λ (k : ℕ). k ∷ s) (eqb-true c 10 e)
ten-first c s false e h l = h (omega arith)

ten-behind : (s : List ℕ) → line_end s < length s → drop (line_end s) s ≡ 10 ∷ drop (suc (line_end s)) s
unfolding line_end
ten-behind [] l = absurd (omega arith)
ten-behind (c ∷ s) l = ten-first c s (eqb c 10) refl (λ h. ten-behind s h) l

piece-plain : (input : List ℕ) (from : ℕ) → plain (piece input from) ≡ true
unfolding piece
piece-plain input from = plain-before (drop from input)

whole-cut : (input : List ℕ) (from : ℕ) → line_end (drop from input) < length (drop from input)
    → drop from input ≡ piece input from ++ (10 ∷ drop (from + suc (line_end (drop from input))) input)
unfolding piece
whole-cut input from h =
    let s : List ℕ = drop from input in
    sym (take-append-drop (line_end (drop from input)) s)
    ∙ ap (λ (r : List ℕ). piece input from ++ r) (ten-behind s h)
    ∙ ap (λ (r : List ℕ). piece input from ++ (10 ∷ r)) (drop-drop (suc (line_end (drop from input))) from input)

piece-whole : (input : List ℕ) (from : ℕ) → from + length (piece input from) < length input
    → drop from input ≡ piece input from ++ (10 ∷ drop (suc (from + length (piece input from))) input)
piece-whole input from h =
    let e = piece-ends input from in
    let d = length-drop from input in
    let f : suc (from + length (piece input from)) ≡ from + suc (line_end (drop from input)) = omega arith in
    rw f (whole-cut input from (omega arith))

piece-last : (input : List ℕ) (from : ℕ) → length input ≤ from + length (piece input from) → drop from input ≡ piece input from
unfolding piece
piece-last input from h =
    let e = piece-ends input from in
    let d = length-drop from input in
    sym (take_all (line_end (drop from input)) (drop from input) (omega arith))

-- the last line may lack its line feed
last_line_lem : (x : ℕ) (c : List ℕ) → plain (x ∷ c) ≡ true → lines_in (x ∷ c) ≡ (x ∷ c) ∷ []
unfolding plain
last_line_lem x [] h = let w = both (not (eqb x 10)) true h in rw (not-true (eqb x 10) w.0)
last_line_lem x (y ∷ c) h =
    let w = both (not (eqb x 10)) (plain (y ∷ c)) h in
    rw (not-true (eqb x 10) w.0, last_line_lem y c w.1)

-- from a line of which so much stands, the lines of it and the text that follows
abbrev Takes : List ℕ → (List ℕ → ℕ → List Line) → Type 0
Takes text taken = (line : List ℕ) (have : ℕ) (c : List ℕ) → Stands line have c → SameLines (taken line have) (lines_in (c ++ text))

text-whole : (c input : List ℕ) (from : ℕ) (rest : List ℕ) → from + length (piece input from) < length input
    → c ++ (drop from input ++ rest) ≡ (c ++ piece input from) ++ (10 ∷ (drop (suc (from + length (piece input from))) input ++ rest))
text-whole c input from rest h =
    let behind : List ℕ = 10 ∷ drop (suc (from + length (piece input from))) input in
    ap (λ (s : List ℕ). c ++ (s ++ rest)) (piece-whole input from h)
    ∙ ap (λ (s : List ℕ). c ++ s) (append_assoc (piece input from) behind rest)
    ∙ sym (append_assoc c (piece input from) (behind ++ rest))

text-last : (c input : List ℕ) (from : ℕ) (rest : List ℕ) → length input ≤ from + length (piece input from)
    → c ++ (drop from input ++ rest) ≡ (c ++ piece input from) ++ (drop (from + length (piece input from)) input ++ rest)
text-last c input from rest h =
    rw (drop_of_length-le input h)
    (ap (λ (s : List ℕ). c ++ (s ++ rest)) (piece-last input from h) ∙ sym (append_assoc c (piece input from) rest))

module _ (input rest : List ℕ) (behind : List ℕ → ℕ → List Line) (goes : Takes rest behind) where
  -- a turn of the loop: the input is over, or a line ends, or it goes on in the next piece
  turn : (most from : ℕ) → ((next : ℕ) → length input ≤ next + most → Takes (drop next input ++ rest) (λ (l : List ℕ) (h : ℕ). taken_from most input next l h behind))
      → length input ≤ from + suc most → (line : List ℕ) (have : ℕ) (c : List ℕ) → Stands line have c
      → (within : Bool) → ltb from (length input) ≡ within → (whole : Bool) → ltb (from + length (piece input from)) (length input) ≡ whole
      → SameLines
      (cond within
      (cond whole
      (line_of (with_piece line have (piece input from)) (held have (piece input from))
      ∷ taken_from most input (cond whole (suc (from + length (piece input from))) (from + length (piece input from))) (with_piece line have (piece input from)) 0 behind)
      (taken_from most input (cond whole (suc (from + length (piece input from))) (from + length (piece input from))) (with_piece line have (piece input from)) (held have (piece input from)) behind))
      (behind line have))
      (lines_in (c ++ (drop from input ++ rest)))
  turn most from go l line have c s false e whole w = rw (drop_of_length-le input (ltb-false from (length input) e)) (goes line have c s)
  turn most from go l line have c s true e true w =
      let p : List ℕ = piece input from in
      let k = kept line have c p s (piece-plain input from) in
      let next : ℕ = suc (from + length (piece input from)) in
      rw (text-whole c input from rest (ltb-true (from + length (piece input from)) (length input) w), line-ends (c ++ p) (drop next input ++ rest) k.1.0)
      (same (with_piece line have p) (held have p) (c ++ p) k, go next (omega arith) (with_piece line have p) 0 [] (nothing-stands (with_piece line have p) k.0))
  turn most from go l line have c s true e false w =
      let p : List ℕ = piece input from in
      let h = ltb-false (from + length (piece input from)) (length input) w in
      rw (text-last c input from rest h)
      (go (from + length (piece input from)) (omega arith) (with_piece line have p) (held have p) (c ++ p) (kept line have c p s (piece-plain input from)))

  takes-from : (most from : ℕ) → length input ≤ from + most → Takes (drop from input ++ rest) (λ (l : List ℕ) (h : ℕ). taken_from most input from l h behind)
  unfolding gathered
  takes-from zero from l line have c s = let h : length input ≤ from = omega arith in rw (drop_of_length-le input h) (goes line have c s)
  takes-from (suc most) from l line have c s =
      turn most from (λ next h. takes-from most next h) l line have c s (ltb from (length input)) refl (ltb (from + length (piece input from)) (length input)) refl

-- where the input ends
some-there : (line : List ℕ) (have x : ℕ) (c : List ℕ) → Stands line have (x ∷ c) → (long : Bool) → ltb 16384 (length (x ∷ c)) ≡ long → 0 < have
some-there line have x c s true o = let e : have ≡ 16385 = s.1.1.1 (ltb-true 16384 (length (x ∷ c)) o) in omega arith
some-there line have x c s false o = let w = s.1.1.0 (ltb-false 16384 (length (x ∷ c)) o) in omega (arith, w.0)

takes-end : Takes [] (taken_all [])
takes-end line have [] s = rw (s.1.1.0 (omega arith)).0 tt
takes-end line have (x ∷ c) s =
    let e : lines_in ((x ∷ c) ++ []) ≡ (x ∷ c) ∷ [] = ap lines_in (append-nil (x ∷ c)) ∙ last_line_lem x c s.1.0 in
    let h : ltb 0 have ≡ true = lt-ltb 0 have (some-there line have x c s (ltb 16384 (length (x ∷ c))) refl) in
    subst (λ (lines : List (List ℕ)). SameLines (taken_all [] line have) lines) (sym e) (rw h (same line have (x ∷ c) s, tt))

takes_all : (pieces : List (List ℕ)) → Takes (joined pieces) (taken_all pieces)
takes_all [] = takes-end
takes_all (input ∷ others) = takes-from input (joined others) (taken_all others) (takes_all others) (suc (length input)) 0 (omega arith)

pub gathers : Gathers
gathers pieces line l = takes_all pieces line 0 [] (nothing-stands line l)

-- a turn over what is left is a turn from that place on
left-from : (most : ℕ) (input : List ℕ) (from : ℕ) (line : List ℕ) (have : ℕ) (behind : List ℕ → ℕ → List Line)
    → taken_left most (drop from input) line have behind ≡ taken_from most input from line have behind
left-from zero input from line have behind = refl
left-from (suc most) input from line have behind =
    let g = gathered-left input from have in
    let next : ℕ = (gathered input from have).next in
    let more : List ℕ = with_piece line have (piece input from) in
    rw (some-left input from, piece-left input from, rest-left input from have, g.1.0, g.1.1)
    (λ i. cond (ltb from (length input))
    (cond (gathered input from have).is_whole
    (line_of more (gathered input from have).have ∷ left-from most input next more 0 behind i)
    (left-from most input next more (gathered input from have).have behind i))
    (behind line have))

takes_each : (pieces : List (List ℕ)) → Takes (joined pieces) (taken_each pieces)
takes_each [] = takes-end
takes_each (input ∷ others) = λ line have c s.
    subst (λ (lines : List Line). SameLines lines (lines_in (c ++ (input ++ joined others))))
    (sym (left-from (suc (length input)) input 0 line have (taken_each others)))
    (takes-from input (joined others) (taken_each others) (takes_each others) (suc (length input)) 0 (omega arith) line have c s)

pub gathers_left : GathersLeft
gathers_left =
    (λ pieces line l. takes_each pieces line 0 [] (nothing-stands line l), λ input line have behind. left-from (suc (length input)) input 0 line have behind)

-- too long a line is refused whatever it says, and any other is the same line
as_by : (long over : Bool) (text line : List ℕ) → long ≡ over → (long ≡ false → text ≡ line) → (n : ℕ) (begun : Option Begun)
    → (kind_if long text ≡ kind_if over line) × (followed (kind_if long text) text n begun ≡ followed (kind_if over line) line n begun)
unfolding followed
as_by true over text line e s n begun = rw (← e) (refl, refl)
as_by false over text line e s n begun = rw (← e, s refl) (refl, refl)

pub taken_as : TakenAs
taken_as t line s n begun = as_by t.long (ltb 16384 (length line)) t.text line s.0 s.1 n begun
