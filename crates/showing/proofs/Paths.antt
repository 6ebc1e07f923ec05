-- What the definitions say on each path through the code: parts at their places.
use Prim.Native.Nat.{ℕ, ◌+◌, ◌-◌, ◌≤◌}
use mathlib.Core.Path.{◌≡◌, refl, sym, ap, ◌∙◌}
use mathlib.Core.List.{List, ◌++◌}
use mathlib.Core.Bool.{Bool, true, false, cond}
use mathlib.Core.Option.{none, some}
use native.Mathlib.Omega.{arith}
use lib.ListN.{length, take, drop, length-drop, length-append}
use Rattle.octets.specs.Part.{between}
use Rattle.octets.specs.Reader.{Answer, fault, sound, Taken, took}
use Rattle.octets.proofs.PartLaws.{length-between}
use Rattle.parameters.specs.Parameter.{Text, ussd, mistyped}
use Rattle.parameters.specs.Seen.{refusal}
use Rattle.places.proofs.Left.{last_taken}
use Rattle.components.specs.Component.{Component, parameter_of}
use Rattle.components.specs.Texts.{extensible, readable, text_of}
use Rattle.components.specs.Seen.{shown_seen, parameter_length}
use Rattle.components.specs.declared.shown.Shown.{Shown}
use Rattle.components.proofs.Paths.{parameter-shown}
use Rattle.showing.specs.declared.TextView.{TextView}
use Rattle.showing.specs.Views.{span_of, text_view, no_text}

-- a part of what stands behind the two octets of the head
pub span-at : (s : List ℕ) (a e : ℕ) → a ≤ e → e ≤ length s → span_of (2 + length s) (between a e s) (drop e s) ≡ record { start = 2 + a; end = 2 + e }
span-at s a e h k =
    let l = length-between a e s k in
    let d = length-drop e s in
    let x : 2 + length s - length (drop e s) ≡ 2 + e = omega arith in
    let y : 2 + length s - length (drop e s) - length (between a e s) ≡ 2 + a = omega arith in
    λ i. record { start = y i; end = x i }

back : (a b : ℕ) → a ≤ b → b - a + a ≡ b
back a b h = omega arith

pub less : (m e : ℕ) → m ≤ e → e - (e - m) ≡ m
less m e h = omega arith

length-drop-add : (n : ℕ) (l : List ℕ) → n ≤ length l → length (drop n l) + n ≡ length l
length-drop-add n l h = rw (length-drop n l) (back n (length l) h)

-- the parameter of a component that is shown, as a part
pub parameter-is : (r : Shown) (s : List ℕ) (n e : ℕ) → n ≡ parameter_length r → parameter_length r ≤ e → e ≤ length s → parameter_of (shown_seen (take e s) r) ≡ between (e - n) e s
parameter-is r s n e q h k = sym (parameter-shown r (take e s)) ∙ sym (last_taken s e (parameter_length r) h k) ∙ ap (λ (j : ℕ). between (e - j) e s) (sym q)

readable-refused : (o : Answer (Taken Text)) → fault mistyped ≡ refusal o → readable o ≡ none
readable-refused (fault n) e = refl
readable-refused (sound g) e = cc

readable-taken : (o : Answer (Taken Text)) (g : Taken Text) → sound g ≡ refusal o → readable o ≡ some g
readable-taken (fault n) g e = cc
readable-taken (sound h) g e = cc

-- a text is told exactly where the component carries one that reads
text-none : (b : Bool) (o : Answer (Taken Text)) → fault mistyped ≡ cond b (refusal o) (fault mistyped) → cond b (readable o) none ≡ none
text-none true o e = readable-refused o e
text-none false o e = refl

text-some : (b : Bool) (o : Answer (Taken Text)) (g : Taken Text) → sound g ≡ cond b (refusal o) (fault mistyped) → cond b (readable o) none ≡ some g
text-some true o g e = readable-taken o g e
text-some false o g e = cc

pub text-untold : (c : Component) (behind : List ℕ) (n : ℕ) → fault mistyped ≡ cond (extensible c) (refusal (ussd (parameter_of c))) (fault mistyped)
    → no_text ≡ text_view n (some (record { component = c; behind = behind }))
unfolding text_view text_of
text-untold c behind n e = rw (text-none (extensible c) (ussd (parameter_of c)) e)

-- the numbers of a text's parts, from the lengths of what follows them
places : (l e m from to d t g b : ℕ) → m ≤ e → d + e ≡ l → t + to ≡ m → g + from ≡ to → b ≡ t + d → (scheme : ℕ)
    → ◌≡◌ {A = TextView}
    (record {
      is_there = true;
      scheme = scheme;
      string = record { start = 2 + (e - m) + from; end = 2 + (e - m) + to };
      tail = record { start = 2 + (e - m) + to; end = 2 + e };
    })
    (record {
      is_there = true;
      scheme = scheme;
      string = record { start = 2 + l - b - g; end = 2 + l - b };
      tail = record { start = 2 + l - d - t; end = 2 + l - d };
    })
places l e m from to d t g b w p q r f scheme =
    let a₁ : 2 + (e - m) + from ≡ 2 + l - b - g = omega arith in
    let a₂ : 2 + (e - m) + to ≡ 2 + l - b = omega arith in
    let b₁ : 2 + (e - m) + to ≡ 2 + l - d - t = omega arith in
    let b₂ : 2 + e ≡ 2 + l - d = omega arith in
    λ i. record { is_there = true; scheme = scheme; string = record { start = a₁ i; end = a₂ i }; tail = record { start = b₁ i; end = b₂ i } }

module _ (r : Shown) (s : List ℕ) (m e : ℕ) (q : m ≡ parameter_length r) (h : parameter_length r ≤ e) (k : e ≤ length s) where
  pub parameter-long : length (parameter_of (shown_seen (take e s) r)) ≡ m
  parameter-long = rw (parameter-is r s m e q h k) (length-between (e - m) e s k ∙ less m e (omega arith))

  -- the tail goes on to the end of the parameter, the string up to the tail
  pub text-taken : (scheme from to : ℕ) → from ≤ to → to ≤ m
      → (let p = parameter_of (shown_seen (take e s) r) in took (record { scheme = scheme; string = between from to p }) (drop to p) ≡ cond (extensible (shown_seen (take e s) r)) (refusal (ussd p)) (fault mistyped))
      → record {
        is_there = true;
        scheme = scheme;
        string = record { start = 2 + (e - m) + from; end = 2 + (e - m) + to };
        tail = record { start = 2 + (e - m) + to; end = 2 + e };
      } ≡ text_view (2 + length s) (some (record { component = shown_seen (take e s) r; behind = drop e s }))
  unfolding text_view text_of
  text-taken scheme from to i j u =
      let p = between (e - m) e s in
      let w : m ≤ e = omega arith in
      let z : length p ≡ m = length-between (e - m) e s k ∙ less m e w in
      let d : length (drop e s) + e ≡ length s = length-drop-add e s k in
      let t : length (drop to p) + to ≡ m = length-drop-add to p (omega arith) ∙ z in
      let g : length (between from to p) + from ≡ to = rw (length-between from to p (omega arith)) (back from to i) in
      let b : length (drop to p ++ drop e s) ≡ length (drop to p) + length (drop e s) = length-append (drop to p) (drop e s) in
      rw (parameter-is r s m e q h k, text-some (extensible (shown_seen (take e s) r)) (ussd p) _ (rw (parameter-is r s m e q h k) at u))
      (places (length s) e m from to (length (drop e s)) (length (drop to p)) (length (between from to p)) (length (drop to p ++ drop e s)) w d t g b scheme)
