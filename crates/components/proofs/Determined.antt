-- The contracts leave one answer: two that say the same of a part, and lie within it, are equal.
use Prim.Native.Nat.{ℕ, ◌-◌, ◌≤◌}
use mathlib.Core.Path.{◌≡◌, refl, sym, ap, ◌∙◌}
use mathlib.Core.List.{List}
use mathlib.Core.Option.{Option as Maybe, none, some}
use native.Mathlib.Omega.{arith}
use lib.IntN.{ℤ}
use lib.ListN.{length, length-drop}
use Rattle.std.specs.Prelude.{Option, None, Some, Result, Ok, Err}
use Rattle.octets.proofs.ReaderLaws.{sound-inj}
use Rattle.parameters.specs.declared.text.Ussd.{Ussd}
use Rattle.parameters.proofs.Determined.{ussd-determined}
use Rattle.places.specs.Seen.{id_seen, last}
use Rattle.places.specs.Problems.{number_of}
use Rattle.places.specs.declared.problems.Problem.{Problem}
use Rattle.places.proofs.Determined.{general-determined, id-determined}
use Rattle.components.specs.Component.{Component, invoke, result, error, reject, parameter_of}
use Rattle.components.specs.Facility.{empty, shows}
use Rattle.components.specs.Seen.{operation_seen, shown_seen, TextTold, parameter_length, kind_seen, KindWithin, unread_seen, UnreadWithin, inside_seen, InsideWithin, reading_seen, ReadingWithin}
use Rattle.components.specs.declared.shown.Shown.{Shown}
use Rattle.components.specs.declared.facility.Unread.{Unread}

-- what the code shows of a component
abbrev un_id : Maybe ℤ → Option ℤ
un_id none = None
un_id (some id) = Some id

abbrev un_operation : Maybe ℕ → Option ℕ
un_operation none = None
un_operation (some operation) = Some operation

abbrev un_shown : Component → Shown
un_shown (invoke id linked operation p) = Shown.Invoke id (un_id linked) operation (length p)
un_shown (result id operation p) = Shown.Result id (un_operation operation) (length p)
un_shown (error id code p) = Shown.Error id code (length p)
un_shown (reject id tag problem) = Shown.Reject (un_id id) tag problem

id-of : (a : Option ℤ) → un_id (id_seen a) ≡ a
id-of None = refl
id-of (Some i) = refl

operation-of : (a : Option ℕ) → un_operation (operation_seen a) ≡ a
operation-of None = refl
operation-of (Some o) = refl

last-length : (s : List ℕ) (n : ℕ) → n ≤ length s → length (last n s) ≡ n
last-length s n h = length-drop (length s - n) s ∙ omega arith

shown_of : (s : List ℕ) (r : Shown) → parameter_length r ≤ length s → un_shown (shown_seen s r) ≡ r
shown_of s (Shown.Invoke i l o n) h = rw (id-of l, last-length s n h)
shown_of s (Shown.Result i o n) h = rw (operation-of o, last-length s n h)
shown_of s (Shown.Error i c n) h = rw (last-length s n h)
shown_of s (Shown.Reject i t n) h = rw (id-of i)

shown-determined : (s : List ℕ) (r q : Shown) → parameter_length r ≤ length s → parameter_length q ≤ length s → shown_seen s r ≡ shown_seen s q → r ≡ q
shown-determined s r q a b e = sym (shown_of s r a) ∙ ap un_shown e ∙ shown_of s q b

pub kind-determined : (s : List ℕ) (r q : Result Shown Problem) → KindWithin s r → KindWithin s q → kind_seen s r ≡ kind_seen s q → r ≡ q
kind-determined s (Err p) (Err q) a b e = ap Err (general-determined p q a b (cc))
kind-determined s (Err p) (Ok y) a b e = cc
kind-determined s (Ok x) (Err q) a b e = cc
kind-determined s (Ok x) (Ok y) a b e = ap Ok (shown-determined s x y a b (sound-inj e))

unread-determined : (r q : Unread) → UnreadWithin r → UnreadWithin q → unread_seen r ≡ unread_seen q → r ≡ q
unread-determined (Unread.General p i) (Unread.General q j) a b e =
    let n : number_of p ≡ number_of q = cc in
    let k : id_seen i ≡ id_seen j = cc in
    λ m. Unread.General (general-determined p q a b n m) (id-determined i j k m)
unread-determined (Unread.General p i) Unread.LeftOver a b e = cc
unread-determined (Unread.General p i) Unread.FaultyReject a b e = cc
unread-determined Unread.LeftOver (Unread.General q j) a b e = cc
unread-determined Unread.LeftOver Unread.LeftOver a b e = refl
unread-determined Unread.LeftOver Unread.FaultyReject a b e = cc
unread-determined Unread.FaultyReject (Unread.General q j) a b e = cc
unread-determined Unread.FaultyReject Unread.LeftOver a b e = cc
unread-determined Unread.FaultyReject Unread.FaultyReject a b e = refl

-- what was not read is no component, and not empty
not_empty : {C : Type 0} (u : Unread) → empty ≡ unread_seen u → C
not_empty (Unread.General p i) e = cc
not_empty Unread.LeftOver e = cc
not_empty Unread.FaultyReject e = cc

no-component : {C : Type 0} {c : Component} (u : Unread) → shows c ≡ unread_seen u → C
no-component (Unread.General p i) e = cc
no-component Unread.LeftOver e = cc
no-component Unread.FaultyReject e = cc

pub text-determined : (c : Component) (t u : Option Ussd) → TextTold c t → TextTold c u → t ≡ u
text-determined c t u a b = ussd-determined (parameter_of c) t u a.1 b.1 (a.0 ∙ sym b.0)

pub inside-determined : (s : List ℕ) (r q : Result Shown Unread) → InsideWithin s r → InsideWithin s q → inside_seen s r ≡ inside_seen s q → r ≡ q
inside-determined s (Ok x) (Ok y) a b e = ap Ok (shown-determined s x y a b (cc))
inside-determined s (Ok x) (Err v) a b e = no-component v e
inside-determined s (Err u) (Ok y) a b e = no-component u (sym e)
inside-determined s (Err u) (Err v) a b e = ap Err (unread-determined u v a b e)

pub reading-determined : (s : List ℕ) (r q : Result (Option Shown) Unread) → ReadingWithin s r → ReadingWithin s q → reading_seen s r ≡ reading_seen s q → r ≡ q
reading-determined s (Ok None) (Ok None) a b e = refl
reading-determined s (Ok None) (Ok (Some y)) a b e = cc
reading-determined s (Ok None) (Err v) a b e = not_empty v e
reading-determined s (Ok (Some x)) (Ok None) a b e = cc
reading-determined s (Ok (Some x)) (Ok (Some y)) a b e = ap (λ (r : Shown). Ok (Some r)) (shown-determined s x y a b (cc))
reading-determined s (Ok (Some x)) (Err v) a b e = no-component v e
reading-determined s (Err u) (Ok None) a b e = not_empty u (sym e)
reading-determined s (Err u) (Ok (Some y)) a b e = no-component u (sym e)
reading-determined s (Err u) (Err v) a b e = ap Err (unread-determined u v a b e)
