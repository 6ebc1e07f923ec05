-- A buffer that is asked for has at most 300 octets.
use Rattle.std.proofs.Common.{ℕ, ◌+◌, ◌*◌, ◌-◌, ◌≤◌, ◌≡◌, refl, List, [], ◌∷◌, Bool, true, false, cond, ◌&&◌, leb, arith, ℤ, Option, None, Some, Ok}
use borrow.Author.Tests.{leb-true}
use Rattle.words.specs.Words.{word_at, spelled}
use Rattle.words.specs.Numbers.{digit, number_from, number, AtMost, octet_at, id_at}
use Rattle.words.specs.Commands.{then_octet, then_id, then_number, ended, begin_at, invoke_at, result_at, error_at, release_at, buffer_at, by_verb, verb_of, passed_over, then_verb, understood, command}
use Rattle.words.specs.declared.At.{At}
use Rattle.words.specs.declared.Verb.{Verb}
use Rattle.words.specs.declared.Verb.TheVariants as verbs
use Rattle.words.specs.declared.Command.{Command}
use Rattle.words.specs.declared.Command.TheVariants.{Release, Buffer}
use Rattle.answers.specs.Answers.{asks_of, InRoom}

most-on : (d b : Bool) (most : ℕ) (r : Option ℕ) → (b ≡ true → AtMost most r) → AtMost most (cond (d && b) r None)
most-on true true most r h = h refl
most-on true false most r h = tt
most-on false b most r h = tt

most-from : (most n : ℕ) (s : List ℕ) → n ≤ most → AtMost most (number_from most n s)
unfolding number_from
most-from most n [] h = h
most-from most n (c ∷ s) h =
    most-on (digit c) (leb (n * 10 + (c - 48)) most) most (number_from most (n * 10 + (c - 48)) s) (λ e. most-from most (n * 10 + (c - 48)) s (leb-true (n * 10 + (c - 48)) most e))

number-most : (most : ℕ) (s : List ℕ) → AtMost most (number most s)
unfolding number
number-most most [] = tt
number-most most (c ∷ s) = most-from most 0 (c ∷ s) (omega arith)

module _ (end : ℕ) where
  -- what a command, if there is one, asks for is within the room
  abbrev Within : Option Command → Type 0
  Within None = Unit {0}
  Within (Some c) = InRoom (asks_of end c)

  in_octet : (o : Option (At ℕ)) (k : ℕ → ℕ → Option Command) → ((n next : ℕ) → Within (k n next)) → Within (then_octet o k)
  in_octet None k h = tt
  in_octet (Some a) k h = h a.value a.next

  in_id : (o : Option (At ℤ)) (k : ℤ → ℕ → Option Command) → ((id : ℤ) (next : ℕ) → Within (k id next)) → Within (then_id o k)
  in_id None k h = tt
  in_id (Some a) k h = h a.value a.next

  in_number : (r : Option ℕ) → AtMost 300 r → Within (then_number r (λ n. Some (Buffer n)))
  in_number None h = tt
  in_number (Some n) h = h

  in_cond : (b : Bool) (c : Option Command) → Within c → Within (cond b c None)
  in_cond true c h = h
  in_cond false c h = tt

  in_verb : (s : List ℕ) (at : ℕ) (v : Verb) → Within (by_verb s at v)
  unfolding by_verb begin_at invoke_at result_at error_at release_at buffer_at
  in_verb s at verbs.Receive = tt
  in_verb s at verbs.Begin = in_octet (octet_at s at) _ λ operation i. in_id (id_at s i) _ λ id next. tt
  in_verb s at verbs.Invoke = in_octet (octet_at s at) _ λ flag i. in_octet (octet_at s i) _ λ value j. in_octet (octet_at s j) _ λ operation k. in_id (id_at s k) _ λ id next. tt
  in_verb s at verbs.Result = in_octet (octet_at s at) _ λ flag i. in_octet (octet_at s i) _ λ value j. in_id (id_at s j) _ λ id next. tt
  in_verb s at verbs.Error = in_octet (octet_at s at) _ λ flag i. in_octet (octet_at s i) _ λ value j. in_id (id_at s j) _ λ id k. in_octet (octet_at s k) _ λ code next. tt
  in_verb s at verbs.Release = in_octet (octet_at s at) _ λ flag i. in_octet (octet_at s i) _ λ value next. in_cond (ended s next) (Some (Release flag value)) tt
  in_verb s at verbs.Table = tt
  in_verb s at verbs.Buffer = in_cond (ended s (word_at s at).end) _ (in_number (number 300 (spelled s (word_at s at))) (number-most 300 (spelled s (word_at s at))))
  in_verb s at verbs.Batch = tt

  in_then : (v : Option Verb) (s : List ℕ) (at : ℕ) → Within (then_verb v (by_verb s at))
  in_then None s at = tt
  in_then (Some v) s at = in_verb s at v

  of_understood : (o : Option Command) (c : Command) → understood o ≡ Ok (Some c) → Within o → InRoom (asks_of end c)
  of_understood None c e h = cc
  of_understood (Some d) c e h = let q : d ≡ c = cc in rw (← q) h

  of_cond : (b : Bool) (o : Option Command) (c : Command) → cond b (Ok None) (understood o) ≡ Ok (Some c) → Within o → InRoom (asks_of end c)
  of_cond true o c e h = cc
  of_cond false o c e h = of_understood o c e h

  pub in_room : (s : List ℕ) (c : Command) → command s ≡ Ok (Some c) → InRoom (asks_of end c)
  unfolding command
  in_room s c e = of_cond (passed_over (spelled s (word_at s 0))) _ c e (in_then (verb_of (spelled s (word_at s 0))) s (word_at s 0).end)
