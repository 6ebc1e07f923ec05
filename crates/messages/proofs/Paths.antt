-- What the search uses of readers and of the scans.
use Prim.Native.Nat.{ℕ, ◌+◌, ◌-◌, ◌≤◌, ◌<◌}
use mathlib.Core.Path.{◌≡◌, sym, ◌∙◌}
use mathlib.Core.List.{List, [], ◌∷◌}
use mathlib.Core.Bool.{true, false}
use mathlib.Core.Option.{some}
use Rattle.octets.specs.Part.{between}
use native.Mathlib.Omega.{arith}
use lib.ListN.{length, get_or, drop, length-drop}
use lib.Seq.{drop-drop}
use borrow.Author.Tests.{le-leb, lt-leb, eq-eqb, ne_eqb}
use Rattle.octets.specs.Reader.{fault, took, octet}
use Rattle.octets.proofs.PartLaws.{rest_part_lem, none_left}
use Rattle.octets.proofs.ReaderLaws.{octet-at, octet-cut, front_at, front_cut}
use Rattle.messages.specs.Scan.{information, clear, first_taken}
use Rattle.messages.proofs.ScanLaws.{clear_none, clear_step, clear-cut, clear-refused, taken_step, taken_none}
use Rattle.messages.proofs.NotWhole.{not-whole}

-- the octet at the front
pub octet-front : (n : ℕ) (s : List ℕ) → 0 < length s → octet n s ≡ took (get_or s 0 0) (drop 1 s)
octet-front n s h = octet-at n 0 s h

pub octet_none : (n : ℕ) (s : List ℕ) → length s ≤ 0 → octet n s ≡ fault n
octet_none n s h = octet-cut n 0 s h

-- a scan that ends at an element that must be understood, or at one that is cut
pub clear-stop : (s : List ℕ) → 0 < length s → get_or s 0 0 < 0x10 → clear s ≡ false
clear-stop [] l h = absurd (omega arith)
clear-stop (a ∷ s) l h = clear-refused a s h

pub clear-left : (s : List ℕ) (n : ℕ) → 0 < length s → 0x10 ≤ get_or s 0 0 → information s ≡ fault n → clear s ≡ true
clear-left [] n l h q = absurd (omega arith)
clear-left (a ∷ s) n l h q = clear-cut (a ∷ s) n q ∙ le-leb 0x10 a h

-- and scans that go on behind a whole element
pub clear-on : (s : List ℕ) → 0x10 ≤ get_or s 0 0 → (m a e : ℕ)
    → took (record { identifier = m; contents = between a e s }) (drop e s) ≡ information s → clear s ≡ clear (drop e s)
clear-on s h m a e q = clear_step s _ (sym q) ∙ rw (le-leb 0x10 (get_or s 0 0) h)

module _ (s : List ℕ) (i w m a e : ℕ) (q : took (record { identifier = m; contents = between a e (drop i s) }) (drop e (drop i s)) ≡ information (drop i s)) where
  pub found_at : m ≡ w → some (record { value = between (i + a) (i + e) s; rest = drop (i + e) s }) ≡ first_taken w (drop i s)
  found_at f =
      let n : i + e - (i + a) ≡ e - a = omega arith in
      sym (taken_step w (drop i s) _ (sym q) ∙ rw (eq-eqb m w f, n, drop-drop a i s, drop-drop e i s))

  pub find-on : (m ≡ w → ⊥) → first_taken w (drop i s) ≡ first_taken w (drop (i + e) s)
  find-on f = taken_step w (drop i s) _ (sym q) ∙ rw (ne_eqb m w f, drop-drop e i s)

pub ruleset reading = (octet-front, octet_none, octet-at, octet-cut, front_at, front_cut, rest_part_lem, length-drop, drop-drop, eq-eqb, ne_eqb, le-leb, lt-leb)

pub ruleset scanning = (clear_none, clear-stop, clear-left, clear-on, found_at, find-on, taken_none, not-whole, none_left, rest_part_lem, length-drop)
