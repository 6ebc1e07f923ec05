-- What the definitions say on each path through the code.
use Prim.Native.Nat.{ℕ, ◌+◌, ◌-◌, ◌*◌, ◌≤◌, ◌<◌}
use mathlib.Core.Path.{◌≡◌, refl}
use mathlib.Core.List.{List}
use mathlib.Core.Bool.{Bool, true, false}
use native.Mathlib.Omega.{arith}
use lib.ListN.{length, get_or, drop}
use lib.Seq.{drop-drop}
use lib.Dec.{ltb}
use borrow.Author.Tests.{lt-ltb, le-ltb, ne_eqb, ltb-true, ltb-false}
use Rattle.octets.specs.Part.{between}
use Rattle.octets.specs.Reader.{fault, took}
use Rattle.octets.proofs.ReaderLaws.{octet-at, octet-cut, front_at, front_cut}
use Rattle.elements.specs.Element.{missing, unreadable, refused_tag, length_of, element}

module _ (s : List ℕ) where
  pub no_length : length s < 1 → fault unreadable ≡ length_of s
  unfolding length_of
  no_length h = rw (octet-cut unreadable 0 s (omega arith))

  module _ (l : 0 < length s) where
    pub short : (a : ℕ) → a ≡ get_or s 0 0 → get_or s 0 0 < 0x80 → took a (drop 1 s) ≡ length_of s
    unfolding length_of
    short a q h = rw (q, octet-at unreadable 0 s l, lt-ltb (get_or s 0 0) 0x80 h)

    pub one-cut : get_or s 0 0 ≡ 0x81 → length s < 2 → fault unreadable ≡ length_of s
    unfolding length_of
    one-cut e h = rw (octet-at unreadable 0 s l, e, octet-cut unreadable 1 s (omega arith))

    pub one : (a : ℕ) → a ≡ get_or s 1 0 → get_or s 0 0 ≡ 0x81 → 1 < length s → took a (drop 2 s) ≡ length_of s
    unfolding length_of
    one a q e h = rw (q, octet-at unreadable 0 s l, e, octet-at unreadable 1 s h)

    pub other : 0x80 ≤ get_or s 0 0 → (get_or s 0 0 ≡ 0x81 → ⊥) → (get_or s 0 0 ≡ 0x82 → ⊥) → fault unreadable ≡ length_of s
    unfolding length_of
    other h f g = rw (octet-at unreadable 0 s l, le-ltb (get_or s 0 0) 0x80 h, ne_eqb (get_or s 0 0) 0x81 f, ne_eqb (get_or s 0 0) 0x82 g)

    pub two-cut : get_or s 0 0 ≡ 0x82 → length s < 3 → fault unreadable ≡ length_of s
    unfolding length_of
    two-cut e h = go (ltb 1 (length s)) refl
      where
        go : (b : Bool) → ltb 1 (length s) ≡ b → fault unreadable ≡ length_of s
        go true t = rw (octet-at unreadable 0 s l, e, octet-at unreadable 1 s (ltb-true 1 (length s) t), octet-cut unreadable 2 s (omega arith))
        go false t = rw (octet-at unreadable 0 s l, e, octet-cut unreadable 1 s (ltb-false 1 (length s) t))

    pub two : get_or s 0 0 ≡ 0x82 → 2 < length s → took (get_or s 1 0 * 256 + get_or s 2 0) (drop 3 s) ≡ length_of s
    unfolding length_of
    two e h = rw (octet-at unreadable 0 s l, e, octet-at unreadable 1 s (omega arith), octet-at unreadable 2 s h)

  pub no-tag : length s < 1 → fault missing ≡ element s
  unfolding element
  no-tag h = rw (octet-cut missing 0 s (omega arith))

  module _ (l : 0 < length s) where
    pub bad-tag : refused_tag (get_or s 0 0) ≡ true → fault unreadable ≡ element s
    unfolding element
    bad-tag h = rw (octet-at missing 0 s l, h)

    pub bad-length : refused_tag (get_or s 0 0) ≡ false → fault unreadable ≡ length_of (drop 1 s) → fault unreadable ≡ element s
    unfolding element
    bad-length h e = rw (octet-at missing 0 s l, h, ← e)

    -- n octets of contents, behind a length of k octets
    module _ (n k : ℕ) (h : refused_tag (get_or s 0 0) ≡ false) (e : took n (drop k (drop 1 s)) ≡ length_of (drop 1 s)) where
      pub cut : 1 + k ≤ length s → length s - (1 + k) < n → fault unreadable ≡ element s
      unfolding element
      cut j c = rw (octet-at missing 0 s l, h, ← e, drop-drop k 1 s, front_cut unreadable n (1 + k) s j (omega arith))

      pub whole : 1 + k ≤ length s → n ≤ length s - (1 + k)
          → took (record { tag = get_or s 0 0; contents = between (1 + k) (1 + k + n) s }) (drop (1 + k + n) s) ≡ element s
      unfolding element
      whole j c = let f : 1 + k + n - (1 + k) ≡ n = omega arith in rw (f, octet-at missing 0 s l, h, ← e, drop-drop k 1 s, front_at unreadable n (1 + k) s (omega arith))
