use native.Mathlib.Omega.{arith}
use mathlib.Core.Path.{◌≡◌, ap}
use mathlib.Core.Bool.{false}
use lib.ListN.{length-drop, get_or}
use Rattle.octets.proofs.PartLaws.{rest_part_lem}
use Rattle.elements.specs.Element.{refused_tag}
use Rattle.elements.proofs.Paths.{no-tag, bad-tag, bad-length, cut, whole}
use Rattle.elements.proofs.Tags.{not-refused}
use Rattle.elements.proofs.read_element.Goals as goal
use Rattle.elements.proofs.read_element.Goals.{Joined-tag-lt128, in-1-to-30, in-1-to-30-2, in-1-to-30-3, in-1-to-30-4, in-1-to-30-5, in-1-to-30-6, in-1-to-30-7, in-1-to-30-8}

-- each of the eight ranges
good : (c : Joined-tag-lt128) → refused_tag (get_or c.args.s.now 0 0) ≡ false
good c =
    let tag = get_or c.args.s.now 0 0 in
    elim c.if-tag-lt128.branch [
      | in-1-to-30 w ↦ not-refused 0 tag (omega arith) (omega arith) (omega arith)
      | in-1-to-30-2 w ↦ not-refused 1 tag (omega arith) (omega arith) (omega arith)
      | in-1-to-30-3 w ↦ not-refused 2 tag (omega arith) (omega arith) (omega arith)
      | in-1-to-30-4 w ↦ not-refused 3 tag (omega arith) (omega arith) (omega arith)
      | in-1-to-30-5 w ↦ not-refused 4 tag (omega arith) (omega arith) (omega arith)
      | in-1-to-30-6 w ↦ not-refused 5 tag (omega arith) (omega arith) (omega arith)
      | in-1-to-30-7 w ↦ not-refused 6 tag (omega arith) (omega arith) (omega arith)
      | in-1-to-30-8 w ↦ not-refused 7 tag (omega arith) (omega arith) (omega arith)
    ]

pub returns-then-s-lt1 : goal.returns-then-s-lt1
returns-then-s-lt1 c = (no-tag c.args.s.now c.if-s-lt1.true, tt)

pub returns-in_default : goal.returns-in_default
returns-in_default c = let e : get_or c.args.s.now 0 0 ≡ 0x00 = omega arith in (bad-tag c.args.s.now (omega arith) (ap refused_tag e), tt)

pub returns-in_default-2 : goal.returns-in_default-2
returns-in_default-2 c = let e : get_or c.args.s.now 0 0 ≡ 0x1F = omega arith in (bad-tag c.args.s.now (omega arith) (ap refused_tag e), tt)

pub returns-in_default-3 : goal.returns-in_default-3
returns-in_default-3 c = let e : get_or c.args.s.now 0 0 ≡ 0x3F = omega arith in (bad-tag c.args.s.now (omega arith) (ap refused_tag e), tt)

pub returns-in_default-4 : goal.returns-in_default-4
returns-in_default-4 c = let e : get_or c.args.s.now 0 0 ≡ 0x5F = omega arith in (bad-tag c.args.s.now (omega arith) (ap refused_tag e), tt)

pub returns-in_default-5 : goal.returns-in_default-5
returns-in_default-5 c = let e : get_or c.args.s.now 0 0 ≡ 0x7F = omega arith in (bad-tag c.args.s.now (omega arith) (ap refused_tag e), tt)

pub returns-in_default-6 : goal.returns-in_default-6
returns-in_default-6 c = let e : get_or c.args.s.now 0 0 ≡ 0x9F = omega arith in (bad-tag c.args.s.now (omega arith) (ap refused_tag e), tt)

pub returns-in_default-7 : goal.returns-in_default-7
returns-in_default-7 c = let e : get_or c.args.s.now 0 0 ≡ 0xBF = omega arith in (bad-tag c.args.s.now (omega arith) (ap refused_tag e), tt)

pub returns-in_default-8 : goal.returns-in_default-8
returns-in_default-8 c = let e : get_or c.args.s.now 0 0 ≡ 0xDF = omega arith in (bad-tag c.args.s.now (omega arith) (ap refused_tag e), tt)

pub returns-in_default-9 : goal.returns-in_default-9
returns-in_default-9 c = let e : get_or c.args.s.now 0 0 ≡ 0xFF = omega (arith, c.type_inv.s 0) in (bad-tag c.args.s.now (omega arith) (ap refused_tag e), tt)

pub returns-in_default-read_length : goal.returns-in_default-read_length
returns-in_default-read_length c =
    (bad-length c.args.s.now (omega arith) (good (goal.at.returns-in_default-read_length c).Joined-tag-lt128) (rw (c.in_default-read_length.is, rest_part_lem 1 c.args.s.now) at c.read_length.ensures.0), tt)

pub overflow_add-start : goal.overflow_add-start
overflow_add-start c =
    let w = simp length-drop at (rw (c.in-Some.is, rest_part_lem 1 c.args.s.now) at c.read_length.ensures.1) in
    omega arith

pub overflow_sub-s : goal.overflow_sub-s
overflow_sub-s c =
    let w = simp length-drop at (rw (c.in-Some.is, rest_part_lem 1 c.args.s.now) at c.read_length.ensures.1) in
    omega arith

pub returns-then-s-start : goal.returns-then-s-start
returns-then-s-start c =
    let w = simp length-drop at (rw (c.in-Some.is, rest_part_lem 1 c.args.s.now) at c.read_length.ensures.1) in
    (cut c.args.s.now (omega arith) c.in-Some.length.octets c.in-Some.length.taken (good (goal.at.returns-then-s-start c).Joined-tag-lt128) (rw (c.in-Some.is, rest_part_lem 1 c.args.s.now) at c.read_length.ensures.0) (omega arith) c.if-s-start.true, tt)

pub overflow_add-result : goal.overflow_add-result
overflow_add-result c =
    let w = simp length-drop at (rw (c.in-Some.is, rest_part_lem 1 c.args.s.now) at c.read_length.ensures.1) in
    omega arith

pub returns : goal.returns
returns c =
    let w = simp length-drop at (rw (c.in-Some.is, rest_part_lem 1 c.args.s.now) at c.read_length.ensures.1) in
    (whole c.args.s.now (omega arith) c.in-Some.length.octets c.in-Some.length.taken (good (goal.at.returns c).Joined-tag-lt128) (rw (c.in-Some.is, rest_part_lem 1 c.args.s.now) at c.read_length.ensures.0) (omega arith) c.if-s-start.false, omega arith)
