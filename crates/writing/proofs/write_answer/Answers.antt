use native.Mathlib.Omega.{arith}
use mathlib.Core.Path.{◌≡◌, refl, sym, ◌∙◌}
use mathlib.Core.List.{List, [], ◌∷◌}
use Prim.Native.Nat.{ℕ}
use lib.ListN.{length}
use borrow.Author.Tests.{eqb-true, eqb-false}
use Rattle.elements.specs.Element.{written}
use Rattle.writing.proofs.WriteLaws.{pieces, pieces-length, as_written, fits-as, answer-bare, answer-full, inner-length}
use Rattle.codes.proofs.IdLaws.{handed}
use Rattle.writing.proofs.write_answer.Goals as goal

pub write_enclosed-requires : goal.write_enclosed-requires
write_enclosed-requires c =
    let a = c.args in
    (omega arith, fits-as a.at (length a.buf.now) (answer-bare a.id _ a.operation a.p.now (handed c.ranges.id c.octet_of.ensures) (eqb-true _ _ (sym c.if-is_empty.ensures))) c.requires.1)

pub returns-then-is_empty : goal.returns-then-is_empty
returns-then-is_empty c =
    let a = c.args in
    let r = as_written a.buf.now a.at (answer-bare a.id _ a.operation a.p.now (handed c.ranges.id c.octet_of.ensures) (eqb-true _ _ (sym c.if-is_empty.ensures))) (c.write_enclosed.ensures.writes, c.write_enclosed.ensures.next) in
    record { writes = r.0; next = r.1 }

pub write_enclosed-requires-2 : goal.write_enclosed-requires-2
write_enclosed-requires-2 c =
    let a = c.args in
    let inner : List ℕ = written 0x30 (0x02 ∷ 0x01 ∷ a.operation ∷ a.p.now) in
    let j = inner-length a.operation a.p.now c.requires.0 in
    let f = fits-as a.at (length a.buf.now) (answer-full a.id c.octet_of.result a.operation a.p.now (handed c.ranges.id c.octet_of.ensures) (eqb-false _ _ (sym c.if-is_empty.ensures))) c.requires.1 in
    let l = pieces-length 0xA2 (0x02 ∷ 0x01 ∷ c.octet_of.result ∷ []) inner in
    let e : c.enclosed_length.result ≡ length inner = c.enclosed_length.ensures ∙ sym j.0 in
    (omega arith, omega (arith, c.write_header-next.auto.buf, c.put.auto.buf, rw e at c.write_header-next.ensures.next))

pub returns : goal.returns
returns c =
    let a = c.args in
    let inner : List ℕ = written 0x30 (0x02 ∷ 0x01 ∷ a.operation ∷ a.p.now) in
    let j = inner-length a.operation a.p.now c.requires.0 in
    let w = answer-full a.id c.octet_of.result a.operation a.p.now (handed c.ranges.id c.octet_of.ensures) (eqb-false _ _ (sym c.if-is_empty.ensures)) in
    let f = fits-as a.at (length a.buf.now) w c.requires.1 in
    let l = pieces-length 0xA2 (0x02 ∷ 0x01 ∷ c.octet_of.result ∷ []) inner in
    let e : c.enclosed_length.result ≡ length inner = c.enclosed_length.ensures ∙ sym j.0 in
    let r =
    as_written a.buf.now a.at w
    (pieces a.buf.now _ _ _ a.at 0xA2 (0x02 ∷ 0x01 ∷ c.octet_of.result ∷ []) inner _ _ f (rw e at c.write_header-next.ensures.writes) (rw e at c.write_header-next.ensures.next) c.put.ensures c.write_enclosed-2.ensures.writes refl, omega (arith, rw e at c.write_header-next.ensures.next, c.write_enclosed-2.ensures.next)) in
    record { writes = r.0; next = r.1 }
