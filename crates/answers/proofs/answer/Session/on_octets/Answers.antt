use Rattle.std.proofs.Common.{refl}
use Rattle.answers.proofs.AnswerLaws.{wrong, long, on_image, on_call}
use Rattle.answers.proofs.answer.Session.on_octets.Goals as goal

pub returns-in-Wrong : goal.returns-in-Wrong
returns-in-Wrong c =
    wrong c.args.number c.args.line.now c.args.at c.args.is_image c.args.command c.args.self.now c.part.result.now _ _ c.read_hex-row.result c.part.ensures.octets refl c.read_hex-row.ensures _ c.args.self.now c.in-Wrong.is c.not_understood.ensures

pub returns-in-Long : goal.returns-in-Long
returns-in-Long c =
    long c.args.number c.args.line.now c.args.at c.args.is_image c.args.command c.args.self.now c.part.result.now _ _ c.read_hex-row.result c.part.ensures.octets refl c.read_hex-row.ensures _ c.args.self.now c.in-Long.is c.too_long.ensures

pub returns-then-is_image : goal.returns-then-is_image
returns-then-is_image c =
    on_image c.args.number c.args.line.now c.args.at c.args.is_image c.args.command c.args.self.now c.part.result.now _ _ c.read_hex-row.result c.part.ensures.octets refl c.read_hex-row.ensures _ _ c.in-Whole.is c.if-is_image.true c.on_image.ensures

pub returns-else-is_image : goal.returns-else-is_image
returns-else-is_image c =
    on_call c.args.number c.args.line.now c.args.at c.args.is_image c.args.command c.args.self.now c.part.result.now _ _ c.read_hex-row.result c.part.ensures.octets refl c.read_hex-row.ensures _ _ c.in-Whole.is c.if-is_image.false c.on_call.ensures
