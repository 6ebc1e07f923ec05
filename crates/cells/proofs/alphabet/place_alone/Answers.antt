use mathlib.Core.Path.{refl}
use borrow.Author.Tests.{lt-ltb, le-ltb, lt-leb, le-leb}
use Rattle.cells.proofs.alphabet.place_alone.Goals as goal

pub returns-then-septet-lt32 : goal.returns-then-septet-lt32
returns-then-septet-lt32 c = rw (lt-ltb c.args.septet 0x20 c.if-septet-lt32.true) refl

pub returns-then-septet-lt91 : goal.returns-then-septet-lt91
returns-then-septet-lt91 c = rw (le-ltb c.args.septet 0x20 c.if-septet-lt32.false, lt-ltb c.args.septet 0x5B c.if-septet-lt91.true) refl

pub returns-then-septet-le96 : goal.returns-then-septet-le96
returns-then-septet-le96 c = rw (le-ltb c.args.septet 0x20 c.if-septet-lt32.false, le-ltb c.args.septet 0x5B c.if-septet-lt91.false, le-leb c.args.septet 0x60 c.if-septet-le96.true) refl

pub returns-then-septet-lt123 : goal.returns-then-septet-lt123
returns-then-septet-lt123 c = rw (le-ltb c.args.septet 0x20 c.if-septet-lt32.false, le-ltb c.args.septet 0x5B c.if-septet-lt91.false, lt-leb c.args.septet 0x60 c.if-septet-le96.false, lt-ltb c.args.septet 0x7B c.if-septet-lt123.true) refl

pub returns : goal.returns
returns c = rw (le-ltb c.args.septet 0x20 c.if-septet-lt32.false, le-ltb c.args.septet 0x5B c.if-septet-lt91.false, lt-leb c.args.septet 0x60 c.if-septet-le96.false, le-ltb c.args.septet 0x7B c.if-septet-lt123.false) refl
