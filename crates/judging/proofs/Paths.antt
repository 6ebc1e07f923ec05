-- What the search uses of ids and tests.
use borrow.Author.Tests.{eqb-true}
use Rattle.codes.proofs.IdLaws.{held-is}

pub ruleset asked = (held-is, eqb-true)
