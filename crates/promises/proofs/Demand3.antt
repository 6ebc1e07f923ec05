-- Demand 3, of each message that shows a text: its later editions are read as it was.
use Rattle.promises.specs.LaterEdition.{Demand3}
use Rattle.promises.proofs.CannotAlter.{cannot-alter}
use Rattle.promises.proofs.PastIsTooLong.{past-is-too-long}
use Rattle.promises.proofs.Exists.{exists}
use Rattle.promises.proofs.IsOne.{is_one_lem}
use Rattle.promises.proofs.IsOctets.{is-octets}
use Rattle.promises.proofs.Unrecognized.{unrecognized}

pub demand-3 : Demand3
demand-3 = (cannot-alter, (past-is-too-long, (exists, (is_one_lem, (is-octets, unrecognized)))))
