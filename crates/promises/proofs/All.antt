-- All of it holds.
use Rattle.promises.specs.All.{All}
use Rattle.telephone.proofs.Stands.{stands}
use Rattle.promises.proofs.OneVerdict.{demand-1}
use Rattle.promises.proofs.Demand2.{demand-2}
use Rattle.promises.proofs.Demand3.{demand-3}
use Rattle.promises.proofs.Determined.{exact, determined}
use Rattle.promises.proofs.Worked.{worked, w1-received}
use Rattle.promises.proofs.Editions.{editions}
use Rattle.promises.proofs.ErrorCases.{error-cases}
use Rattle.promises.proofs.PasswordCases.{password-cases}
use Rattle.promises.proofs.NeverDamaged.{never-damaged}
use Rattle.promises.proofs.Four.{four}
use Rattle.promises.proofs.FourCases.{four-cases}
use Rattle.promises.proofs.Morning.{morning}
use Rattle.promises.proofs.MorningCases.{morning-cases}
use Rattle.promises.proofs.Felt.{felt-holds}

pub all : All
all = (demand-1, (demand-2, (demand-3, (stands, (exact, (determined, (worked, (w1-received, (editions, (error-cases, (password-cases, (never-damaged, (four, (four-cases, (morning, (morning-cases, felt-holds))))))))))))))))
