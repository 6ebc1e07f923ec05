-- All that is proved of the whole: the three demands of the mission in their order, then what 01 asks besides.
use Rattle.promises.specs.OneVerdict.{Demand1}
use Rattle.promises.specs.Demand2.{Demand2}
use Rattle.promises.specs.LaterEdition.{Demand3}
use Rattle.promises.specs.Parts.{PartsStand}
use Rattle.octets.specs.OneAnswer.{Exact}
use Rattle.promises.specs.Determined.{Determined}
use Rattle.promises.specs.Worked.{Worked, W1Received}
use Rattle.promises.specs.Editions.{Editions}
use Rattle.promises.specs.ErrorCases.{ErrorCases}
use Rattle.promises.specs.PasswordCases.{PasswordCases}
use Rattle.promises.specs.NeverDamaged.{NeverDamaged}
use Rattle.promises.specs.Four.{Four}
use Rattle.promises.specs.FourCases.{FourCases}
use Rattle.promises.specs.Morning.{Morning}
use Rattle.promises.specs.MorningCases.{MorningCases}
use Rattle.promises.specs.Felt.{Felt}

abbrev pub All : Type 1
All = Demand1 × (Demand2 × (Demand3 × (PartsStand × (Exact × (Determined × (Worked × (W1Received × (Editions × (ErrorCases × (PasswordCases × (NeverDamaged × (Four × (FourCases × (Morning × (MorningCases × Felt)))))))))))))))
