-- What waits, and those that wait.
use Rattle.promises.specs.Four.{Four}
use Rattle.promises.proofs.WhatWaits.{waits-after-message, waits-after-call, sides-known}
use Rattle.promises.proofs.Apart.{invokes-apart, answers-apart}

pub four : Four
four = (waits-after-message, (waits-after-call, (sides-known, (invokes-apart, answers-apart))))
