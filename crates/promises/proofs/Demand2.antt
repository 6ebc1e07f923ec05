-- Demand 2 holds.
use Rattle.promises.specs.Passwords.{Passwords}
use Rattle.promises.specs.Demand2.{Demand2}
use Rattle.promises.proofs.ReadBack.{component-reads-back, call-reads-back}
use Rattle.promises.proofs.RejectBack.{reject-reads-back}
use Rattle.promises.proofs.ErrorLists.{error-lists}
use Rattle.promises.proofs.WrittenDigits.{written-are-digits, others-are-not-written, digits-are-written}
use Rattle.promises.proofs.ShownDigits.{shown-are-digits, digits-in-c, others-are-not-shown, digits-are-shown}

passwords : Passwords
passwords = (written-are-digits, (others-are-not-written, (digits-are-written, (shown-are-digits, (digits-in-c, (others-are-not-shown, digits-are-shown))))))

pub demand-2 : Demand2
demand-2 = (component-reads-back, (call-reads-back, (reject-reads-back, (error-lists, passwords))))
