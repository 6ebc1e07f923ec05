-- The contracts leave one answer each.
use Prim.Native.Nat.{ℕ}
use mathlib.Core.Path.{◌≡◌, refl, sym, ap, ◌∙◌}
use mathlib.Core.List.{List, []}
use mathlib.Core.Bool.{Bool, true, false, ◌||◌, true≢false}
use lib.Dec.{eqb}
use lib.IntN.{ℤ}
use Rattle.std.specs.Prelude.{Ok, Err}
use Rattle.octets.specs.Reader.{Answer}
use Rattle.parameters.specs.Seen.{TellsSuited}
use Rattle.parameters.specs.Suits.{is_ussd, suits, InvokeReceived, ResultReceived}
use Rattle.components.specs.Component.{error}
use Rattle.elements.proofs.Determined.{length-determined, found-determined}
use Rattle.parameters.proofs.Determined.{contents-determined, string-determined, ussd-determined}
use Rattle.places.proofs.Determined.{octet-determined, single-determined, calls-determined, last-determined, coded-determined, rejected-determined}
use Rattle.components.proofs.Determined.{kind-determined, inside-determined, reading-determined}
use Rattle.octets.proofs.Determined.{found-determined as part-determined, read-determined}
use Rattle.messages.specs.Layout.{mandatory_missing}
use Rattle.messages.proofs.Determined.{item-determined, type-determined}
use Rattle.table.proofs.Determined.{named-determined}
use Rattle.judging.proofs.Determined.{judgement-determined, linked-determined}
use Rattle.deciding.proofs.Determined.{decision-determined}
use Rattle.records.proofs.Determined.{record-determined, count-determined}
use Rattle.calling.proofs.Determined.{call-determined}
use Rattle.calling.specs.Calls.{Sending}
use Rattle.calling.specs.Seen.{DecidesCall}
use Rattle.octets.specs.OneAnswer.{OneAnswer, Exact}
use Rattle.promises.specs.Determined.{Elements, Parameters, InPlaces, Components, Messages, Transactions, Decisions, Recorded, Determined}

pub exact : Exact
exact A definition r q e f = e ∙ sym f

-- the one law: where two answers that say the same are equal, a promise of what is said leaves one
by-saying : {A B : Type 0} (seen : A → B) (within : A → Type 0) (definition : B) → ((r q : A) → within r → within q → seen r ≡ seen q → r ≡ q)
    → OneAnswer (λ (r : A). (seen r ≡ definition) × within r)
by-saying seen within definition same r q e f = same r q e.1 f.1 (e.0 ∙ sym f.0)

by-meaning : {A B : Type 0} (seen : A → B) (definition : B) → ((r q : A) → seen r ≡ seen q → r ≡ q) → OneAnswer (λ (r : A). seen r ≡ definition)
by-meaning seen definition same r q e f = same r q (e ∙ sym f)

-- whether it suits is told by the case, and so is which text
weighed : (suited sought : Bool) (p : List ℕ) → OneAnswer (TellsSuited suited sought p)
weighed suited sought p (Ok t) (Ok u) e f = ap Ok (ussd-determined p t u e.1.1 f.1.1 (e.1.0 ∙ sym f.1.0))
weighed suited sought p (Ok t) (Err n) e f = absurd (true≢false (e.0 ∙ sym f.0))
weighed suited sought p (Err m) (Ok u) e f = absurd (true≢false (f.0 ∙ sym e.0))
weighed suited sought p (Err m) (Err n) e f = refl

called : (definition : Answer Sending) (message : ℕ → ℕ → List ℕ) (named : ℕ → ℕ) (table : List ℕ) (room flag value : ℕ)
    → OneAnswer (DecidesCall definition message named table room flag value)
called definition message named table room flag value r q e f = call-determined message named r q (e.0 ∙ sym f.0) e.1.1 f.1.1

elements : Elements
elements = (λ s. by-saying _ _ _ (length-determined s), λ s. by-saying _ _ _ (found-determined s))

parameters : Parameters
parameters = (
  (λ tag p. by-saying _ _ _ (contents-determined p)),
  (
    (λ low high s. by-saying _ _ _ (string-determined low s)),
    ((λ s. by-saying _ _ _ (ussd-determined s)), ((λ p. by-saying _ _ _ (ussd-determined p)), ((λ p. weighed (is_ussd p) true p), ((λ o p. weighed (suits InvokeReceived o p) (eqb o 60 || eqb o 61) p), λ o p. weighed (suits ResultReceived o p) (eqb o 59) p)))),
  ),
)

in-places : InPlaces
in-places = (
  (λ tag s. by-saying _ _ _ (single-determined s)),
  ((λ s. by-saying _ _ _ (calls-determined s)), ((λ s. by-saying _ _ _ (coded-determined s)), ((λ s. by-saying _ _ _ (rejected-determined s)), ((λ s. by-saying _ _ _ (last-determined s)), λ wanted tag contents r q e f. octet-determined r q e.1 f.1 (e.0 [] ∙ sym (f.0 [])))))),
)

components : Components
components = (
  (λ definition s. by-saying _ _ _ (kind-determined s)),
  ((λ definition s. by-saying _ _ _ (reading-determined s)), λ definition s. by-saying _ _ _ (inside-determined s)),
)

messages : Messages
messages = (
  (λ octet. by-meaning _ _ type-determined),
  (
    (λ s. by-saying _ _ _ (item-determined s)),
    (
      (λ s. by-saying _ _ _ (read-determined mandatory_missing s)),
      (
        (λ type s. by-saying _ _ _ (read-determined mandatory_missing s)),
        ((λ type s. by-saying _ _ _ (read-determined mandatory_missing s)), λ identifier s. by-saying _ _ _ (part-determined s)),
      ),
    ),
  ),
)

transactions : Transactions
transactions = (
  (λ table k r q e f. e.0 ∙ sym f.0),
  (
    (λ table. by-meaning _ _ named-determined),
    (
      (λ flag value. by-meaning _ _ named-determined),
      (
        (λ definition c. by-saying _ _ _ (judgement-determined c)),
        ((λ definition id code r q e f. judgement-determined (error id code []) r q (e.1 []) (f.1 []) (e.0 ∙ sym f.0)), λ definition. by-saying _ _ _ linked-determined),
      ),
    ),
  ),
)

decisions : Decisions
decisions = (
  (λ definition s. by-saying _ _ _ (decision-determined s)),
  (
    (λ table p room operation id. called _ _ _ table room 1 0),
    (
      (λ table p room flag value operation id. called _ _ _ table room flag value),
      ((λ table p room flag value id. called _ _ _ table room flag value), ((λ table p room flag value code id. called _ _ _ table room flag value), λ table room flag value. called _ _ _ table room flag value)),
    ),
  ),
)

recorded : Recorded
recorded = (λ s. by-saying _ _ _ (record-determined s), λ s. by-meaning _ _ count-determined)

pub determined : Determined
determined = (elements, (parameters, (in-places, (components, (messages, (transactions, (decisions, recorded)))))))
