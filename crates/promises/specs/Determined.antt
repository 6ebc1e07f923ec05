-- 01, "How much the promises say": "from it, equal inputs are proved to give equal outcomes". Each promise is the one that the
-- function's contract cites.
use Rattle.std.specs.Prelude.{ℕ, ◌≡◌, List, Option, ℤ}
use Rattle.std.proofs.Math.Option.{Option as Maybe}
use Rattle.octets.specs.OneAnswer.{OneAnswer}
use Rattle.octets.specs.Reader.{Answer}
use Rattle.elements.specs.Found.{ReadsLength, ReadsElement}
use Rattle.parameters.specs.Seen.{ReadsContents, ReadsString, ReadsUssdContents, ReadsUssd, TellsText, TellsInvoke, TellsResult}
use Rattle.places.specs.Seen.{ReadsOctet, ReadsSingle, ReadsCalls, ReadsLast, ReadsCoded, ReadsRejected}
use Rattle.components.specs.Component.{Component}
use Rattle.components.specs.Facility.{Finding}
use Rattle.components.specs.Seen.{ReadsKind, ReadsInside, ReadsFinding}
use Rattle.messages.specs.Types.{TellsType}
use Rattle.messages.specs.Seen.{ReadsItem, ReadsSized, ReadsMandatory, ReadsRequired, FindsFirst}
use Rattle.table.specs.Raw.{ReadsEntry}
use Rattle.table.specs.Seen.{FindsClosed, NamesEntry}
use Rattle.judging.specs.StepSix.{Judged}
use Rattle.judging.specs.Seen.{Judges, JudgesError, JudgesLinked}
use Rattle.deciding.specs.Decision.{Decision}
use Rattle.deciding.specs.Seen.{Decides}
use Rattle.records.specs.Records.{counted}
use Rattle.records.specs.Seen.{ReadsRecord, count_seen}
use Rattle.calling.specs.Seen.{DecidesBegin, DecidesInvoke, DecidesResult, DecidesError, DecidesRelease}

-- every function whose answer is an enum or a struct of places, crate by crate
abbrev pub Elements : Type 0
Elements = ((s : List ℕ) → OneAnswer (ReadsLength s)) × ((s : List ℕ) → OneAnswer (ReadsElement s))

abbrev pub Parameters : Type 0
Parameters =
    ((tag : ℕ) (p : List ℕ) → OneAnswer (ReadsContents tag p))
    × (((low high : ℕ) (s : List ℕ) → OneAnswer (ReadsString low high s))
    × (((s : List ℕ) → OneAnswer (ReadsUssdContents s))
    × (((p : List ℕ) → OneAnswer (ReadsUssd p))
    × (((p : List ℕ) → OneAnswer (TellsText p))
    × (((operation : ℕ) (p : List ℕ) → OneAnswer (TellsInvoke operation p)) × ((operation : ℕ) (p : List ℕ) → OneAnswer (TellsResult operation p)))))))

abbrev pub InPlaces : Type 0
InPlaces =
    ((tag : ℕ) (s : List ℕ) → OneAnswer (ReadsSingle tag s))
    × (((s : List ℕ) → OneAnswer (ReadsCalls s))
    × (((s : List ℕ) → OneAnswer (ReadsCoded s))
    × (((s : List ℕ) → OneAnswer (ReadsRejected s))
    × (((s : List ℕ) → OneAnswer (ReadsLast s)) × ((wanted tag : ℕ) (contents : List ℕ) → OneAnswer (ReadsOctet wanted tag contents))))))

abbrev pub Components : Type 0
Components =
    ((definition : Answer Component) (s : List ℕ) → OneAnswer (ReadsKind definition s))
    × (((definition : Finding) (s : List ℕ) → OneAnswer (ReadsFinding definition s)) × ((definition : Finding) (s : List ℕ) → OneAnswer (ReadsInside definition s)))

abbrev pub Messages : Type 0
Messages =
    ((octet : ℕ) → OneAnswer (TellsType octet))
    × (((s : List ℕ) → OneAnswer (ReadsItem s))
    × (((s : List ℕ) → OneAnswer (ReadsSized s))
    × (((type : ℕ) (s : List ℕ) → OneAnswer (ReadsMandatory type s))
    × (((type : ℕ) (s : List ℕ) → OneAnswer (ReadsRequired type s)) × ((identifier : ℕ) (s : List ℕ) → OneAnswer (FindsFirst identifier s))))))

abbrev pub Transactions : Type 0
Transactions =
    ((table : List ℕ) (k : ℕ) → OneAnswer (ReadsEntry table k))
    × (((table : List ℕ) → OneAnswer (FindsClosed table))
    × (((flag value : ℕ) → OneAnswer (NamesEntry flag value))
    × (((definition : Judged) (c : Component) → OneAnswer (Judges definition c))
    × (((definition : Judged) (id : ℤ) (code : ℕ) → OneAnswer (JudgesError definition id code))
    × ((definition : Maybe ℕ) → OneAnswer (JudgesLinked definition))))))

abbrev pub Decisions : Type 0
Decisions =
    ((definition : Decision) (s : List ℕ) → OneAnswer (Decides definition s))
    × (((table p : List ℕ) (room operation : ℕ) (id : ℤ) → OneAnswer (DecidesBegin table room operation id p))
    × (((table p : List ℕ) (room flag value operation : ℕ) (id : ℤ) → OneAnswer (DecidesInvoke table room flag value operation id p))
    × (((table p : List ℕ) (room flag value : ℕ) (id : ℤ) → OneAnswer (DecidesResult table room flag value id p))
    × (((table p : List ℕ) (room flag value code : ℕ) (id : ℤ) → OneAnswer (DecidesError table room flag value id code p))
    × ((table : List ℕ) (room flag value : ℕ) → OneAnswer (DecidesRelease table room flag value))))))

abbrev pub Recorded : Type 0
Recorded = ((s : List ℕ) → OneAnswer (ReadsRecord s)) × ((s : List ℕ) → OneAnswer (λ (r : Option ℕ). count_seen r ≡ counted s))

abbrev pub Determined : Type 0
Determined = Elements × (Parameters × (InPlaces × (Components × (Messages × (Transactions × (Decisions × Recorded))))))
