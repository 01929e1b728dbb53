-- The text of what became of a line.
use Rattle.std.specs.Prelude.{ℕ, List, [], ◌∷◌, ◌++◌, Option, Some, None, codes}
use Rattle.std.specs.Borrow.{Bor}
use Rattle.std.specs.Fmt.{decimal}
use Rattle.cap_base.specs.declared.codes.Reason.{Reason}
use Rattle.cap_base.specs.declared.codes.Reason.TheVariants.{Unpr, Imsg, Pars, Secu, Intp, Rcpp, Dpmg, Vers, Msgt}
use Rattle.cap_base.specs.declared.codes.Response.{Response}
use Rattle.cap_base.specs.declared.codes.Response.TheVariants.{Appr, Decl, Part, Tech}
use Rattle.cap_text.specs.Pieces.{number_of}
use Rattle.cap_schedule.specs.declared.outcome.Outcome.{Outcome}
use Rattle.cap_schedule.specs.declared.outcome.Outcome.TheVariants as O
use Rattle.cap_schedule.specs.declared.outcome.Wording.{Wording}
use Rattle.cap_schedule.specs.declared.outcome.Wording.TheVariants.{Words, Number, Two, Three, Letters, NumberLetters, LettersNumber, Answer}
use Rattle.cap_schedule.specs.declared.schedule.Line.{Line}

abbrev pub reason_text : Reason → List ℕ
reason_text Unpr = codes "UNPR"
reason_text Imsg = codes "IMSG"
reason_text Pars = codes "PARS"
reason_text Secu = codes "SECU"
reason_text Intp = codes "INTP"
reason_text Rcpp = codes "RCPP"
reason_text Dpmg = codes "DPMG"
reason_text Vers = codes "VERS"
reason_text Msgt = codes "MSGT"

abbrev pub response_text : Response → List ℕ
response_text Appr = codes "APPR"
response_text Decl = codes "DECL"
response_text Part = codes "PART"
response_text Tech = codes "TECH"

-- a space and the number or the reason, where there is one
abbrev pub spaced_number : Option ℕ → List ℕ
spaced_number None = []
spaced_number (Some n) = codes " " ++ decimal n

abbrev pub spaced_reason : Option Reason → List ℕ
spaced_reason None = []
spaced_reason (Some reason) = codes " " ++ reason_text reason

abbrev pub spaced_letters : Option (Bor (List ℕ)) → List ℕ
spaced_letters None = []
spaced_letters (Some letters) = codes " " ++ letters.now

-- the text of an outcome's parts
abbrev pub wording_text : Wording → List ℕ
wording_text (Words words) = words.now
wording_text (Number words n) = words.now ++ decimal n
wording_text (Two words m n) = words.now ++ decimal m ++ codes " " ++ decimal n
wording_text (Three words k m n) = words.now ++ decimal k ++ codes " " ++ decimal m ++ codes " " ++ decimal n
wording_text (Letters words letters) = words.now ++ letters.now
wording_text (NumberLetters words n letters) = words.now ++ decimal n ++ codes " " ++ letters.now
wording_text (LettersNumber words letters n) = words.now ++ letters.now ++ codes " " ++ decimal n
wording_text (Answer place kind letters) = codes "answered" ++ spaced_number place ++ codes " " ++ kind.now ++ spaced_letters letters

abbrev pub outcome_text : Outcome → List ℕ
outcome_text O.IsOff = codes "off"
outcome_text O.WasCut = codes "cut"
outcome_text O.DiskFailed = codes "disk"
outcome_text (O.Begun n) = codes "begun " ++ decimal n
outcome_text (O.Sold n) = codes "sale " ++ decimal n
outcome_text (O.GivenUp n) = codes "void " ++ decimal n
outcome_text (O.DeclinedSale n) = codes "declined " ++ decimal n
outcome_text (O.CancelledSale n) = codes "cancelled " ++ decimal n
outcome_text (O.ClosedPeriod p) = codes "closed " ++ decimal p
outcome_text (O.Limit most) = codes "limit " ++ decimal most
outcome_text (O.AboveFloor n) = codes "above floor " ++ decimal n
outcome_text (O.NotPending n) = codes "not pending " ++ decimal n
outcome_text (O.NoSale n) = codes "no sale " ++ decimal n
outcome_text (O.NotCompleted n) = codes "not completed " ++ decimal n
outcome_text (O.AlreadyCancelled n) = codes "already cancelled " ++ decimal n
outcome_text O.PeriodLimit = codes "period limit"
outcome_text (O.Sent k) = codes "sent " ++ decimal k
outcome_text O.NothingQueued = codes "empty"
outcome_text (O.NoMessage k) = codes "no message " ++ decimal k
outcome_text (O.Answered place kind reason) = codes "answered" ++ spaced_number place ++ codes " " ++ number_of kind ++ spaced_reason reason
outcome_text O.Silent = codes "silent"
outcome_text (O.AckedUpTo m) = codes "acked " ++ decimal m
outcome_text (O.CancelAnswered n response) = codes "cancel answer " ++ decimal n ++ codes " " ++ response_text response
outcome_text (O.Diagnosed last) = codes "diagnosed " ++ decimal last
outcome_text (O.PlanOf actions) = codes "plan " ++ decimal actions
outcome_text (O.PartAdded version part parts) = codes "part " ++ decimal version ++ codes " " ++ decimal part ++ codes " " ++ decimal parts
outcome_text (O.Stale m q) = codes "stale " ++ decimal m ++ codes " " ++ decimal q
outcome_text (O.Beyond m len) = codes "beyond " ++ decimal m ++ codes " " ++ decimal len
outcome_text O.NotForUs = codes "not for us"
outcome_text O.NotAwaited = codes "not awaited"
outcome_text (O.Rejected reason) = codes "rejected " ++ reason_text reason
outcome_text (O.Unread reason place) = codes "unread " ++ reason_text reason ++ codes " " ++ decimal place
outcome_text (O.PublishedAs version) = codes "published " ++ decimal version
outcome_text O.SetLimit = codes "set limit"
outcome_text O.Restarted = codes "restarted"

abbrev pub outcome_line : ℕ → Outcome → List ℕ
outcome_line line outcome = decimal line ++ codes " " ++ outcome_text outcome ++ 10 ∷ []

-- a line for each outcome
abbrev pub outcome_lines : List Line → List Outcome → List ℕ
outcome_lines [] outcomes = []
outcome_lines (line ∷ lines) [] = []
outcome_lines (line ∷ lines) (outcome ∷ outcomes) = outcome_line line.number outcome ++ outcome_lines lines outcomes
