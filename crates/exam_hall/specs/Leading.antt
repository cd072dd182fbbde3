-- What the first turn of a request does.
use Rattle.std.specs.Prelude.{◌≡◌, ◌⊎◌, ⊤, ℕ, Bool, List, ◌++◌, Contains, IfSome, Result}
use Rattle.exam_office.specs.Warm.{FitsPlan}
use Rattle.bank_tables.specs.Tables.{Tables}
use Rattle.form_model.specs.Plan.{Plan}
use Rattle.form_model.specs.Validity.{IsWellMade}
use Rattle.constraint_model.specs.declared.problem.Problem.{Problem}
use Rattle.constraint_model.specs.Views.{problem_of}
use Rattle.history_model.specs.declared.entry.Entry.{Entry}
use Rattle.history_model.specs.declared.place.Place.{Place}
use Rattle.history_model.specs.declared.place.Place.TheVariants.{Pending}
use Rattle.history_model.specs.declared.refusal.Refusal.{Refusal}
use Rattle.history_model.specs.declared.request.Request.{Request}
use Rattle.history_model.specs.declared.request.Request.TheVariants as request
use Rattle.history_model.specs.declared.request.Reply.{Reply}
use Rattle.history_model.specs.declared.request.Reply.TheVariants as reply
use Rattle.history_model.specs.Legality.{LegalRun}
use Rattle.history_model.specs.SessionProblems.{IsProblemOf}
use Rattle.exam_office.specs.declared.mark.Mark.{Mark}
use Rattle.exam_office.specs.Leading.{IsWitnessFor}
use Rattle.exam_office.specs.Marks.{history}
use Rattle.exam_office.specs.Noting.{OpenedWith, NotedMark, noted, marks_of}
use Rattle.exam_hall.specs.Parts.{owns, AtMostOne, IsFirst, LacksFirst, IsRefusedBy, IsNotBegunBy, Fails}
use Rattle.exam_hall.specs.Sees.{IsAt, IsExposed}
use Rattle.exam_hall.specs.declared.asking.FirstAnswer.{FirstAnswer}
use Rattle.exam_hall.specs.declared.asking.FirstAnswer.TheVariants.{Done, Waits}

-- the problem of a session that waits for an item
pub record IsAsked (b : Tables) (plan : Plan) (H : List Entry) (P : Problem) : Type 0 where
  pub is_problem : IsProblemOf b plan H P.session P.step (problem_of P)
  pub well_made : IsWellMade (problem_of P)

-- it was sought for the bank and the plan that the office was opened with
pub record IsSought (seen : List NotedMark) (q : Request)
    (found : Result (List ℕ) Refusal) : Type 0 where
  pub one : NotedMark
  pub there : Contains seen one
  pub is_witness : IsWitnessFor one.office.bank one.office.plan q found

-- a session that was closed doesn't wait for an item
abbrev pub EndsSession : Request → Place → Type 0
EndsSession (request.Close session booking) at = (step : ℕ) → at ≡ Pending step → ⊥
EndsSession q at = ⊤

-- the request's first entry was added where it was not there yet; T are the marks that the turn
-- added, S all of them
pub record IsLed (plan : Plan) (q : Request) (S T : List Mark) (session : ℕ) (at : Place)
    (fresh : Bool) : Type 0 where
  pub is_at : IsAt plan q S T session at fresh
  pub one : AtMostOne (IsFirst q) (owns T)
  pub ends : EndsSession q at

-- the first entry of a request was added, or its answer was there; or it was refused; or no form
-- without the items of its list is known; or the entry could not be added
abbrev pub Leads : Tables → Plan → Request → List Mark → List Mark → Reply → Type 0
Leads b plan q S T (reply.At session at fresh) = IsLed plan q S T session at fresh
Leads b plan q S T (reply.Exposure exposure) = IsExposed b plan q S T exposure
Leads b plan q S T (reply.Refused r) =
    IsRefusedBy b plan q S T r ⊎ (IsNotBegunBy b plan q S T r
    ⊎ (Fails b plan (IsFirst q) S T r × LacksFirst b plan S q (owns T)))

-- the reply is not that a session waits for an item
abbrev pub IsNoWait : Reply → Type 0
IsNoWait (reply.At session at fresh) = (step : ℕ) → at ≡ Pending step → ⊥
IsNoWait answer = ⊤

-- the request is done, or its session waits for an item, with this problem; a search of it may
-- begin with the vector
abbrev pub IsBegun : Tables → Plan → Request → List Mark → List Mark → FirstAnswer → Type 0
IsBegun b plan q S T (Done answer) = Leads b plan q S T answer × IsNoWait answer
IsBegun b plan q S T (Waits fresh P warm) =
    IsLed plan q S T P.session (Pending P.step) fresh × IsAsked b plan (history S) P
    × IfSome warm (FitsPlan b plan)

-- a turn on one office adds marks to it; its history is a legal run afterwards
pub record GoesOn (before after : List NotedMark) (makes : OpenedWith → List Mark → List Mark
    → Type 0) : Type 0 where
  pub office : OpenedWith
  pub from : before ≡ noted office (marks_of before)
  pub to : after ≡ noted office (marks_of after)
  pub added : List Mark
  pub is : marks_of after ≡ marks_of before ++ added
  pub run : LegalRun office.bank office.plan (history (marks_of after))
  pub made : makes office (marks_of after) added

-- the first turn of a request
abbrev pub BeginsRequest : Request → List NotedMark → List NotedMark → FirstAnswer → Type 0
BeginsRequest q before after begun =
    GoesOn before after (λ office S T. IsBegun office.bank office.plan q S T begun)
