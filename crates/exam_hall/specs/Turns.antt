-- What a call of the office does, as a part of a turn.
use Rattle.std.specs.Prelude.{◌≡◌, ⊤, ℕ, ◌≤◌, List, [], ◌∷◌, ◌++◌, length, Some, IfSome}
use Rattle.exam_office.specs.Warm.{FitsPlan}
use Rattle.bank_tables.specs.Tables.{Tables}
use Rattle.form_model.specs.Plan.{Plan}
use Rattle.exam_edge.specs.Lent.{IsLent}
use Rattle.answer_journal.specs.Journal.{tells_of, faults_of, identity_of}
use Rattle.constraint_model.specs.declared.problem.Problem.{Problem}
use Rattle.branch_bound.specs.Assembled.{Assembly}
use Rattle.history_model.specs.declared.entry.Entry.{Entry}
use Rattle.history_model.specs.declared.request.Request.{Request}
use Rattle.history_model.specs.declared.request.Reply.{Reply}
use Rattle.history_model.specs.declared.request.Reply.TheVariants as reply
use Rattle.exam_office.specs.declared.mark.Mark.{Mark}
use Rattle.exam_office.specs.Running.{Running}
use Rattle.exam_office.specs.Writing.{IsSameOffice}
use Rattle.history_model.specs.declared.place.Place.{Place}
use Rattle.history_model.specs.declared.place.Place.TheVariants.{Pending}
use Rattle.history_model.specs.Legality.{LegalRun}
use Rattle.history_model.specs.Places.{place}
use Rattle.turn_lock.specs.Passes.{Known}
use Rattle.exam_office.specs.Marks.{history}
use Rattle.exam_hall.specs.Known.{HallKnown}
use Rattle.exam_hall.specs.Went.{Went, taken}
use Rattle.exam_hall.specs.Leading.{Leads, IsAsked, IsNoWait, IsBegun}
use Rattle.exam_hall.specs.Rounds.{IsEntryOf, AddsOnly, EndsRound, EndsGood}
use Rattle.exam_hall.specs.declared.committing.Round.{Round}
use Rattle.exam_hall.specs.declared.committing.Round.TheVariants.{Placed, Again, Failed}
use Rattle.exam_hall.specs.declared.asking.FirstAnswer.{FirstAnswer}
use Rattle.exam_hall.specs.declared.asking.FirstAnswer.TheVariants.{Done, Waits}

-- the office is the same, with at most two marks more
pub record Adds {D : Type 0} (old new : Running D) : Type 0 where
  pub same : IsSameOffice old new
  pub frame : IsLent tells_of identity_of faults_of old.journal new.journal
  pub added : List Mark
  pub is : new.marks ≡ old.marks ++ added
  pub few : length added ≤ 2

-- the first entry of a request was added where it was not there yet
pub record Led {D : Type 0} (q : Request) (old new : Running D) (answer : Reply) : Type 0 where
  pub adds : Adds old new
  pub leads : Leads old.bank old.plan q new.marks adds.added answer

-- the session of the reply is at the place of the reply
abbrev pub IsPlacedReply : Plan → List Entry → Reply → Type 0
IsPlacedReply plan H (reply.At session at fresh) = place plan H session ≡ Some at
IsPlacedReply plan H answer = ⊤

-- the problem of the session of the reply, where it waits for an item, and a vector for its search
abbrev pub IsBegunAt : Tables → Plan → List Entry → Reply → FirstAnswer → Type 0
IsBegunAt b plan H answer (Done same) = (same ≡ answer) × IsNoWait answer
IsBegunAt b plan H (reply.At session at fresh) (Waits started P warm) =
    (P.session ≡ session) × (started ≡ fresh) × IsAsked b plan H P
    × IfSome warm (FitsPlan b plan)
IsBegunAt b plan H answer (Waits started P warm) = ⊥

-- where a session is after a commit for the problem P: at this place, or it still waits for the
-- item of that step
abbrev pub IsRoundAt : Tables → Plan → List Entry → Problem → Place → Round → Type 0
IsRoundAt b plan H P at (Placed same) = (same ≡ at) × (at ≡ Pending P.step → ⊥)
IsRoundAt b plan H P at (Again next) =
    IsAsked b plan H next × (next.session ≡ P.session) × (next.step ≡ P.step)
IsRoundAt b plan H P at (Failed r) = ⊥

-- what was assembled was committed, where the session still waited for it, and nothing else
pub record Ended {D : Type 0} (made : Assembly) (old new : Running D) (round : Round) : Type 0 where
  pub adds : Adds old new
  pub ends : EndsRound old.bank old.plan made.problem new.marks adds.added round
  pub good : EndsGood old.bank old.plan old.base new.marks adds.added
  pub only : AddsOnly (IsEntryOf made) adds.added

-- what the first turn of a request does to a pass
pub record HasBegun (h : HallKnown) (old new : Known Mark) (q : Request)
    (begun : FirstAnswer) : Type 0 where
  pub places : List ℕ
  pub went : Went old new (length new.seen ∷ []) places
  pub legal : LegalRun h.bank h.plan (history new.seen)
  pub begins : IsBegun h.bank h.plan q new.seen (taken new.seen places) begun
