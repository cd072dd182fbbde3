-- When a request serves the form that was assembled ahead of it.
use Rattle.std.specs.Prelude.{◌≡◌, ⊤, ℕ, ◌+◌, Bool, List, ◌++◌, Contains}
use Rattle.turn_lock.specs.Histories.{StartsWith}
use Rattle.turn_lock.specs.Passes.{Known}
use Rattle.history_model.specs.declared.entry.Entry.{Entry}
use Rattle.history_model.specs.declared.entry.Entry.TheVariants.{Served}
use Rattle.history_model.specs.declared.request.Request.{Request}
use Rattle.history_model.specs.declared.request.Request.TheVariants.{Answer}
use Rattle.branch_bound.specs.Assembled.{Assembly}
use Rattle.branch_bound.specs.declared.outcome.Outcome.TheVariants.{Found}
use Rattle.exam_office.specs.declared.mark.Mark.{Mark}
use Rattle.exam_office.specs.Ahead.{IsNextProblem}
use Rattle.exam_office.specs.Marks.{history}
use Rattle.exam_hall.specs.Known.{HallKnown}
use Rattle.exam_hall.specs.Went.{taken}
use Rattle.exam_hall.specs.Parts.{owns, IsAside, HasOther}
use Rattle.exam_hall.specs.Rounds.{IsEntryOf, AddsOnly}

-- a form was found
abbrev pub HasForm : Assembly → Type 0
HasForm made = (form : List ℕ) × (proved : Bool) × (made.outcome ≡ Found form proved)

-- an item of the session is served at this step
abbrev pub IsServingAt : ℕ → ℕ → Entry → Type 0
IsServingAt s k (Served session step item form proved nodes) = (session ≡ s) × (step ≡ k)
IsServingAt s k entry = ⊥

-- a form is ready for an answer. It was found for the problem that the session has with this
-- response after the marks `front`, with which those begin that the pass had seen before the call.
-- After them nobody but the call, whose marks are at `own`, sets eligibility aside for the session
pub record IsReady (h : HallKnown) (old new : Known Mark) (own : List ℕ)
    (session step response : ℕ) (made : Assembly) : Type 0 where
  pub own_is : new.mine ≡ old.mine ++ own
  pub front : List Mark
  pub there : StartsWith old.seen front
  pub next : IsNextProblem h.bank h.plan (history front) session response made.problem
  pub after : made.problem.step ≡ step + 1
  pub has_form : HasForm made
  pub only_own : HasOther (IsAside session) front new.seen own → ⊥

-- where a form is ready for an answer, the item that the call serves at the next step is the one of
-- this form, with its mark and the number of nodes of its tree
abbrev pub Uses : HallKnown → Known Mark → Known Mark → Request → Assembly → Type 0
Uses h old new (Answer session step response booking) made =
    (own : List ℕ) → IsReady h old new own session step response made
    → (entry : Entry) → Contains (owns (taken new.seen own)) entry
    → IsServingAt session (step + 1) entry
    → IsEntryOf made entry
Uses h old new q made = ⊤

-- ---- as a part of a request
-- each entry that the turns of a pass added passes P
abbrev pub AddsOwn : (Entry → Type 0) → Known Mark → Known Mark → Type 0
AddsOwn P old new =
    (own : List ℕ) → new.mine ≡ old.mine ++ own → AddsOnly P (taken new.seen own)

-- where a form was found, and nobody else set eligibility aside for the session, the turns added
-- the entry of the form or none
abbrev pub UsesFirst : ℕ → Known Mark → Known Mark → Assembly → Type 0
UsesFirst session old new made = (own : List ℕ) → new.mine ≡ old.mine ++ own → HasForm made
    → (HasOther (IsAside session) old.seen new.seen own → ⊥)
    → AddsOnly (IsEntryOf made) (taken new.seen own)
