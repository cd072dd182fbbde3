-- What the assemblies of a request and their commits do.
use Rattle.std.specs.Prelude.{◌≡◌, ◌≢◌, ◌⊎◌, ℕ, ◌-◌, ◌≤◌, List, [], ◌++◌, length, Contains, Result, Ok, Err, Some}
use Rattle.bank_tables.specs.Items.{has}
use Rattle.bank_tables.specs.Tables.{Tables}
use Rattle.form_model.specs.Plan.{Plan}
use Rattle.turn_lock.specs.Histories.{places}
use Rattle.turn_lock.specs.Passes.{Known}
use Rattle.constraint_model.specs.declared.problem.Problem.{Problem}
use Rattle.constraint_model.specs.Views.{problem_of}
use Rattle.history_model.specs.declared.entry.Entry.{Entry}
use Rattle.history_model.specs.declared.entry.Entry.TheVariants.{SetAside, Served}
use Rattle.history_model.specs.declared.place.Place.{Place}
use Rattle.history_model.specs.declared.place.Place.TheVariants.{Pending}
use Rattle.history_model.specs.declared.refusal.Refusal.{Refusal}
use Rattle.history_model.specs.Legality.{LegalRun}
use Rattle.history_model.specs.Places.{place}
use Rattle.history_model.specs.SessionProblems.{IsProblemOf}
use Rattle.branch_bound.specs.Assembled.{Assembly}
use Rattle.branch_bound.specs.Assemblies.{IsFirmOutcome, IsNoWorseThan}
use Rattle.exam_office.specs.Commits.{IsEntryFor, MayBeCommitted}
use Rattle.exam_office.specs.declared.mark.Mark.{Mark}
use Rattle.exam_office.specs.Marks.{history}
use Rattle.exam_office.specs.Noting.{NotedMark, marks_of}
use Rattle.exam_hall.specs.Known.{HallKnown}
use Rattle.exam_hall.specs.Went.{Went, taken}
use Rattle.exam_hall.specs.Good.{AreGoodAt}
use Rattle.exam_hall.specs.Parts.{owns, NoFault, AtMostOne, IsAside, IsServing, IsAfterFault, OwesItem, IsCommitted, Fails, MovedOn}
use Rattle.exam_hall.specs.Leading.{IsAsked, GoesOn}
use Rattle.exam_hall.specs.declared.committing.Round.{Round}
use Rattle.exam_hall.specs.declared.committing.Round.TheVariants.{Placed, Again, Failed}

-- the problem was that of its session at a beginning of the history
pub record WasAsked (b : Tables) (plan : Plan) (H : List Entry) (P : Problem) : Type 0 where
  pub before : List Entry
  pub since : List Entry
  pub is : H ≡ before ++ since
  pub asked : IsProblemOf b plan before P.session P.step (problem_of P)

-- a form that was found is firm, and no worse than the problem's start and the base
pub record IsGoodFor (base : List ℕ) (made : Assembly) : Type 0 where
  pub firm : IsFirmOutcome (problem_of made.problem) made.outcome
  pub start : IsNoWorseThan (problem_of made.problem) (problem_of made.problem).start made.outcome
  pub hint : IsNoWorseThan (problem_of made.problem) (Some (has base)) made.outcome

-- what was assembled may be committed to an office with these marks, and is good for its base
pub record IsCommittable (seen : List NotedMark) (made : Assembly) : Type 0 where
  pub one : NotedMark
  pub there : Contains seen one
  pub may : MayBeCommitted one.office.bank one.office.plan one.office.base
      (history (marks_of seen)) made
  pub good : IsGoodFor one.office.base made

-- the entry is the one that is made of the outcome of what was assembled
abbrev pub IsEntryOf : Assembly → Entry → Type 0
IsEntryOf made entry =
    IsEntryFor (problem_of made.problem) (length made.tree.nodes) made.outcome entry

-- an item is served at this step, or eligibility is set aside there
abbrev pub IsOfStep : ℕ → Entry → Type 0
IsOfStep k (SetAside session step band cause nodes) = step ≡ k
IsOfStep k (Served session step item form proved nodes) = step ≡ k
IsOfStep k entry = ⊥

-- the own entries among the marks T pass P
abbrev pub AddsOnly : (Entry → Type 0) → List Mark → Type 0
AddsOnly P T = (entry : Entry) → Contains (owns T) entry → P entry

-- the session of the problem is at this place. At most its item was served; if it waits for an
-- item, then that of another step
pub record IsPlaced (plan : Plan) (P : Problem) (S T : List Mark) (at : Place) : Type 0 where
  pub stands : place plan (history S) P.session ≡ Some at
  pub one : AtMostOne (IsServing P.session) (owns T)
  pub no_fault : NoFault T
  pub other : (step : ℕ) → at ≡ Pending step → (step ≢ P.step) × (owns T ≡ [])

-- the session still waits for the item of that step, now with eligibility set aside or not, as it
-- was not before
pub record IsAgain (b : Tables) (plan : Plan) (P : Problem) (S T : List Mark)
    (next : Problem) : Type 0 where
  pub asked : IsAsked b plan (history S) next
  pub session : next.session ≡ P.session
  pub step : next.step ≡ P.step
  pub aside : next.aside ≢ P.aside
  pub one : AtMostOne (IsAside P.session) (owns T)
  pub no_fault : NoFault T

abbrev pub EndsRound : Tables → Plan → Problem → List Mark → List Mark → Round → Type 0
EndsRound b plan P S T (Placed at) = IsPlaced plan P S T at
EndsRound b plan P S T (Again next) = IsAgain b plan P S T next
EndsRound b plan P S T (Failed r) = Fails b plan (IsCommitted P.session) S T r × (owns T ≡ [])
    × (IsAfterFault S ⊎ (place plan (history S) P.session ≡ Some (Pending P.step)))

-- the last marks of S, as many as T has, are good
abbrev pub EndsGood : Tables → Plan → List ℕ → List Mark → List Mark → Type 0
EndsGood b plan base S T = AreGoodAt b plan base S (places (length S - length T) (length T))

-- the turn of a commit
abbrev pub Commits : Assembly → List NotedMark → List NotedMark → Round → Type 0
Commits made before after round =
    GoesOn before after (λ office S T. EndsRound office.bank office.plan made.problem S T round
    × EndsGood office.bank office.plan office.base S T × AddsOnly (IsEntryOf made) T)

-- one assembly with its commit, in at most one turn
pub record Rounds (h : HallKnown) (P : Problem) (old new : Known Mark)
    (round : Round) : Type 0 where
  pub places : List ℕ
  pub fronts : List ℕ
  pub went : Went old new fronts places
  pub few : length fronts ≤ 1
  pub legal : LegalRun h.bank h.plan (history new.seen)
  pub ends : EndsRound h.bank h.plan P new.seen (taken new.seen places) round
  pub of_step : AddsOnly (IsOfStep P.step) (taken new.seen places)
  pub good : AreGoodAt h.bank h.plan h.base new.seen places

-- the session is at this place; at most eligibility was set aside, and then an item served
pub record IsServedAt (plan : Plan) (session : ℕ) (F S T : List Mark) (places : List ℕ)
    (at : Place) : Type 0 where
  pub stands : place plan (history S) session ≡ Some at
  pub aside : List Entry
  pub serving : List Entry
  pub is : owns T ≡ aside ++ serving
  pub one_aside : AtMostOne (IsAside session) aside
  pub one_serving : AtMostOne (IsServing session) serving
  pub moved : (step : ℕ) → at ≡ Pending step → MovedOn session F S places
  pub no_fault : NoFault T

abbrev pub Serves : Tables → Plan → ℕ → List Mark → List Mark → List Mark → List ℕ
    → Result Place Refusal → Type 0
Serves b plan session F S T places (Ok at) = IsServedAt plan session F S T places at
Serves b plan session F S T places (Err r) =
    Fails b plan (IsCommitted session) S T r × AtMostOne (IsAside session) (owns T)
    × OwesItem plan F S session

-- at most two assemblies with their commits, the first for a problem of the history that the pass
-- had seen
pub record Assembles (h : HallKnown) (session : ℕ) (old new : Known Mark)
    (result : Result Place Refusal) : Type 0 where
  pub places : List ℕ
  pub fronts : List ℕ
  pub went : Went old new fronts places
  pub few : length fronts ≤ 2
  pub legal : LegalRun h.bank h.plan (history new.seen)
  pub serves : Serves h.bank h.plan session old.seen new.seen (taken new.seen places) places result
  pub good : AreGoodAt h.bank h.plan h.base new.seen places
