-- What is prepared for one response, and what a desk has after it.
use Rattle.std.specs.Prelude.{◌≡◌, ◌⊎◌, ℕ, ◌+◌, List, Contains, Option, Some, None, Result, Ok, Err, IfSome}
use Rattle.lru.specs.LruCache.{lru_cache, put_entries}
use Rattle.constraint_model.specs.declared.problem.Problem.{Problem}
use Rattle.exam_hall.specs.Prepared.{IsSameProblem}
use Rattle.prepare_desk.specs.Desks.{DeskKnown, is_key}
use Rattle.prepare_desk.specs.declared.key.Key.{Key}
use Rattle.prepare_desk.specs.declared.desk.Ready.{Ready}
use Rattle.prepare_desk.specs.declared.desk.Ready.TheVariants.{Made, SameAs}
use Rattle.prepare_desk.specs.declared.next.Before.{Before}
use Rattle.prepare_desk.specs.declared.next.Next.{Next}

-- the least response in turn that leads to a problem: that of the response before, if its problem
-- is the same, else this response
abbrev pub IsLeastFor : Option Before → Problem → ℕ → ℕ → Type 0
IsLeastFor (Some b) P response least =
    (IsSameProblem b.problem P × (least ≡ b.response))
    ⊎ ((IsSameProblem b.problem P → ⊥) × (least ≡ response))
IsLeastFor None P response least = least ≡ response

-- what is ready is the result of the problem, if no response before leads to it; else the name of
-- that response
abbrev pub IsResultFor : Problem → ℕ → ℕ → Ready → Type 0
IsResultFor P least response (Made made) = (made.problem ≡ P) × (least ≡ response)
IsResultFor P least response (SameAs other) = (other ≡ least) × (least ≡ response → ⊥)

-- what is put for a response: it is for an answer with this response at the session's step, whose
-- problem is of the next step; and it is the result for that problem
pub record IsNextFor (session response : ℕ) (before : Option Before) (next : Next) : Type 0 where
  pub session_is : next.key.session ≡ session
  pub step_is : next.key.step + 1 ≡ next.before.problem.step
  pub response_is : next.key.response ≡ response
  pub same_step : IfSome before (λ b. b.problem.step ≡ next.before.problem.step)
  pub least : IsLeastFor before next.before.problem response next.before.response
  pub result : IsResultFor next.before.problem next.before.response response next.ready

-- a desk after what was prepared for a response was put on it
abbrev pub IsPutFor : ℕ → ℕ → Option Before → DeskKnown → DeskKnown → Before → Type 0
IsPutFor session response before old new now = (next : Next)
    × IsNextFor session response before next × (next.before ≡ now)
    × (new ≡ record old {
      results = put_entries is_key (lru_cache old.results old.room) next.key next.ready;
    })

-- a desk after one response: what was prepared is on it, or it is as it was
abbrev pub IsAfterOne : {E : Type 0} → ℕ → ℕ → Option Before → DeskKnown → DeskKnown
    → Result (Option Before) E → Type 0
IsAfterOne session response before old new (Ok (Some now)) =
    IsPutFor session response before old new now
IsAfterOne session response before old new (Ok None) = new ≡ old
IsAfterOne session response before old new (Err fault) = new ≡ old

-- each result on the desk was there, or is for an answer in the session
abbrev pub AddsFor : ℕ → List (Key × Ready) → List (Key × Ready) → Type 0
AddsFor session old new = (r : Key × Ready) → Contains new r
    → Contains old r ⊎ (r.0.session ≡ session)
