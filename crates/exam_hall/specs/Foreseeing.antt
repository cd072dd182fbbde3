-- What a look ahead for a session finds, and what it does to a pass.
use Rattle.std.specs.Prelude.{◌≡◌, ℕ, List, [], ◌∷◌, length, IfSome}
use Rattle.bank_tables.specs.Tables.{Tables}
use Rattle.form_model.specs.Plan.{Plan}
use Rattle.turn_lock.specs.Passes.{Known}
use Rattle.history_model.specs.declared.entry.Entry.{Entry}
use Rattle.history_model.specs.Legality.{LegalRun}
use Rattle.exam_office.specs.declared.mark.Mark.{Mark}
use Rattle.exam_office.specs.Ahead.{HasNextStep, IsNextProblem, LeadsTo}
use Rattle.exam_office.specs.Marks.{history}
use Rattle.exam_office.specs.Noting.{NotedMark}
use Rattle.exam_office.specs.Warm.{FitsPlan}
use Rattle.exam_hall.specs.declared.preparing.Ahead.{Ahead}
use Rattle.exam_hall.specs.declared.preparing.Ahead.TheVariants.{Next, NoStep}
use Rattle.exam_hall.specs.Known.{HallKnown}
use Rattle.exam_hall.specs.Leading.{GoesOn}
use Rattle.exam_hall.specs.Went.{Went}

-- the problem that the session has with the response, which is its problem whatever is done
-- meanwhile, and a vector that the search of it may begin with; or no step follows
abbrev pub Foretells : Tables → Plan → List Entry → ℕ → ℕ → Ahead → Type 0
Foretells b plan H session response (Next P warm) =
    IsNextProblem b plan H session response P × LeadsTo b plan H session response P
    × IfSome warm (FitsPlan b plan)
Foretells b plan H session response NoStep = HasNextStep b plan H session response → ⊥

-- the look took one turn, which added nothing; this is what it found then
pub record Foresees (h : HallKnown) (session response : ℕ) (old new : Known Mark)
    (found : Ahead) : Type 0 where
  pub went : Went old new (length new.seen ∷ []) []
  pub legal : LegalRun h.bank h.plan (history new.seen)
  pub foretells : Foretells h.bank h.plan (history new.seen) session response found

-- the turn of a look ahead
abbrev pub Foreseeing : ℕ → ℕ → List NotedMark → List NotedMark → Ahead → Type 0
Foreseeing session response before after found =
    GoesOn before after (λ office S T. (T ≡ [])
    × Foretells office.bank office.plan (history S) session response found)
