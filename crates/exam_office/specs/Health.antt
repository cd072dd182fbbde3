-- How an examination is, and what a look at it does to an office.
use Rattle.std.specs.Prelude.{◌≡◌, ◌-◌, List, length, Result, Ok, Err}
use Rattle.form_model.specs.Plan.{Plan}
use Rattle.history_model.specs.Counts.{finished}
use Rattle.history_model.specs.Entries.{sessions}
use Rattle.history_model.specs.declared.refusal.Refusal.{Refusal}
use Rattle.exam_handler.specs.declared.health.Health.{Health}
use Rattle.exam_office.specs.declared.mark.Mark.{Mark}
use Rattle.exam_office.specs.Asking.{IsDurable, Steps}
use Rattle.exam_office.specs.Marks.{history, reach}
use Rattle.exam_office.specs.Running.{Running}
use Rattle.exam_office.specs.Writing.{IsMended, IsOneOf, IsUnmended}

-- how the examination is, by the marks of its office
abbrev pub health : Plan → List Mark → Health
health plan marks =
    record {
      entries = length (history marks);
      sessions = sessions (history marks);
      «open» = sessions (history marks) - finished plan (history marks);
      sessions_left = plan.sessions - sessions (history marks);
      length = reach marks;
      room = plan.journal - reach marks;
    }

-- the entry in doubt, if there was one, is resolved, the history is durable, and this is its
-- health
pub record IsSound {D : Type 0} (old new : Running D) (found : Health) : Type 0 where
  pub mended : IsMended old.marks old.doubt new.marks
  pub durable : IsDurable old.bank old.plan new
  pub is_health : found ≡ health old.plan new.marks

-- what was found; or why the entry in doubt was not resolved
abbrev pub Finds : {D : Type 0} → Running D → Running D → Result Health Refusal → Type 0
Finds old new (Ok found) = IsSound old new found
Finds old new (Err refusal) = IsUnmended old new refusal

-- what a look at the health does to an office: at each moment each file that a crash may leave
-- represents its history, or that with the entry in doubt
pub record IsProbed {D : Type 0} (old : Running D) (result : Result Health Refusal)
    (new : Running D) : Type 0 where
  pub finds : Finds old new result
  pub steps : Steps (IsOneOf (history old.marks) old.doubt) old new
