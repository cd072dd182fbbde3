-- What a look at the health of an examination does to a pass of a shared hall.
use Rattle.std.specs.Prelude.{◌≡◌, ◌⊎◌, ℕ, List, [], ◌∷◌, length, Result, Ok, Err}
use Rattle.form_model.specs.Plan.{Plan}
use Rattle.turn_lock.specs.Passes.{Known}
use Rattle.history_model.specs.Legality.{LegalRun}
use Rattle.history_model.specs.declared.refusal.Refusal.{Refusal}
use Rattle.history_model.specs.declared.refusal.Refusal.TheVariants.{Disk, Memory}
use Rattle.exam_handler.specs.declared.health.Health.{Health}
use Rattle.exam_office.specs.declared.mark.Mark.{Mark}
use Rattle.exam_office.specs.Health.{health, IsProbed}
use Rattle.exam_office.specs.Marks.{history}
use Rattle.exam_office.specs.Noting.{NotedMark}
use Rattle.exam_office.specs.Running.{Running}
use Rattle.exam_hall.specs.Known.{HallKnown, CallerKnown, HasGrown, marked}
use Rattle.exam_hall.specs.Leading.{GoesOn}
use Rattle.exam_hall.specs.Parts.{owns, IsAfterFault, NoFault}
use Rattle.exam_hall.specs.Turns.{Adds}
use Rattle.exam_hall.specs.Went.{Went, taken}

-- what was found, by the marks S, of which T are those that the look added: the health of their
-- history; or the disk failed, and the last mark is that fault; or memory ran out
abbrev pub Found : Plan → List Mark → List Mark → Result Health Refusal → Type 0
Found plan S T (Ok found) = (found ≡ health plan S) × NoFault T
Found plan S T (Err Disk) = IsAfterFault S
Found plan S T (Err Memory) = NoFault T
Found plan S T (Err refusal) = ⊥

-- the look took one turn, and added no entry of its own
pub record Probes (h : HallKnown) (old new : Known Mark)
    (result : Result Health Refusal) : Type 0 where
  pub places : List ℕ
  pub went : Went old new (length new.seen ∷ []) places
  pub none : owns (taken new.seen places) ≡ []
  pub legal : LegalRun h.bank h.plan (history new.seen)
  pub found : Found h.plan new.seen (taken new.seen places) result

-- a look that resolves nothing took one turn, which added nothing; and this is the health then
pub record Watches (h : HallKnown) (old new : Known Mark) (found : Health) : Type 0 where
  pub went : Went old new (length new.seen ∷ []) []
  pub legal : LegalRun h.bank h.plan (history new.seen)
  pub is_health : found ≡ health h.plan new.seen

-- idle time of a caller: nothing happened, or its hall is the same, and its pass took one turn that
-- added nothing
abbrev pub Idles : CallerKnown → CallerKnown → Type 0
Idles old new =
    (new ≡ old) ⊎ ((new.hall ≡ old.hall)
    × Went (marked old.pass) (marked new.pass) (length (marked new.pass).seen ∷ []) []
    × HasGrown old.pass new.pass)

-- ---- as a part of a turn
-- an office was looked at: its entry in doubt was resolved, or was not; no entry of its own was
-- added
pub record Probed {D : Type 0} (old new : Running D) (result : Result Health Refusal)
    : Type 0 where
  pub probed : IsProbed old result new
  pub adds : Adds old new
  pub none : owns adds.added ≡ []
  pub found : Found old.plan new.marks adds.added result

-- the turn of a look
abbrev pub Probing : List NotedMark → List NotedMark → Result Health Refusal → Type 0
Probing before after result =
    GoesOn before after (λ office S T. (owns T ≡ []) × Found office.plan S T result)

-- the turn of a look that resolves nothing
abbrev pub Watching : List NotedMark → List NotedMark → Health → Type 0
Watching before after found =
    GoesOn before after (λ office S T. (T ≡ []) × (found ≡ health office.plan S))
