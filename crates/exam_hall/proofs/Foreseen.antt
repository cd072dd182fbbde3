-- A look ahead, from what it finds in an office to what it does to a pass.
use Rattle.std.proofs.Common.{◌≡◌, ℕ, List, [], ◌∷◌, length, refl, subst}
use Rattle.bank_tables.specs.Tables.{Tables}
use Rattle.form_model.specs.Plan.{Plan}
use Rattle.turn_lock.specs.Passes.{Known, TakesTurn}
use Rattle.history_model.specs.Legality.{LegalRun}
use Rattle.exam_office.specs.declared.mark.Mark.{Mark}
use Rattle.exam_office.specs.Marks.{history}
use Rattle.exam_office.specs.Noting.{NotedMark, noted, marks_of, opened_with}
use Rattle.exam_office.specs.Running.{Running}
use Rattle.exam_hall.specs.declared.preparing.Ahead.{Ahead}
use Rattle.exam_hall.specs.Foreseeing.{Foretells, Foresees, Foreseeing}
use Rattle.exam_hall.specs.Known.{HallKnown, marked, IsOf}
use Rattle.exam_hall.specs.Went.{Went}
use Rattle.exam_hall.proofs.Leading.{still}
use Rattle.exam_hall.proofs.Served.{here, went_here, legal_here, made_here, no_places}
use Rattle.exam_hall.proofs.Turning.{goes_on}

pub foreseeing_made : {D : Type 0} (now : Running D) (session response : ℕ) (found : Ahead) → Foretells now.bank now.plan (history now.marks) session response found → LegalRun now.bank now.plan (history now.marks)
    → Foreseeing session response (noted (opened_with now) now.marks) (noted (opened_with now) now.marks) found
foreseeing_made now session response found is run = goes_on now now (still now) (λ office S T. (T ≡ []) × Foretells office.bank office.plan (history S) session response found) run (refl, is)

-- what its turn does to a pass
pub foresees_turn : (h : HallKnown) (session response : ℕ) (old new : Known NotedMark) (before : List NotedMark) (t : TakesTurn old new before) → IsOf old h → (found : Ahead) → Foreseeing session response before new.seen found
    → Foresees h session response (marked old) (marked new) found
foresees_turn h session response old new before t is found g =
    let makes : Tables → Plan → List ℕ → List Mark → List Mark → Type 0 = λ b p s S T. (T ≡ []) × Foretells b p (history S) session response found in
    let made = made_here h old new before t is makes g in
    let nowhere : here h old new before t is makes g ≡ [] = no_places h old new before t is makes g made.0 in
    record {
      went = subst (λ ps. Went (marked old) (marked new) (length (marks_of new.seen) ∷ []) ps) nowhere (went_here h old new before t is makes g);
      legal = legal_here h old new before t is makes g;
      foretells = made.1;
    }
