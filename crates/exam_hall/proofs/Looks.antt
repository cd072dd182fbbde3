-- A look at the health, from what it does to an office to what it does to a pass.
use Rattle.std.proofs.Common.{◌≡◌, ℕ, List, [], ◌∷◌, length, refl, sym, ap, ◌∙◌, subst, arith, Result, Ok, Err, IfErr}
use Rattle.std.proofs.lemmas.List.{append-nil}
use Rattle.bank_tables.specs.Tables.{Tables}
use Rattle.form_model.specs.Plan.{Plan}
use Rattle.turn_lock.specs.Passes.{Known, TakesTurn}
use Rattle.history_model.specs.declared.refusal.Refusal.{Refusal}
use Rattle.history_model.specs.declared.refusal.Refusal.TheVariants.{NoSession, OtherBooking, WrongStep, Other, BadResponse, IsClosed, Stale, OtherList, NoItem, SessionsFull, NoForm, NoneFound, JournalFull, Disk, Memory}
use Rattle.history_model.specs.Legality.{LegalRun}
use Rattle.exam_handler.specs.Handling.{IsProbeRefusal}
use Rattle.exam_handler.specs.declared.health.Health.{Health}
use Rattle.exam_office.specs.declared.mark.Mark.{Mark}
use Rattle.exam_office.specs.declared.mark.Mark.TheVariants.{Fault}
use Rattle.exam_office.specs.Health.{health, IsProbed}
use Rattle.exam_office.specs.Marks.{history}
use Rattle.exam_office.specs.Noting.{NotedMark, IsDoubtOf, noted, marks_of, opened_with}
use Rattle.exam_office.specs.Running.{Running}
use Rattle.exam_hall.specs.Known.{HallKnown, marked, IsOf}
use Rattle.exam_hall.specs.Probes.{Found, Probes, Watches, Probed, Probing, Watching}
use Rattle.exam_hall.specs.Parts.{owns}
use Rattle.exam_hall.specs.Went.{Went, taken}
use Rattle.exam_hall.proofs.Calls.{none_faulty, settled_by, settles}
use Rattle.exam_hall.proofs.Leading.{still}
use Rattle.exam_hall.proofs.Served.{here, went_here, legal_here, made_here, no_places}
use Rattle.exam_hall.proofs.Turning.{goes_on}

-- ---- what a look does to an office
module _ {D : Type 0} (old new : Running D) where
  pub found_so : (found : Health) → IsProbed old (Ok found) new → Probed old new (Ok found)
  found_so found is =
      let sound = is.finds in
      let s = settles old.marks new.marks (settled_by old.marks new.marks old.doubt sound.mended) in
      record {
        probed = is;
        adds = record { same = is.steps.same; frame = is.steps.frame; added = s.added; is = s.is; few = (let n = s.few in omega arith) };
        none = s.none;
        found = (sound.is_health, s.no_fault);
      }

  pub not_found : (refusal : Refusal) → IsDoubtOf old.marks old.doubt → IsProbed old (Err refusal) new → Probed old new (Err refusal)
  not_found Memory doubt is = record {
    probed = is;
    adds = record {
      same = is.steps.same;
      frame = is.steps.frame;
      added = [];
      is = ap (λ (o : Running D). o.marks) is.finds.0 ∙ sym (append-nil old.marks);
      few = omega arith;
    };
    none = refl;
    found = none_faulty;
  }
  not_found Disk doubt is =
      let why = is.finds in
      record {
        probed = is;
        adds = record { same = is.steps.same; frame = is.steps.frame; added = Fault why.0 ∷ []; is = why.2.mark; few = omega arith };
        none = refl;
        found = (why.0, (old.marks, why.2.mark));
      }
  not_found (JournalFull size) doubt is = absurd is.finds
  not_found (NoSession count) doubt is = absurd is.finds
  not_found OtherBooking doubt is = absurd is.finds
  not_found (WrongStep k) doubt is = absurd is.finds
  not_found (Other k) doubt is = absurd is.finds
  not_found (BadResponse k) doubt is = absurd is.finds
  not_found (IsClosed at) doubt is = absurd is.finds
  not_found (Stale at flag) doubt is = absurd is.finds
  not_found (OtherList session) doubt is = absurd is.finds
  not_found (NoItem count) doubt is = absurd is.finds
  not_found (SessionsFull count) doubt is = absurd is.finds
  not_found NoForm doubt is = absurd is.finds
  not_found NoneFound doubt is = absurd is.finds

  pub probed_so : (result : Result Health Refusal) → IsDoubtOf old.marks old.doubt → IsProbed old result new → Probed old new result
  probed_so (Ok found) doubt is = found_so found is
  probed_so (Err refusal) doubt is = not_found refusal doubt is

  -- the turn
  pub probing_made : (result : Result Health Refusal) → Probed old new result → LegalRun new.bank new.plan (history new.marks)
      → Probing (noted (opened_with old) old.marks) (noted (opened_with new) new.marks) result
  probing_made result p run = goes_on old new p.adds (λ office S T. (owns T ≡ []) × Found office.plan S T result) run (p.none, p.found)

pub watching_made : {D : Type 0} (now : Running D) (found : Health) → found ≡ health now.plan now.marks → LegalRun now.bank now.plan (history now.marks)
    → Watching (noted (opened_with now) now.marks) (noted (opened_with now) now.marks) found
watching_made now found is run = goes_on now now (still now) (λ office S T. (T ≡ []) × (found ≡ health office.plan S)) run (refl, is)

-- ---- what its turn does to a pass
module _ (h : HallKnown) (old new : Known NotedMark) (before : List NotedMark) (t : TakesTurn old new before) (is : IsOf old h) where
  pub probes_turn : (result : Result Health Refusal) → Probing before new.seen result → Probes h (marked old) (marked new) result
  probes_turn result g =
      let makes : Tables → Plan → List ℕ → List Mark → List Mark → Type 0 = λ b p s S T. (owns T ≡ []) × Found p S T result in
      let made = made_here h old new before t is makes g in
      record {
        places = here h old new before t is makes g;
        went = went_here h old new before t is makes g;
        none = made.0;
        legal = legal_here h old new before t is makes g;
        found = made.1;
      }

  pub watches_turn : (found : Health) → Watching before new.seen found → Watches h (marked old) (marked new) found
  watches_turn found g =
      let makes : Tables → Plan → List ℕ → List Mark → List Mark → Type 0 = λ b p s S T. (T ≡ []) × (found ≡ health p S) in
      let made = made_here h old new before t is makes g in
      let nowhere : here h old new before t is makes g ≡ [] = no_places h old new before t is makes g made.0 in
      record {
        went = subst (λ ps. Went (marked old) (marked new) (length (marks_of new.seen) ∷ []) ps) nowhere (went_here h old new before t is makes g);
        legal = legal_here h old new before t is makes g;
        is_health = made.1;
      }

-- ---- why it is refused
pub why_not : (plan : Plan) (S T : List Mark) (refusal : Refusal) → Found plan S T (Err refusal) → IsProbeRefusal refusal
why_not plan S T Disk is = tt
why_not plan S T Memory is = tt
why_not plan S T (JournalFull size) is = absurd is
why_not plan S T (NoSession count) is = absurd is
why_not plan S T OtherBooking is = absurd is
why_not plan S T (WrongStep k) is = absurd is
why_not plan S T (Other k) is = absurd is
why_not plan S T (BadResponse k) is = absurd is
why_not plan S T (IsClosed at) is = absurd is
why_not plan S T (Stale at flag) is = absurd is
why_not plan S T (OtherList session) is = absurd is
why_not plan S T (NoItem count) is = absurd is
why_not plan S T (SessionsFull count) is = absurd is
why_not plan S T NoForm is = absurd is
why_not plan S T NoneFound is = absurd is

pub refused_so : (h : HallKnown) (old new : Known Mark) (result : Result Health Refusal) → Probes h old new result → IfErr result IsProbeRefusal
refused_so h old new (Ok found) p = tt
refused_so h old new (Err refusal) p = why_not h.plan new.seen (taken new.seen p.places) refusal p.found
