-- The history that a replay leads to is a legal run.
use Rattle.std.proofs.Common.{ℕ, Bool, List, [], ◌∷◌, ◌++◌, Option, Some, None, inl, inr, sym, subst}
use Rattle.bank_tables.specs.Tables.{Tables}
use Rattle.form_model.specs.Plan.{Plan}
use Rattle.history_model.specs.declared.entry.Entry.{Entry}
use Rattle.history_model.specs.declared.entry.Entry.TheVariants.{Closed}
use Rattle.history_model.specs.declared.place.Place.{Place}
use Rattle.history_model.specs.declared.place.Place.TheVariants.{Pending}
use Rattle.history_model.specs.declared.refusal.Refusal.{Refusal}
use Rattle.history_model.specs.declared.request.Reply.{Reply}
use Rattle.history_model.specs.declared.request.Request.{Request}
use Rattle.history_model.specs.declared.request.Request.TheVariants.{Begin, BeginWithout, Answer, Close, Look, Exposure}
use Rattle.history_model.specs.Legality.{LegalRun, more}
use Rattle.history_model.proofs.CompleteLaws.{complete_meets}
use Rattle.history_model.specs.Places.{place}
use Rattle.history_model.specs.Refusals.{refusal_of}
use Rattle.history_model.specs.Requests.{Begins, BeginsWithout, RecordsAnswer, Leads, by_begin, by_begin_without, by_answer, by_look, Serves, at_once, after_setting_aside, AdvancesFrom, IsServedBy, DoesUnrefused, DoesUnless}
use Rattle.history_model.proofs.ListLaws.{none_shown_of_list}
use Rattle.exam_program.specs.Laws.{CompleteSessionsMeet, CompleteServedSessionsMeet, ListsAreKept, ServedListsAreKept}
use Rattle.exam_program.specs.Replays.{AreDone, none, one_more}

-- the first entry of a request
leads_legal : (b : Tables) (plan : Plan) (H : List Entry) (request : Request) (session : ℕ) (fresh : Bool) (G : List Entry) → LegalRun b plan H → Leads b plan H request session fresh G → LegalRun b plan G
leads_legal b plan H _ session fresh G run (by_begin booking _ _ _ begins) = begun fresh G begins
  where
    begun : (fresh : Bool) (G : List Entry) → Begins b plan H booking session fresh G → LegalRun b plan G
    begun _ _ (Begins.is_there _ held) = run
    begun _ _ (Begins.is_new _ eligible held legal) = more H _ run legal
leads_legal b plan H _ session fresh G run (by_begin_without booking items _ _ _ begins) = begun fresh G begins
  where
    begun : (fresh : Bool) (G : List Entry) → BeginsWithout b plan H booking items session fresh G → LegalRun b plan G
    begun _ _ (BeginsWithout.is_there _ held) = run
    begun _ _ (BeginsWithout.is_new _ eligible list held same legal) = more H _ run legal
leads_legal b plan H _ session fresh G run (by_answer _ step response _ _ records) = recorded_so G records
  where
    recorded_so : (G : List Entry) → RecordsAnswer b plan H session step response G → LegalRun b plan G
    recorded_so _ (RecordsAnswer.is_there held) = run
    recorded_so _ (RecordsAnswer.is_new held legal) = more H _ run legal
leads_legal b plan H _ session _ _ run (by_look _) = run

-- the item that is served
serves_legal : (b : Tables) (plan : Plan) (H : List Entry) (session : ℕ) (K : List Entry) → LegalRun b plan H → Serves b plan H session K → LegalRun b plan K
serves_legal b plan H session _ run (at_once entry serving) = more H entry run serving.legal
serves_legal b plan H session _ run (after_setting_aside aside entry setting serving) = more (H ++ aside ∷ []) entry (more H aside run setting.legal) serving.legal

advances_legal : (b : Tables) (plan : Plan) (H : List Entry) (session : ℕ) (K : List Entry) (o : Option Place) → LegalRun b plan H → AdvancesFrom o b plan H session K → LegalRun b plan K
advances_legal b plan H session K (Some (Pending step)) run serves = serves_legal b plan H session K run serves
advances_legal b plan H session K o run same = subst (λ (G : List Entry). LegalRun b plan G) (sym same) run

served_legal : (b : Tables) (plan : Plan) (H : List Entry) (request : Request) (K : List Entry) (reply : Reply) → LegalRun b plan H → IsServedBy b plan H request K reply → LegalRun b plan K
served_legal b plan H request K reply run is =
    advances_legal b plan is.begun is.session K (place plan is.begun is.session) (leads_legal b plan H request is.session is.fresh is.begun run is.leads) is.advances

unrefused_legal : (b : Tables) (plan : Plan) (H : List Entry) (request : Request) (K : List Entry) (reply : Reply) → LegalRun b plan H → DoesUnrefused b plan H request K reply → LegalRun b plan K
unrefused_legal b plan H (Begin booking) K reply run is = served_legal b plan H (Begin booking) K reply run is
unrefused_legal b plan H (BeginWithout booking items) K reply run (inl is) = served_legal b plan H (BeginWithout booking items) K reply run is
unrefused_legal b plan H (BeginWithout booking items) K reply run (inr is) = subst (λ (G : List Entry). LegalRun b plan G) (sym is.same) run
unrefused_legal b plan H (Answer session step response booking) K reply run is = served_legal b plan H (Answer session step response booking) K reply run is
unrefused_legal b plan H (Close session booking) K reply run is = subst (λ (G : List Entry). LegalRun b plan G) (sym is.closed) (more H (Closed session) run is.legal)
unrefused_legal b plan H (Look session) K reply run is = served_legal b plan H (Look session) K reply run is
unrefused_legal b plan H Exposure K reply run is = subst (λ (G : List Entry). LegalRun b plan G) (sym is.same) run

does_legal : (b : Tables) (plan : Plan) (H : List Entry) (request : Request) (K : List Entry) (reply : Reply) (o : Option Refusal) → LegalRun b plan H → DoesUnless o b plan H request K reply → LegalRun b plan K
does_legal b plan H request K reply (Some refusal) run is = subst (λ (G : List Entry). LegalRun b plan G) (sym is.0) run
does_legal b plan H request K reply None run is = unrefused_legal b plan H request K reply run is

done_legal : (b : Tables) (plan : Plan) (H : List Entry) (requests : List Request) (G : List Entry) (replies : List Reply) → LegalRun b plan H → AreDone b plan H requests G replies → LegalRun b plan G
done_legal b plan H _ _ _ run none = run
done_legal b plan H _ _ _ run (one_more done G replies request K reply are does goes) =
    does_legal b plan G request K reply (refusal_of b plan G request) (done_legal b plan H done G replies run are) does

pub complete_sessions_meet : CompleteSessionsMeet
complete_sessions_meet b plan base disk script H G rest replies s some way complete =
    complete_meets b plan G s some (done_legal b plan H way.going_on.done G replies way.legal way.going_on.are_done) complete

pub complete_served_sessions_meet : CompleteServedSessionsMeet
complete_served_sessions_meet b plan base disk opened closed H s some examined complete = complete_meets b plan H s some examined.legal complete

pub lists_are_kept : ListsAreKept
lists_are_kept b plan base disk script H G rest replies s item list way e h =
    none_shown_of_list b plan G s item list (done_legal b plan H way.going_on.done G replies way.legal way.going_on.are_done) e h

pub served_lists_are_kept : ServedListsAreKept
served_lists_are_kept b plan base disk opened closed H s item list examined e h = none_shown_of_list b plan H s item list examined.legal e h
