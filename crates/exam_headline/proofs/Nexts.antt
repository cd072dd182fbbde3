-- The first entries of a request.
use Rattle.std.proofs.Common.{◌≡◌, ◌⊎◌, inl, inr, ℕ, ◌+◌, ◌≤◌, Bool, List, [], ◌∷◌, ◌++◌, length, refl, sym, ap, ◌∙◌, subst, arith, append_assoc, length-append, Option, Some, None}
use Rattle.std.proofs.lemmas.List.{append-nil}
use Rattle.bank_tables.specs.Tables.{Tables}
use Rattle.exam_hall.specs.Parts.{IsAside, IsServing}
use Rattle.exam_headline.specs.Requests.{AreEntriesOf, close}
use Rattle.exam_headline.proofs.Adding.{First, leads_first, is_serving, is_aside}
use Rattle.exam_office.specs.Asking.{IsBegunBy, not_begun, begun}
use Rattle.exam_program.specs.Replays.{AreDone, none as none_done, one_more as one_more_done}
use Rattle.form_model.specs.Plan.{Plan}
use Rattle.history_model.specs.declared.entry.Entry.{Entry}
use Rattle.history_model.specs.declared.entry.Entry.TheVariants.{Closed}
use Rattle.history_model.specs.declared.place.Place.{Place}
use Rattle.history_model.specs.declared.place.Place.TheVariants.{Pending}
use Rattle.history_model.specs.declared.refusal.Refusal.{Refusal}
use Rattle.history_model.specs.declared.request.Reply.{Reply}
use Rattle.history_model.specs.declared.request.Request.{Request}
use Rattle.history_model.specs.declared.request.Request.TheVariants.{Begin, BeginWithout, Answer, Close, Look, Exposure}
use Rattle.history_model.specs.Halting.{IsBeforeServing, led, set_aside, IsNextOf, first, closing, aside as next_aside, served as next_served}
use Rattle.history_model.specs.Legality.{Legal, LegalRun, more}
use Rattle.history_model.specs.Places.{place}
use Rattle.history_model.specs.Refusals.{refusal_of}
use Rattle.history_model.specs.Requests.{IsFirmServing, Serves, at_once, after_setting_aside, AdvancesFrom, IsServedBy, DoesUnrefused, DoesUnless}

pub record Begun (H : List Entry) (q : Request) (K : List Entry) : Type 0 where
  pub entries : List Entry
  pub grown : K ≡ H ++ entries
  pub are : (entries ≡ []) ⊎ AreEntriesOf K q entries

-- after the first entry, with an item set aside or not, and served or not
of_parts : (b : Tables) (plan : Plan) (H : List Entry) (q : Request) (session : ℕ) (fresh : Bool) (G K : List Entry) (aside serving : List Entry) → First b plan H q session fresh G → K ≡ G ++ (aside ++ serving)
    → ((aside ≡ []) ⊎ ((e : Entry) × (aside ≡ e ∷ []) × IsAside session e)) → ((serving ≡ []) ⊎ ((e : Entry) × (serving ≡ e ∷ []) × IsServing session e)) → Begun H q K
of_parts b plan H q session fresh G K aside serving one grown is_aside is_serving =
    let of = one.session_is K (aside ++ serving, grown) in
    record {
      entries = one.entries ++ (aside ++ serving);
      grown = grown ∙ (ap (λ (l : List Entry). l ++ (aside ++ serving)) one.grown ∙ append_assoc H one.entries (aside ++ serving));
      are = inr (record {
        first = one.entries;
        aside = aside;
        serving = serving;
        are = refl;
        one_first = one.one;
        one_aside = elim is_aside [ inl none ↦ inl none | inr some ↦ inr (some.0, some.1, (session, of, some.2)) ];
        one_serving = elim is_serving [ inl none ↦ inl none | inr some ↦ inr (some.0, some.1, (session, of, some.2)) ];
      });
    }

next_of : (b : Tables) (plan : Plan) (H : List Entry) (q : Request) (G : List Entry) (entry : Entry) → LegalRun b plan H → IsNextOf b plan H q G entry → Begun H q (G ++ entry ∷ [])
next_of b plan H q _ entry run (first session fresh _ leads) =
    of_parts b plan H q session fresh (H ++ entry ∷ []) (H ++ entry ∷ []) [] [] (leads_first b plan H q session fresh (H ++ entry ∷ []) run leads) (sym (append-nil (H ++ entry ∷ []))) (inl refl) (inl refl)
next_of b plan H q _ _ run (closing session booking asked legal) = record {
  entries = Closed session ∷ [];
  grown = refl;
  are = inr (subst (λ (r : Request). AreEntriesOf (H ++ Closed session ∷ []) r (Closed session ∷ [])) (sym asked) (record { first = Closed session ∷ []; aside = []; serving = []; are = refl; one_first = inr (Closed session, refl, close session booking); one_aside = inl refl; one_serving = inl refl }));
}
next_of b plan H q G entry run (next_aside session fresh _ _ leads setting) =
    of_parts b plan H q session fresh G (G ++ entry ∷ []) (entry ∷ []) [] (leads_first b plan H q session fresh G run leads) refl (inr (entry, refl, is_aside b plan G session entry setting)) (inl refl)
next_of b plan H q G entry run (next_served session _ _ before serving) = by G before serving
  where
    by : (G : List Entry) → IsBeforeServing b plan H q session G → IsFirmServing b plan G session entry → Begun H q (G ++ entry ∷ [])
    by G (led _ step fresh _ leads pending) serving =
        of_parts b plan H q session fresh G (G ++ entry ∷ []) [] (entry ∷ []) (leads_first b plan H q session fresh G run leads) refl (inl refl) (inr (entry, refl, is_serving b plan G session entry serving))
    by _ (set_aside _ fresh G set leads setting) serving =
        of_parts b plan H q session fresh G ((G ++ set ∷ []) ++ entry ∷ []) (set ∷ []) (entry ∷ []) (leads_first b plan H q session fresh G run leads) (append_assoc G (set ∷ []) (entry ∷ [])) (inr (set, refl, is_aside b plan G session set setting)) (inr (entry, refl, is_serving b plan (G ++ set ∷ []) session entry serving))

pub begun_entries : (b : Tables) (plan : Plan) (base : List ℕ) (H : List Entry) (q : Request) (K : List Entry) → LegalRun b plan H → IsBegunBy b plan base H q K → Begun H q K
begun_entries b plan base H q _ run not_begun = record { entries = []; grown = sym (append-nil H); are = inl refl }
begun_entries b plan base H q _ run (begun G entry next good) = next_of b plan H q G entry run next

-- ---- a history only grows, and stays legal
-- a legal history that is no shorter
pub record Longer (b : Tables) (plan : Plan) (H K : List Entry) : Type 0 where
  pub legal : LegalRun b plan K
  pub long : length H ≤ length K

same_history : (b : Tables) (plan : Plan) (H K : List Entry) → LegalRun b plan H → K ≡ H → Longer b plan H K
same_history b plan H K run same = record { legal = subst (λ (G : List Entry). LegalRun b plan G) (sym same) run; long = omega (arith, ap (λ (l : List Entry). length l) same) }

with_one : (b : Tables) (plan : Plan) (H : List Entry) (entry : Entry) → LegalRun b plan H → Legal b plan H entry → Longer b plan H (H ++ entry ∷ [])
with_one b plan H entry run legal = record { legal = more H entry run legal; long = omega (arith, length-append H (entry ∷ [])) }

longer_yet : (b : Tables) (plan : Plan) (H G K : List Entry) → length H ≤ length G → Longer b plan G K → Longer b plan H K
longer_yet b plan H G K long last = record { legal = last.legal; long = omega (arith, long, last.long) }

advances_grow : (b : Tables) (plan : Plan) (G : List Entry) (session : ℕ) (K : List Entry) (o : Option Place) → LegalRun b plan G → AdvancesFrom o b plan G session K → Longer b plan G K
advances_grow b plan G session K (Some (Pending step)) run serves = by K serves
  where
    by : (K : List Entry) → Serves b plan G session K → Longer b plan G K
    by _ (at_once entry serving) = with_one b plan G entry run serving.legal
    by _ (after_setting_aside set entry setting serving) =
        let one = with_one b plan G set run setting.legal in
        longer_yet b plan G (G ++ set ∷ []) ((G ++ set ∷ []) ++ entry ∷ []) one.long (with_one b plan (G ++ set ∷ []) entry one.legal serving.legal)
advances_grow b plan G session K o run same = same_history b plan G K run same

served_grows : (b : Tables) (plan : Plan) (H : List Entry) (q : Request) (K : List Entry) (reply : Reply) → LegalRun b plan H → IsServedBy b plan H q K reply → Longer b plan H K
served_grows b plan H q K reply run is =
    let one = leads_first b plan H q is.session is.fresh is.begun run is.leads in
    longer_yet b plan H is.begun K (omega (arith, ap (λ (l : List Entry). length l) one.grown, length-append H one.entries)) (advances_grow b plan is.begun is.session K (place plan is.begun is.session) one.legal is.advances)

unrefused_grows : (b : Tables) (plan : Plan) (H : List Entry) (q : Request) (K : List Entry) (reply : Reply) → LegalRun b plan H → DoesUnrefused b plan H q K reply → Longer b plan H K
unrefused_grows b plan H (Begin booking) K reply run is = served_grows b plan H (Begin booking) K reply run is
unrefused_grows b plan H (BeginWithout booking items) K reply run (inl is) = served_grows b plan H (BeginWithout booking items) K reply run is
unrefused_grows b plan H (BeginWithout booking items) K reply run (inr is) = same_history b plan H K run is.same
unrefused_grows b plan H (Answer session step response booking) K reply run is = served_grows b plan H (Answer session step response booking) K reply run is
unrefused_grows b plan H (Close session booking) K reply run is = subst (λ (G : List Entry). Longer b plan H G) (sym is.closed) (with_one b plan H (Closed session) run is.legal)
unrefused_grows b plan H (Look session) K reply run is = served_grows b plan H (Look session) K reply run is
unrefused_grows b plan H Exposure K reply run is = same_history b plan H K run is.same

pub does_grows : (b : Tables) (plan : Plan) (H : List Entry) (q : Request) (K : List Entry) (reply : Reply) (o : Option Refusal) → LegalRun b plan H → DoesUnless o b plan H q K reply → Longer b plan H K
does_grows b plan H q K reply (Some why) run is = same_history b plan H K run is.0
does_grows b plan H q K reply None run is = unrefused_grows b plan H q K reply run is

-- the requests of a replay
pub done_grows : (b : Tables) (plan : Plan) (H : List Entry) (done : List Request) (G : List Entry) (replies : List Reply) → LegalRun b plan H → AreDone b plan H done G replies → Longer b plan H G
done_grows b plan H _ _ _ run none_done = record { legal = run; long = omega arith }
done_grows b plan H _ _ _ run (one_more_done done G replies request K reply are does goes) =
    let before = done_grows b plan H done G replies run are in
    longer_yet b plan H G K before.long (does_grows b plan G request K reply (refusal_of b plan G request) before.legal does)
