-- What a request of a replay adds, and what its reply tells.
use Rattle.std.proofs.Common.{◌≡◌, ℕ, zero, suc, ◌+◌, ◌≤◌, ◌⊎◌, inl, inr, Bool, true, false, cond, ◌||◌, ◌==◌, List, [], ◌∷◌, ◌++◌, length, Option, Some, None, refl, sym, ap, ◌∙◌, subst, arith, Contains, slice_get, filter_map, append_assoc, length-append}
use Rattle.std.specs.List.{cons_option, list_any}
use Rattle.std.specs.Prelude.{nat_eq}
use Rattle.std.specs.Cmp.Lexicographic.{pointwise}
use Rattle.std.specs.Option.{option_map}
use Rattle.std.proofs.lemmas.Bool.{eqb-true}
use Rattle.std.proofs.lemmas.Bool.Decides.{Decides-eqb}
use Rattle.std.proofs.lemmas.Slice.Eq.{slice_eq-Decides}
use Rattle.std.proofs.lemmas.List.{append-nil}
use Rattle.std.proofs.lemmas.List.Elements.{Contains-push, Contains-append_left, Contains-append_cases}
use Rattle.std.proofs.lemmas.List.Folds.{list_any-append}
use Rattle.bank_tables.specs.Items.{Set, has}
use Rattle.bank_tables.specs.Tables.{Tables}
use Rattle.exam_hall.proofs.Leading.{recorded_there}
use Rattle.exam_hall.specs.Parts.{AtMostOne, IsAside, IsServing}
use Rattle.exam_headline.specs.Requests.{IsFirstOf, start, start_without, answer as first_answer, close, IsSessionOf, started, started_without, answered, closed, looked, AreEntriesOf, IsWellServed, IsWellAside, IsWell, AreWell, Tells, place as tells_place, counts as tells_counts, refused, IsAsAsked}
use Rattle.exam_office.specs.Asking.{IsNoLessThan, IsGoodServing, IsGoodAside, IsGoodCause, IsGood}
use Rattle.form_model.specs.Forms.{Form, Firm}
use Rattle.form_model.specs.Plan.{Plan}
use Rattle.form_model.specs.Problem.{Problem}
use Rattle.serving_model.specs.Seats.{seat_problem}
use Rattle.headline_model.specs.Forms.{information}
use Rattle.headline_model.specs.Sessions.{seat_after}
use Rattle.headline_model.proofs.Counted.{over_is, counts_is}
use Rattle.headline_model.proofs.FormsOf.{form_is}
use Rattle.headline_model.proofs.Seats.{place_of_seat, seat_is, started as number_of}
use Rattle.headline_model.proofs.Told.{problem_is, to_serve}
use Rattle.history_model.specs.declared.counts.Counts.{Counts}
use Rattle.history_model.specs.declared.entry.Bands.{Bands}
use Rattle.history_model.specs.declared.entry.Cause.{Cause}
use Rattle.history_model.specs.declared.entry.Cause.TheVariants.{NoForm, Spent}
use Rattle.history_model.specs.declared.entry.Entry.{Entry}
use Rattle.history_model.specs.declared.entry.Entry.TheVariants.{Started, SetAside, Served, Answered, Closed}
use Rattle.history_model.specs.declared.entry.Without.{Without}
use Rattle.history_model.specs.declared.place.Place.{Place}
use Rattle.history_model.specs.declared.place.Place.TheVariants.{Pending}
use Rattle.history_model.specs.declared.refusal.Refusal.{Refusal}
use Rattle.history_model.specs.declared.request.Reply.{Reply}
use Rattle.history_model.specs.declared.request.Reply.TheVariants as reply
use Rattle.history_model.specs.declared.request.Request.{Request}
use Rattle.history_model.specs.declared.request.Request.TheVariants.{Begin, BeginWithout, Answer, Close, Look, Exposure}
use Rattle.history_model.specs.Counts.{finished, counts}
use Rattle.history_model.specs.Entries.{starts, holder, holder_of, list_of}
use Rattle.history_model.specs.Legality.{LegalRun, more}
use Rattle.history_model.specs.Places.{place}
use Rattle.history_model.specs.Refusals.{refusal_of, has_list}
use Rattle.history_model.specs.Requests.{Begins, BeginsWithout, RecordsAnswer, Leads, by_begin, by_begin_without, by_answer, by_look, IsFirmServing, IsSettingAside, Serves, at_once, after_setting_aside, AdvancesFrom, IsServedBy, IsClosedBy, IsExposedBy, DoesUnrefused, DoesUnless, Does}
use Rattle.history_model.specs.SessionProblems.{IsProblemOf}
use Rattle.history_model.proofs.JudgingLaws.{one_problem}
use Rattle.history_model.proofs.NamedSessions.{named_has_booking}
use Rattle.history_model.proofs.RequestLists.{place_has_list}
use Rattle.serving_model.specs.declared.seat.Seat.{Seat}

-- ---- entries that are there
later_one : (x e : Entry) (H : List Entry) → Contains H e → Contains (x ∷ H) e
later_one x e H c = (let lt = c.1 in (suc c.0, omega arith, c.2))

pub record HasStart (H : List Entry) (booking s : ℕ) : Type 0 where
  pub eligible : Bands
  pub without : Option Without
  pub there : Contains H (Started s booking eligible without)

later_start : (x : Entry) (H : List Entry) (booking s : ℕ) → HasStart H booking s → HasStart (x ∷ H) booking s
later_start x H booking s h = record { eligible = h.eligible; without = h.without; there = later_one x (Started s booking h.eligible h.without) H h.there }

pub holder_there : (H : List Entry) (booking s : ℕ) → holder H booking ≡ Some s → HasStart H booking s
holder_there [] booking s e = absurd (cc)
holder_there (SetAside session step band cause nodes ∷ H) booking s e = later_start (SetAside session step band cause nodes) H booking s (holder_there H booking s e)
holder_there (Served session step item form proved nodes ∷ H) booking s e = later_start (Served session step item form proved nodes) H booking s (holder_there H booking s e)
holder_there (Answered session step response ∷ H) booking s e = later_start (Answered session step response) H booking s (holder_there H booking s e)
holder_there (Closed session ∷ H) booking s e = later_start (Closed session) H booking s (holder_there H booking s e)
holder_there (Started session other eligible without ∷ H) booking s e = by (other == booking) refl (λ f. holder_there H booking s f) e
  where
    by : (t : Bool) → (other == booking) ≡ t → (holder H booking ≡ Some s → HasStart H booking s) → slice_get (cons_option (cond t (Some session) None) (filter_map (holder_of booking) H)) 0 ≡ Some s → HasStart (Started session other eligible without ∷ H) booking s
    by true is ih f =
        let this : session ≡ s = cc in
        let same : other ≡ booking = eqb-true other booking is in
        record { eligible = eligible; without = without; there = (0, omega arith, ap (λ n. Started n other eligible without) this ∙ ap (λ n. Started s n eligible without) same) }
    by false is ih f = later_start (Started session other eligible without) H booking s (ih f)

pub kept : (G K : List Entry) (e : Entry) → ((rest : List Entry) × (K ≡ G ++ rest)) → Contains G e → Contains K e
kept G K e longer c = subst (λ (l : List Entry). Contains l e) (sym longer.1) (Contains-append_left G longer.0 e c)

-- ---- the first entry
pub record First (b : Tables) (plan : Plan) (H : List Entry) (q : Request) (session : ℕ) (fresh : Bool) (G : List Entry) : Type 0 where
  pub legal : LegalRun b plan G
  pub entries : List Entry
  pub grown : G ≡ H ++ entries
  pub one : AtMostOne (IsFirstOf q) entries
  pub fresh_is : fresh ≡ list_any starts entries
  pub session_is : (K : List Entry) → ((rest : List Entry) × (K ≡ G ++ rest)) → IsSessionOf K q session

no_first : (b : Tables) (plan : Plan) (H : List Entry) (q : Request) (session : ℕ) → LegalRun b plan H → ((K : List Entry) → ((rest : List Entry) × (K ≡ H ++ rest)) → IsSessionOf K q session) → First b plan H q session false H
no_first b plan H q session run is = record { legal = run; entries = []; grown = sym (append-nil H); one = inl refl; fresh_is = refl; session_is = is }

pub leads_first : (b : Tables) (plan : Plan) (H : List Entry) (q : Request) (session : ℕ) (fresh : Bool) (G : List Entry) → LegalRun b plan H → Leads b plan H q session fresh G → First b plan H q session fresh G
leads_first b plan H _ session fresh G run (by_begin booking _ _ _ begins) = begun fresh G begins
  where
    begun : (fresh : Bool) (G : List Entry) → Begins b plan H booking session fresh G → First b plan H (Begin booking) session fresh G
    begun _ _ (Begins.is_there _ held) =
        let h = holder_there H booking session held in
        no_first b plan H (Begin booking) session run (λ K longer. started booking session h.eligible h.without (kept H K (Started session booking h.eligible h.without) longer h.there))
    begun _ _ (Begins.is_new _ eligible held legal) = record {
      legal = more H (Started session booking eligible None) run legal;
      entries = Started session booking eligible None ∷ [];
      grown = refl;
      one = inr (Started session booking eligible None, refl, start booking session eligible);
      fresh_is = refl;
      session_is = λ K longer. started booking session eligible None (kept (H ++ Started session booking eligible None ∷ []) K (Started session booking eligible None) longer (Contains-push H (Started session booking eligible None)));
    }
leads_first b plan H _ session fresh G run (by_begin_without booking items _ _ _ begins) = begun fresh G begins
  where
    begun : (fresh : Bool) (G : List Entry) → BeginsWithout b plan H booking items session fresh G → First b plan H (BeginWithout booking items) session fresh G
    begun _ _ (BeginsWithout.is_there _ held) =
        let h = holder_there H booking session held in
        no_first b plan H (BeginWithout booking items) session run (λ K longer. started_without booking session h.eligible h.without items (kept H K (Started session booking h.eligible h.without) longer h.there))
    begun _ _ (BeginsWithout.is_new _ eligible list held same legal) = record {
      legal = more H (Started session booking eligible (Some list)) run legal;
      entries = Started session booking eligible (Some list) ∷ [];
      grown = refl;
      one = inr (Started session booking eligible (Some list), refl, subst (λ (it : List ℕ). IsFirstOf (BeginWithout booking it) (Started session booking eligible (Some list))) same (start_without booking session eligible list));
      fresh_is = refl;
      session_is = λ K longer. started_without booking session eligible (Some list) items (kept (H ++ Started session booking eligible (Some list) ∷ []) K (Started session booking eligible (Some list)) longer (Contains-push H (Started session booking eligible (Some list))));
    }
leads_first b plan H _ session fresh G run (by_answer _ step response booking _ records) = recorded_so G records
  where
    recorded_so : (G : List Entry) → RecordsAnswer b plan H session step response G → First b plan H (Answer session step response booking) session false G
    recorded_so _ (RecordsAnswer.is_there held) =
        no_first b plan H (Answer session step response booking) session run (λ K longer. answered session step response booking (kept H K (Answered session step response) longer (recorded_there b plan H session step response run held)))
    recorded_so _ (RecordsAnswer.is_new held legal) = record {
      legal = more H (Answered session step response) run legal;
      entries = Answered session step response ∷ [];
      grown = refl;
      one = inr (Answered session step response, refl, first_answer session step response booking);
      fresh_is = refl;
      session_is = λ K longer. answered session step response booking (kept (H ++ Answered session step response ∷ []) K (Answered session step response) longer (Contains-push H (Answered session step response)));
    }
leads_first b plan H _ session _ _ run (by_look _) = no_first b plan H (Look session) session run (λ K longer. looked session)

-- ---- how good an item's entry is
module _ (b : Tables) (plan : Plan) (base : List ℕ) (H : List Entry) (run : LegalRun b plan H) where
  pub served_well : (session step : ℕ) (form : List ℕ) (P : Problem) → IsProblemOf b plan H session step P → Firm P (has form) → IsGoodServing b plan base H session step form → IsWellServed b plan base H session step (has form)
  served_well session step form P is firm good =
      let same = one_problem b plan H session step good.problem P good.is_problem is in
      let at = problem_is b plan H run session step P is in
      let firm_now = subst (λ (Q : Problem). Firm Q (has form)) at firm in
      let base_now = subst (λ (Q : Problem). IsNoLessThan Q (has base) (has form)) (same ∙ at) good.base_is in
      let start_now = subst (λ (Q : Problem). (X : Set) → Q.start ≡ Some X → IsNoLessThan Q X (has form)) (same ∙ at) good.start in
      record {
        theta = is.of_seat.theta;
        to_serve = to_serve b plan H run session step P is;
        exchanges = λ X held one. firm_now.exchanges X (form_is b plan session (seat_after H session) is.of_seat.theta X held) one;
        no_less = λ words which held.
            let form_now = form_is b plan session (seat_after H session) is.of_seat.theta (has words) held in
            elim which [
              | inl same_base ↦ subst (λ (ws : List ℕ). Form (seat_problem b plan session (seat_after H session) is.of_seat.theta) (has ws) → information b is.of_seat.theta (has ws) ≤ information b is.of_seat.theta (has form)) (sym same_base) base_now form_now
              | inr before ↦ start_now (has words) (ap (option_map has) before) form_now
            ];
      }

  pub aside_well : (session step : ℕ) → IsGoodAside b plan base H session step → IsWellAside b plan base H session step
  aside_well session step good =
      let P = good.problem in
      let is = good.is_problem in
      let at = problem_is b plan H run session step P is in
      let base_now = subst (λ (Q : Problem). Form Q (has base) → ⊥) at good.no_base in
      let start_now = subst (λ (Q : Problem). (X : Set) → Q.start ≡ Some X → Form Q X → ⊥) at good.no_start in
      record {
        theta = is.of_seat.theta;
        to_serve = to_serve b plan H run session step P is;
        neither = λ words which held.
            let form_now = form_is b plan session (seat_after H session) is.of_seat.theta (has words) held in
            elim which [
              | inl same_base ↦ subst (λ (ws : List ℕ). Form (seat_problem b plan session (seat_after H session) is.of_seat.theta) (has ws) → ⊥) (sym same_base) base_now form_now
              | inr before ↦ start_now (has words) (ap (option_map has) before) form_now
            ];
      }

  pub serving_well : (session : ℕ) (entry : Entry) → IsFirmServing b plan H session entry → IsGood b plan base H entry → IsWell b plan base H entry
  serving_well session entry serving good =
      subst (λ (e : Entry). IsWell b plan base H e) (sym serving.is)
      (served_well session serving.step serving.form serving.problem serving.is_problem serving.firm (subst (λ (e : Entry). IsGood b plan base H e) serving.is good))

  setting_well : (session : ℕ) (entry : Entry) → IsSettingAside b plan H session entry → IsGood b plan base H entry → IsWell b plan base H entry
  setting_well session entry setting good =
      subst (λ (e : Entry). IsWell b plan base H e) (sym setting.is) (by setting.cause (subst (λ (e : Entry). IsGood b plan base H e) setting.is good))
    where
      by : (cause : Cause) → IsGoodCause b plan base H session setting.step cause → IsWell b plan base H (SetAside session setting.step setting.band cause setting.nodes)
      by NoForm g = tt
      by Spent g = aside_well session setting.step g

first_well : (b : Tables) (plan : Plan) (base : List ℕ) (H : List Entry) (q : Request) (entry : Entry) → IsFirstOf q entry → IsWell b plan base H entry
first_well b plan base H _ _ (start booking session eligible) = tt
first_well b plan base H _ _ (start_without booking session eligible list) = tt
first_well b plan base H _ _ (first_answer session step response booking) = tt
first_well b plan base H _ _ (close session booking) = tt

-- ---- the item that is served
-- each entry from G to K is good
abbrev AreGoodFrom : Tables → Plan → List ℕ → List Entry → List Entry → Type 0
AreGoodFrom b plan base G K = (before : List Entry) (entry : Entry) (behind : List Entry) → K ≡ before ++ entry ∷ behind → length G ≤ length before → IsGood b plan base before entry

only_one : (x e : Entry) → Contains (x ∷ []) e → e ≡ x
only_one x e (zero, below, at) = sym at
only_one x e (suc k, below, at) = absurd (omega arith)

none_there : (e : Entry) → Contains [] e → ⊥
none_there e (k, below, at) = omega arith

one_of_two : (x y e : Entry) → Contains (x ∷ y ∷ []) e → (e ≡ x) ⊎ (e ≡ y)
one_of_two x y e (zero, below, at) = inl (sym at)
one_of_two x y e (suc zero, below, at) = inr (sym at)
one_of_two x y e (suc (suc k), below, at) = absurd (omega arith)

pub record Rest (b : Tables) (plan : Plan) (base : List ℕ) (G : List Entry) (session : ℕ) (K : List Entry) : Type 0 where
  pub aside : List Entry
  pub serving : List Entry
  pub grown : K ≡ G ++ (aside ++ serving)
  pub one_aside : AtMostOne (IsAside session) aside
  pub one_serving : AtMostOne (IsServing session) serving
  pub well : AreWell b plan base K (aside ++ serving)

pub is_serving : (b : Tables) (plan : Plan) (G : List Entry) (session : ℕ) (entry : Entry) → IsFirmServing b plan G session entry → IsServing session entry
is_serving b plan G session entry serving = subst (λ (e : Entry). IsServing session e) (sym serving.is) refl

pub is_aside : (b : Tables) (plan : Plan) (G : List Entry) (session : ℕ) (entry : Entry) → IsSettingAside b plan G session entry → IsAside session entry
is_aside b plan G session entry setting = subst (λ (e : Entry). IsAside session e) (sym setting.is) refl

rest_of : (b : Tables) (plan : Plan) (base : List ℕ) (G : List Entry) (session : ℕ) (K : List Entry) → LegalRun b plan G → Serves b plan G session K → AreGoodFrom b plan base G K → Rest b plan base G session K
rest_of b plan base G session _ run (at_once entry serving) good = record {
  aside = [];
  serving = entry ∷ [];
  grown = refl;
  one_aside = inl refl;
  one_serving = inr (entry, refl, is_serving b plan G session entry serving);
  well = λ e there.
      let same = only_one entry e there in
      (G, [], ap (λ (x : Entry). G ++ x ∷ []) (sym same), subst (λ (x : Entry). IsWell b plan base G x) (sym same) (serving_well b plan base G run session entry serving (good G entry [] refl (omega arith))));
}
rest_of b plan base G session _ run (after_setting_aside aside entry setting serving) good =
    let regroup : (G ++ aside ∷ []) ++ entry ∷ [] ≡ G ++ (aside ∷ entry ∷ []) = append_assoc G (aside ∷ []) (entry ∷ []) in
    let longer : length G ≤ length (G ++ aside ∷ []) = omega (arith, length-append G (aside ∷ [])) in
    record {
      aside = aside ∷ [];
      serving = entry ∷ [];
      grown = regroup;
      one_aside = inr (aside, refl, is_aside b plan G session aside setting);
      one_serving = inr (entry, refl, is_serving b plan (G ++ aside ∷ []) session entry serving);
      well = λ e there.
          elim (one_of_two aside entry e there) [
            | inl same ↦ (
              G,
              entry ∷ [],
              regroup ∙ ap (λ (x : Entry). G ++ (x ∷ entry ∷ [])) (sym same),
              subst (λ (x : Entry). IsWell b plan base G x) (sym same) (setting_well b plan base G run session aside setting (good G aside (entry ∷ []) regroup (omega arith))),
            )
            | inr same ↦ (
              G ++ aside ∷ [],
              [],
              ap (λ (x : Entry). (G ++ aside ∷ []) ++ x ∷ []) (sym same),
              subst (λ (x : Entry). IsWell b plan base (G ++ aside ∷ []) x) (sym same)
                  (serving_well b plan base (G ++ aside ∷ []) (more G aside run setting.legal) session entry serving (good (G ++ aside ∷ []) entry [] refl longer)),
            )
          ];
    }

no_rest : (b : Tables) (plan : Plan) (base : List ℕ) (G : List Entry) (session : ℕ) (K : List Entry) → K ≡ G → Rest b plan base G session K
no_rest b plan base G session K same = record {
  aside = [];
  serving = [];
  grown = same ∙ sym (append-nil G);
  one_aside = inl refl;
  one_serving = inl refl;
  well = λ e there. absurd (none_there e there);
}

advances_rest : (b : Tables) (plan : Plan) (base : List ℕ) (G : List Entry) (session : ℕ) (K : List Entry) (o : Option Place) → LegalRun b plan G → AdvancesFrom o b plan G session K → AreGoodFrom b plan base G K → Rest b plan base G session K
advances_rest b plan base G session K (Some (Pending step)) run serves good = rest_of b plan base G session K run serves good
advances_rest b plan base G session K o run same good = no_rest b plan base G session K same

-- ---- the whole request
-- what a request added, and what its reply tells
pub record Added (b : Tables) (plan : Plan) (base : List ℕ) (H : List Entry) (q : Request) (K : List Entry) (answer : Reply) : Type 0 where
  pub entries : List Entry
  pub grown : K ≡ H ++ entries
  pub are : AreEntriesOf K q entries
  pub well : AreWell b plan base K entries
  pub tells : Tells b plan q K entries answer

no_starts_aside : (s : ℕ) (xs : List Entry) → AtMostOne (IsAside s) xs → list_any starts xs ≡ false
no_starts_aside s xs (inl none) = ap (λ (l : List Entry). list_any starts l) none
no_starts_aside s xs (inr (x, is, aside)) = ap (λ (l : List Entry). list_any starts l) is ∙ by x aside
  where
    by : (y : Entry) → IsAside s y → list_any starts (y ∷ []) ≡ false
    by (Started session booking eligible without) h = absurd h
    by (SetAside session step band cause nodes) h = refl
    by (Served session step item form proved nodes) h = refl
    by (Answered session step response) h = refl
    by (Closed session) h = refl

no_starts_serving : (s : ℕ) (xs : List Entry) → AtMostOne (IsServing s) xs → list_any starts xs ≡ false
no_starts_serving s xs (inl none) = ap (λ (l : List Entry). list_any starts l) none
no_starts_serving s xs (inr (x, is, serving)) = ap (λ (l : List Entry). list_any starts l) is ∙ by x serving
  where
    by : (y : Entry) → IsServing s y → list_any starts (y ∷ []) ≡ false
    by (Started session booking eligible without) h = absurd h
    by (SetAside session step band cause nodes) h = refl
    by (Served session step item form proved nodes) h = refl
    by (Answered session step response) h = refl
    by (Closed session) h = refl

or_none : (x y : Bool) → y ≡ false → (x || y) ≡ x
or_none true y e = refl
or_none false y e = e

pub with_session : (P : Entry → Type 0) (Q : Entry → Type 0) (xs : List Entry) → ((x : Entry) → P x → Q x) → AtMostOne P xs → AtMostOne Q xs
with_session P Q xs f (inl none) = inl none
with_session P Q xs f (inr (x, is, p)) = inr (x, is, f x p)

nothing_added : (b : Tables) (plan : Plan) (base : List ℕ) (H : List Entry) (q : Request) (K : List Entry) (answer : Reply) → K ≡ H → Tells b plan q K [] answer → Added b plan base H q K answer
nothing_added b plan base H q K answer same tells = record {
  entries = [];
  grown = same ∙ sym (append-nil H);
  are = record { first = []; aside = []; serving = []; are = refl; one_first = inl refl; one_aside = inl refl; one_serving = inl refl };
  well = λ e there. absurd (none_there e there);
  tells = tells;
}

-- the entries of a first one stand behind H, and of the rest behind that
first_stands : (b : Tables) (plan : Plan) (base : List ℕ) (H : List Entry) (q : Request) (first rest K : List Entry) → K ≡ H ++ (first ++ rest) → AtMostOne (IsFirstOf q) first → AreWell b plan base K first
first_stands b plan base H q first rest K grown (inl none) e there = absurd (none_there e (subst (λ (l : List Entry). Contains l e) none there))
first_stands b plan base H q first rest K grown (inr (x, is, of_first)) e there =
    let same = only_one x e (subst (λ (l : List Entry). Contains l e) is there) in (
      H,
      rest,
      grown ∙ (ap (λ (l : List Entry). H ++ (l ++ rest)) is ∙ ap (λ (y : Entry). H ++ (y ∷ rest)) (sym same)),
      subst (λ (y : Entry). IsWell b plan base H y) (sym same) (first_well b plan base H q x of_first),
    )

-- ---- the session that is asked for
same_items : (a c : List ℕ) → pointwise nat_eq a c ≡ true → a ≡ c
same_items a c e = (slice_eq-Decides Decides-eqb a c (pointwise nat_eq a c) refl).0 e

list_there : (items : List ℕ) (o : Option Without) → has_list items o ≡ true → option_map (λ (list : Without). list.items) o ≡ Some items
list_there items None e = absurd cc
list_there items (Some list) e = ap Some (same_items list.items items e)

pub has_its_list : (b : Tables) (plan : Plan) (K : List Entry) (s : ℕ) (items : List ℕ) → LegalRun b plan K → has_list items (list_of K s) ≡ true → (seat_after K s).without ≡ Some items
has_its_list b plan K s items run e = sym (ap (λ (seat : Seat). seat.without) (seat_is b plan K s run)) ∙ list_there items (list_of K s) e

named_kept : (H K E : List Entry) (s booking : ℕ) → K ≡ H ++ E → ((eligible : Bands) × (without : Option Without) × Contains H (Started s booking eligible without)) → (eligible : Bands) × (without : Option Without) × Contains K (Started s booking eligible without)
named_kept H K E s booking grown h = (h.0, h.1, kept H K (Started s booking h.0 h.1) (E, grown) h.2)

answer_session : (b : Tables) (plan : Plan) (H : List Entry) (asked : Request) (session step response : ℕ) (booking : Option ℕ) (s : ℕ) (fresh : Bool) (G : List Entry) → asked ≡ Answer session step response booking → Leads b plan H asked s fresh G → s ≡ session
answer_session b plan H asked session step response booking s fresh G is (by_begin k n flag K begins) = absurd cc
answer_session b plan H asked session step response booking s fresh G is (by_begin_without k items n flag K begins) = absurd cc
answer_session b plan H asked session step response booking s fresh G is (by_answer n at given named K records) = cc
answer_session b plan H asked session step response booking s fresh G is (by_look n) = absurd cc

not_led : (b : Tables) (plan : Plan) (H : List Entry) (asked : Request) (session : ℕ) (booking : Option ℕ) (s : ℕ) (fresh : Bool) (G : List Entry) → asked ≡ Close session booking → Leads b plan H asked s fresh G → ⊥
not_led b plan H asked session booking s fresh G is (by_begin k n flag K begins) = cc
not_led b plan H asked session booking s fresh G is (by_begin_without k items n flag K begins) = cc
not_led b plan H asked session booking s fresh G is (by_answer n at given named K records) = cc
not_led b plan H asked session booking s fresh G is (by_look n) = cc

as_asked : (b : Tables) (plan : Plan) (H : List Entry) (q : Request) (K : List Entry) (answer : Reply) → LegalRun b plan H → LegalRun b plan K → refusal_of b plan H q ≡ None → (is : IsServedBy b plan H q K answer) (E : List Entry) → K ≡ H ++ E → IsAsAsked K q is.session
as_asked b plan H (Begin booking) K answer run after unrefused is E grown = tt
as_asked b plan H (BeginWithout booking items) K answer run after unrefused is E grown =
    let served = subst (λ (r : Reply). IsServedBy b plan H (BeginWithout booking items) K r) is.reply is in
    let does : Does b plan H (BeginWithout booking items) K (reply.At is.session is.at is.fresh) = subst (λ (o : Option Refusal). DoesUnless o b plan H (BeginWithout booking items) K (reply.At is.session is.at is.fresh)) (sym unrefused) (inl served) in
    has_its_list b plan K is.session items after (place_has_list b plan H booking items K is.session is.at is.fresh run does).1
as_asked b plan H (Answer session step response None) K answer run after unrefused is E grown = tt
as_asked b plan H (Answer session step response (Some booking)) K answer run after unrefused is E grown =
    let same = answer_session b plan H (Answer session step response (Some booking)) session step response (Some booking) is.session is.fresh is.begun refl is.leads in
    subst (λ (s : ℕ). (eligible : Bands) × (without : Option Without) × Contains K (Started s booking eligible without)) (sym same)
    (named_kept H K E session booking grown ((named_has_booking b plan H session booking).0 step response unrefused))
as_asked b plan H (Close session booking) K answer run after unrefused is E grown = absurd (not_led b plan H (Close session booking) session booking is.session is.fresh is.begun refl is.leads)
as_asked b plan H (Look session) K answer run after unrefused is E grown = tt
as_asked b plan H Exposure K answer run after unrefused is E grown = tt

closing_as_asked : (b : Tables) (plan : Plan) (H : List Entry) (session : ℕ) (booking : Option ℕ) (K : List Entry) → refusal_of b plan H (Close session booking) ≡ None → (E : List Entry) → K ≡ H ++ E → IsAsAsked K (Close session booking) session
closing_as_asked b plan H session None K unrefused E grown = tt
closing_as_asked b plan H session (Some booking) K unrefused E grown = named_kept H K E session booking grown ((named_has_booking b plan H session booking).1 unrefused)

served_adds : (b : Tables) (plan : Plan) (base : List ℕ) (H : List Entry) (q : Request) (K : List Entry) (answer : Reply) → LegalRun b plan H → LegalRun b plan K → refusal_of b plan H q ≡ None → IsServedBy b plan H q K answer → AreGoodFrom b plan base H K → Added b plan base H q K answer
served_adds b plan base H q K answer run after unrefused is good =
    let first = leads_first b plan H q is.session is.fresh is.begun run is.leads in
    let longer : length H ≤ length is.begun = omega (arith, ap (λ (l : List Entry). length l) first.grown, length-append H first.entries) in
    let rest = advances_rest b plan base is.begun is.session K (place plan is.begun is.session) first.legal is.advances (λ before e behind same w. good before e behind same (omega arith)) in
    let grown : K ≡ H ++ (first.entries ++ (rest.aside ++ rest.serving)) = rest.grown ∙ (ap (λ (l : List Entry). l ++ (rest.aside ++ rest.serving)) first.grown ∙ append_assoc H first.entries (rest.aside ++ rest.serving)) in
    let of = first.session_is K (rest.aside ++ rest.serving, rest.grown) in
    record {
      entries = first.entries ++ (rest.aside ++ rest.serving);
      grown = grown;
      are = record {
        first = first.entries;
        aside = rest.aside;
        serving = rest.serving;
        are = refl;
        one_first = first.one;
        one_aside = with_session (IsAside is.session) (λ e. (s : ℕ) × IsSessionOf K q s × IsAside s e) rest.aside (λ e p. (is.session, of, p)) rest.one_aside;
        one_serving = with_session (IsServing is.session) (λ e. (s : ℕ) × IsSessionOf K q s × IsServing s e) rest.serving (λ e p. (is.session, of, p)) rest.one_serving;
      };
      well = λ e there.
          elim (Contains-append_cases first.entries (rest.aside ++ rest.serving) e there) [
            | inl of_first ↦ first_stands b plan base H q first.entries (rest.aside ++ rest.serving) K grown first.one e of_first
            | inr of_rest ↦ rest.well e of_rest
          ];
      tells = subst (λ (r : Reply). Tells b plan q K (first.entries ++ (rest.aside ++ rest.serving)) r) (sym is.reply)
          (tells_place is.session is.at is.fresh of (as_asked b plan H q K answer run after unrefused is (first.entries ++ (rest.aside ++ rest.serving)) grown) (number_of b plan K is.session is.at after is.stands) (sym (place_of_seat b plan K is.session is.at after is.stands))
          (first.fresh_is
          ∙ (sym (or_none (list_any starts first.entries) (list_any starts (rest.aside ++ rest.serving)) (list_any-append starts rest.aside rest.serving ∙ (or_none (list_any starts rest.aside) (list_any starts rest.serving) (no_starts_serving is.session rest.serving rest.one_serving) ∙ no_starts_aside is.session rest.aside rest.one_aside)))
          ∙ sym (list_any-append starts first.entries (rest.aside ++ rest.serving)))));
    }

closed_adds : (b : Tables) (plan : Plan) (base : List ℕ) (H : List Entry) (session : ℕ) (booking : Option ℕ) (K : List Entry) (answer : Reply) → LegalRun b plan K → refusal_of b plan H (Close session booking) ≡ None → IsClosedBy b plan H session K answer → Added b plan base H (Close session booking) K answer
closed_adds b plan base H session booking K answer after unrefused is = record {
  entries = Closed session ∷ [];
  grown = is.closed;
  are = record { first = Closed session ∷ []; aside = []; serving = []; are = refl; one_first = inr (Closed session, refl, close session booking); one_aside = inl refl; one_serving = inl refl };
  well = λ e there. first_stands b plan base H (Close session booking) (Closed session ∷ []) [] K is.closed (inr (Closed session, refl, close session booking)) e there;
  tells = subst (λ (r : Reply). Tells b plan (Close session booking) K (Closed session ∷ []) r) (sym is.reply)
      (tells_place session is.at false (closed session booking (subst (λ (l : List Entry). Contains l (Closed session)) (sym is.closed) (Contains-push H (Closed session)))) (closing_as_asked b plan H session booking K unrefused (Closed session ∷ []) is.closed) (number_of b plan K session is.at after is.stands) (sym (place_of_seat b plan K session is.at after is.stands)) refl);
}

exposed_adds : (b : Tables) (plan : Plan) (base : List ℕ) (H K : List Entry) (answer : Reply) → LegalRun b plan K → IsExposedBy b plan H K answer → Added b plan base H Exposure K answer
exposed_adds b plan base H K answer after is =
    nothing_added b plan base H Exposure K answer is.same
    (subst (λ (r : Reply). Tells b plan Exposure K [] r) (sym is.reply)
    (tells_counts is.exposure refl refl
    (is.is_exposure.finished_is ∙ (ap (λ (l : List Entry). finished plan l) (sym is.same) ∙ over_is b plan K (λ seat. true) after))
    is.is_exposure.number
    (λ i w. is.is_exposure.each i w ∙ ap (λ (c : Counts). Some c) (ap (λ (l : List Entry). counts b plan l i) (sym is.same) ∙ counts_is b plan K i after))))

unrefused_adds : (b : Tables) (plan : Plan) (base : List ℕ) (H : List Entry) (q : Request) (K : List Entry) (answer : Reply) → LegalRun b plan H → LegalRun b plan K → refusal_of b plan H q ≡ None → DoesUnrefused b plan H q K answer → AreGoodFrom b plan base H K → Added b plan base H q K answer
unrefused_adds b plan base H (Begin booking) K answer run after unrefused is good = served_adds b plan base H (Begin booking) K answer run after unrefused is good
unrefused_adds b plan base H (BeginWithout booking items) K answer run after unrefused (inl is) good = served_adds b plan base H (BeginWithout booking items) K answer run after unrefused is good
unrefused_adds b plan base H (BeginWithout booking items) K answer run after unrefused (inr is) good =
    nothing_added b plan base H (BeginWithout booking items) K answer is.same (subst (λ (r : Reply). Tells b plan (BeginWithout booking items) K [] r) (sym is.reply) (refused is.why refl))
unrefused_adds b plan base H (Answer session step response booking) K answer run after unrefused is good = served_adds b plan base H (Answer session step response booking) K answer run after unrefused is good
unrefused_adds b plan base H (Close session booking) K answer run after unrefused is good = closed_adds b plan base H session booking K answer after unrefused is
unrefused_adds b plan base H (Look session) K answer run after unrefused is good = served_adds b plan base H (Look session) K answer run after unrefused is good
unrefused_adds b plan base H Exposure K answer run after unrefused is good = exposed_adds b plan base H K answer after is

pub does_adds : (b : Tables) (plan : Plan) (base : List ℕ) (H : List Entry) (q : Request) (K : List Entry) (answer : Reply) (o : Option Refusal) → refusal_of b plan H q ≡ o → LegalRun b plan H → LegalRun b plan K → DoesUnless o b plan H q K answer → AreGoodFrom b plan base H K → Added b plan base H q K answer
does_adds b plan base H q K answer (Some why) same run after is good =
    nothing_added b plan base H q K answer is.0 (subst (λ (r : Reply). Tells b plan q K [] r) (sym is.1) (refused why refl))
does_adds b plan base H q K answer None same run after is good = unrefused_adds b plan base H q K answer run after same is good
