-- The first entry of a request.
use Rattle.std.proofs.Common.{◌≡◌, ◌⊎◌, ℕ, zero, suc, ◌+◌, ◌==◌, ◌||◌, Bool, true, false, cond, List, [], ◌∷◌, ◌++◌, refl, sym, ap, ◌∙◌, subst, inl, inr, ⊎_elim, arith, Option, Some, None, Result, Ok, Err, IfOk, IfErr, Contains, slice_get, filter_map}
use Rattle.std.specs.List.{cons_option, list_any}
use Rattle.std.specs.Option.{option_map}
use Rattle.std.proofs.lemmas.Bool.{eqb-true}
use Rattle.std.proofs.lemmas.List.{append-nil}
use Rattle.std.proofs.lemmas.List.Elements.{Contains-push}
use Rattle.std.proofs.lemmas.Option.{slice_get-map}
use Rattle.bank_tables.specs.Items.{has}
use Rattle.bank_tables.specs.Tables.{Tables}
use Rattle.form_model.specs.Plan.{Plan}
use Rattle.exam_edge.specs.Lent.{IsLent}
use Rattle.answer_journal.specs.Journal.{tells_of, faults_of, identity_of}
use Rattle.history_model.specs.declared.entry.Entry.{Entry}
use Rattle.history_model.specs.declared.entry.Entry.TheVariants.{Started, SetAside, Served, Answered, Closed}
use Rattle.history_model.specs.declared.place.Place.{Place}
use Rattle.history_model.specs.declared.place.Place.TheVariants.{Pending}
use Rattle.history_model.specs.declared.place.Place.TheVariants as place_is
use Rattle.history_model.specs.declared.refusal.Refusal.{Refusal}
use Rattle.history_model.specs.declared.refusal.Refusal.TheVariants.{NoSession, OtherBooking, WrongStep, Other, BadResponse, IsClosed, Stale, OtherList, NoItem, SessionsFull, NoForm, NoneFound, JournalFull, Disk, Memory}
use Rattle.history_model.specs.declared.request.Exposure.{Exposure as Counts}
use Rattle.history_model.specs.declared.request.Request.{Request}
use Rattle.history_model.specs.declared.request.Request.TheVariants.{Begin, BeginWithout, Answer, Close, Look, Exposure}
use Rattle.history_model.specs.declared.request.Reply.{Reply}
use Rattle.history_model.specs.declared.request.Reply.TheVariants as reply
use Rattle.history_model.specs.Entries.{StepAnswer, starts, holder, list_of, step_answers}
use Rattle.history_model.specs.Legality.{Legal, LegalRun}
use Rattle.history_model.specs.Lists.{LacksForm}
use Rattle.history_model.specs.Places.{place}
use Rattle.history_model.specs.Refusals.{has_list, recorded, refusal_of}
use Rattle.history_model.specs.Requests.{IsExposureOf}
use Rattle.history_model.proofs.SessionEntries.{session_answer, answers_by}
use Rattle.history_model.proofs.Ordered.{in_order}
use Rattle.exam_office.specs.declared.begun.Begun.{Begun}
use Rattle.exam_office.specs.Asking.{reply_of}
use Rattle.exam_office.specs.declared.mark.Mark.{Mark}
use Rattle.exam_office.specs.declared.mark.Mark.TheVariants.{Own}
use Rattle.exam_office.specs.Calls.{Finding, Calls, IsStartFor, IsStartWithout, LacksWitness, FindsAnswer, FindsStart, FindsStartWithout, FindsClosing, IsFreshly, IsFreshlyBy, refused_with}
use Rattle.exam_office.specs.Leading.{IsCall, IsBegunReply, IsCountedReply, IsLead}
use Rattle.exam_office.specs.Marks.{history}
use Rattle.exam_office.specs.Noting.{IsDoubtOf}
use Rattle.exam_office.specs.Running.{Running}
use Rattle.exam_office.specs.Writing.{IsSameOffice}
use Rattle.exam_office.proofs.Advancing.{closed_there}
use Rattle.exam_hall.specs.Parts.{owns, NoFault, IsFirst, IsOfNamed, LacksFirst, IsUnbooked, IsNotBegunBy, Fails}
use Rattle.exam_hall.specs.Leading.{Leads}
use Rattle.exam_hall.specs.Turns.{Adds, Led}
use Rattle.exam_hall.proofs.Calls.{CameTo, to_refusal, to_nothing, to_entry, to_failure, Addition, addition, calls_on, settled_by, settles, none_faulty, own_faultless, both_faultless, cancel}
use Rattle.exam_hall.proofs.Listed.{listed_new, listed_there}
use Rattle.exam_hall.proofs.Moved.{owns_append}
use Rattle.exam_hall.proofs.Named.{named_answer, named_closing, named_later}

-- ---- a recorded response is in the history
later_one : (x e : Entry) (H : List Entry) → Contains H e → Contains (x ∷ H) e
later_one x e H c = (let lt = c.1 in (suc c.0, omega arith, c.2))

answered_at : (s : ℕ) (H : List Entry) (k : ℕ) (a : StepAnswer) → slice_get (filter_map (session_answer s) H) k ≡ Some a → Contains H (Answered s a.step a.response)
answered_at s [] k a e = absurd (cc)
answered_at s (Started session booking eligible without ∷ H) k a e = later_one (Started session booking eligible without) (Answered s a.step a.response) H (answered_at s H k a e)
answered_at s (SetAside session step band cause nodes ∷ H) k a e = later_one (SetAside session step band cause nodes) (Answered s a.step a.response) H (answered_at s H k a e)
answered_at s (Served session step item form proved nodes ∷ H) k a e = later_one (Served session step item form proved nodes) (Answered s a.step a.response) H (answered_at s H k a e)
answered_at s (Closed session ∷ H) k a e = later_one (Closed session) (Answered s a.step a.response) H (answered_at s H k a e)
answered_at s (Answered session step response ∷ H) k a e = by (session == s) refl k (answered_at s H) e
  where
    by : (t : Bool) → (session == s) ≡ t → (k : ℕ) → ((j : ℕ) (x : StepAnswer) → slice_get (filter_map (session_answer s) H) j ≡ Some x → Contains H (Answered s x.step x.response)) → slice_get (cons_option (cond t (Some (record { step = step; response = response })) None) (filter_map (session_answer s) H)) k ≡ Some a → Contains (Answered session step response ∷ H) (Answered s a.step a.response)
    by true is zero ih f =
        let this : ◌≡◌ {A = StepAnswer} (record { step = step; response = response }) a = cc in
        let same : session ≡ s = eqb-true session s is in
        (0, omega arith, ap (λ n. Answered n step response) same ∙ ap (λ (x : StepAnswer). Answered s x.step x.response) this)
    by true is (suc j) ih f = later_one (Answered session step response) (Answered s a.step a.response) H (ih j a f)
    by false is j ih f = later_one (Answered session step response) (Answered s a.step a.response) H (ih j a f)

some_of : (o : Option StepAnswer) (response : ℕ) → option_map (λ (a : StepAnswer). a.response) o ≡ Some response → (a : StepAnswer) × (o ≡ Some a) × (a.response ≡ response)
some_of None response e = absurd (cc)
some_of (Some a) response e = (a, refl, cc)

pub recorded_there : (b : Tables) (plan : Plan) (H : List Entry) (s step response : ℕ) → LegalRun b plan H → recorded H s step ≡ Some response → Contains H (Answered s step response)
recorded_there b plan H s step response run e =
    let a = some_of (slice_get (step_answers H s) step) response (sym (slice_get-map (λ (x : StepAnswer). x.response) (step_answers H s) step) ∙ e) in
    let number : a.0.step ≡ step = (in_order b plan H s run).answers_steps step a.0 a.1 in
    let there = answered_at s H step a.0 (ap (λ l. slice_get l step) (sym (answers_by H s)) ∙ a.1) in
    subst (λ r. Contains H (Answered s step r)) a.2 (subst (λ k. Contains H (Answered s k a.0.response)) number there)

-- ---- each request
module _ {D : Type 0} (old new : Running D) (same : IsSameOffice old new) (frame : IsLent tells_of identity_of faults_of old.journal new.journal) where
  abbrev adds : (finds : List Entry → Finding → Type 0) (o : Option Refusal) → Addition old.bank old.plan finds old.marks new.marks o → Adds old new
  adds finds o a = record { same = same; frame = frame; added = a.added; is = a.is; few = a.few }

  there : (s : ℕ) (at : Place) → place new.plan (history new.marks) s ≡ Some at → place old.plan (history new.marks) s ≡ Some at
  there s at e = subst (λ (p : Plan). place p (history new.marks) s ≡ Some at) same.plan e

  answer_leads : (s step response : ℕ) (booking : Option ℕ) (result : Result Place Refusal) (T : List Mark) → LegalRun old.bank old.plan (history new.marks)
      → CameTo old.bank old.plan (FindsAnswer old.bank old.plan s step response booking) new.marks T (refused_with result)
      → IfOk result (λ at. place new.plan (history new.marks) s ≡ Some at) → Leads old.bank old.plan (Answer s step response booking) new.marks T (reply_of s false result)
  answer_leads s step response booking (Ok at) T run (to_nothing says none whole) stands = record {
    is_at = record {
      session_is = (refl, named_answer old.bank old.plan (history new.marks) s step response booking says.0);
      stands = there s at stands;
      answered = recorded_there old.bank old.plan (history new.marks) s step response run says.1;
      fresh_is = sym (ap (λ l. list_any starts l) none);
      closed = tt;
      no_fault = whole;
    };
    one = inl none;
    ends = tt;
  }
  answer_leads s step response booking (Ok at) T run (to_entry H e says grown own whole) stands = record {
    is_at = record {
      session_is = (refl, subst (λ l. IsOfNamed l booking s) (sym grown) (named_later H (e ∷ []) booking s (named_answer old.bank old.plan H s step response booking says.0)));
      stands = there s at stands;
      answered = subst (λ l. Contains l (Answered s step response)) (sym grown) (subst (λ x. Contains (H ++ e ∷ []) x) says.2 (Contains-push H e));
      fresh_is = sym (ap (λ l. list_any starts l) (own ∙ ap (λ x. x ∷ []) says.2));
      closed = tt;
      no_fault = whole;
    };
    one = inr (e, own, says.2);
    ends = tt;
  }
  answer_leads s step response booking (Err q) T run (to_refusal r says none whole) stands = inl (record { test = says; none = none; no_fault = whole })
  answer_leads s step response booking (Err q) T run (to_failure r fails none why) stands =
      inr (inr (fails (IsFirst (Answer s step response booking)) (λ H e says. (says.2, says.3)), (none, ⊎_elim (λ d. inl d) (λ t. inr (t.0, t.1.2, t.1.3)) why)))

  answer_led : (s step response : ℕ) (booking : Option ℕ) (result : Result Place Refusal) → IsDoubtOf old.marks old.doubt → LegalRun old.bank old.plan (history new.marks)
      → Calls (FindsAnswer old.bank old.plan s step response booking) old new (refused_with result)
      → IfOk result (λ at. place new.plan (history new.marks) s ≡ Some at) → Led (Answer s step response booking) old new (reply_of s false result)
  answer_led s step response booking result doubt run calls stands =
      let finds = FindsAnswer old.bank old.plan s step response booking in
      let a = addition old.bank old.plan finds old.marks new.marks (refused_with result) (calls_on old new finds (refused_with result) doubt calls) in
      record { adds = adds finds (refused_with result) a; leads = answer_leads s step response booking result a.added run a.came stands }

  closing_leads : (s : ℕ) (booking : Option ℕ) (result : Result Place Refusal) (T : List Mark)
      → CameTo old.bank old.plan (FindsClosing old.bank old.plan s booking) new.marks T (refused_with result)
      → IfOk result (λ at. place new.plan (history new.marks) s ≡ Some at) → Leads old.bank old.plan (Close s booking) new.marks T (reply_of s false result)
  closing_leads s booking (Ok at) T (to_nothing says none whole) stands = absurd says
  closing_leads s booking (Ok at) T (to_entry H e says grown own whole) stands =
      let legal = subst (λ x. Legal old.bank old.plan H x) says.1 says.2 in
      let ended : place old.plan (history new.marks) s ≡ Some place_is.Closed =
      subst (λ l. place old.plan l s ≡ Some place_is.Closed) (sym (grown ∙ ap (λ x. H ++ x ∷ []) says.1)) (closed_there old.plan H s legal.at legal.stands) in
      record {
        is_at = record {
          session_is = (refl, subst (λ l. IsOfNamed l booking s) (sym grown) (named_later H (e ∷ []) booking s (named_closing old.bank old.plan H s booking says.0)));
          stands = there s at stands;
          answered = tt;
          fresh_is = sym (ap (λ l. list_any starts l) (own ∙ ap (λ x. x ∷ []) says.1));
          closed = subst (λ l. Contains l (Closed s)) (sym own) (0, omega arith, says.1);
          no_fault = whole;
        };
        one = inr (e, own, says.1);
        ends = λ k is. never k (sym ended ∙ (there s at stands ∙ ap (λ p. Some p) is));
      }
    where
      never : (k : ℕ) → ◌≡◌ {A = Option Place} (Some place_is.Closed) (Some (Pending k)) → ⊥
      never k e = cc
  closing_leads s booking (Err q) T (to_refusal r says none whole) stands = inl (record { test = says; none = none; no_fault = whole })
  closing_leads s booking (Err q) T (to_failure r fails none why) stands = inr (inr (fails (IsFirst (Close s booking)) (λ H e says. (says.1, says.2)), (none, ⊎_elim (λ d. inl d) (λ t. inr (t.0, t.1.1, t.1.2)) why)))

  closing_led : (s : ℕ) (booking : Option ℕ) (result : Result Place Refusal) → IsDoubtOf old.marks old.doubt → Calls (FindsClosing old.bank old.plan s booking) old new (refused_with result)
      → IfOk result (λ at. place new.plan (history new.marks) s ≡ Some at) → Led (Close s booking) old new (reply_of s false result)
  closing_led s booking result doubt calls stands =
      let finds = FindsClosing old.bank old.plan s booking in
      let a = addition old.bank old.plan finds old.marks new.marks (refused_with result) (calls_on old new finds (refused_with result) doubt calls) in
      record { adds = adds finds (refused_with result) a; leads = closing_leads s booking result a.added a.came stands }

  start_starts : (booking : ℕ) (e : Entry) → IsStartFor booking e → starts e ≡ true
  start_starts booking e h = ap starts h.is

  -- a booking that was begun
  begin_led : (booking session : ℕ) (fresh : Bool) (at : Place) → holder (history new.marks) booking ≡ Some session → IsFreshly old new booking fresh
      → place new.plan (history new.marks) session ≡ Some at → Led (Begin booking) old new (reply.At session at fresh)
  begin_led booking session false at held how stands =
      let s = settles old.marks new.marks (settled_by old.marks new.marks old.doubt how) in
      record {
        adds = record { same = same; frame = frame; added = s.added; is = s.is; few = (let n = s.few in omega arith) };
        leads = record {
          is_at = record { session_is = held; stands = there session at stands; answered = tt; fresh_is = sym (ap (λ l. list_any starts l) s.none); closed = tt; no_fault = s.no_fault };
          one = inl s.none;
          ends = tt;
        };
      }
  begin_led booking session true at held how stands =
      let mid = how.0 in
      let e = how.1 in
      let size = how.2 in
      let s = settles old.marks mid (settled_by old.marks mid old.doubt how.3) in
      let own : owns (s.added ++ Own e size ∷ []) ≡ e ∷ [] = owns_append s.added (Own e size ∷ []) ∙ ap (λ l. l ++ e ∷ []) s.none in
      record {
        adds = record {
          same = same;
          frame = frame;
          added = s.added ++ Own e size ∷ [];
          is = how.4 ∙ (ap (λ l. l ++ Own e size ∷ []) s.is ∙ Rattle.std.proofs.Common.append_assoc old.marks s.added (Own e size ∷ []));
          few = (let n = s.few in let l = Rattle.std.proofs.Common.length-append s.added (Own e size ∷ []) in omega arith);
        };
        leads = record {
          is_at = record {
            session_is = held;
            stands = there session at stands;
            answered = tt;
            fresh_is = sym (ap (λ l. list_any starts l) own ∙ ap (λ t. t || false) (start_starts booking e how.5));
            closed = tt;
            no_fault = both_faultless s.added (Own e size ∷ []) s.no_fault (own_faultless e size);
          };
          one = inr (e, own, how.5);
          ends = tt;
        };
      }

  refused_leads : (booking : ℕ) (q : Refusal) (o : Option Refusal) (T : List Mark) → o ≡ Some q → CameTo old.bank old.plan (FindsStart old.bank old.plan booking) new.marks T o
      → Leads old.bank old.plan (Begin booking) new.marks T (reply.Refused q)
  refused_leads booking q o T is (to_nothing says none whole) = absurd (cc)
  refused_leads booking q o T is (to_entry H e says grown own whole) = absurd (cc)
  refused_leads booking q o T is (to_refusal r says none whole) =
      let same_r : r ≡ q = cc in
      inl (record { test = subst (λ x. refusal_of old.bank old.plan (history new.marks) (Begin booking) ≡ Some x) same_r says; none = none; no_fault = whole })
  refused_leads booking q o T is (to_failure r fails none why) =
      let same_r : r ≡ q = cc in
      inr (inr (
        subst (λ x. Fails old.bank old.plan (IsFirst (Begin booking)) new.marks T x) same_r (fails (IsFirst (Begin booking)) (λ H e says. (says.2, says.3))),
        (none, ⊎_elim (λ d. inl d) (λ t. inr (t.0, t.1.2, t.1.3)) why),
      ))

  begin_refused : (booking : ℕ) (q : Refusal) → IsDoubtOf old.marks old.doubt → Calls (FindsStart old.bank old.plan booking) old new (Some q) → Led (Begin booking) old new (reply.Refused q)
  begin_refused booking q doubt calls =
      let finds = FindsStart old.bank old.plan booking in
      let a = addition old.bank old.plan finds old.marks new.marks (Some q) (calls_on old new finds (Some q) doubt calls) in
      record { adds = adds finds (Some q) a; leads = refused_leads booking q (Some q) a.added refl a.came }

  -- a booking that was begun with a list
  fresh_is : (booking : ℕ) (items : List ℕ) (witness : Result (List ℕ) Refusal) (fresh : Bool) (T : List Mark) → IsFreshlyBy old new (IsStartWithout booking items witness) fresh → new.marks ≡ old.marks ++ T → fresh ≡ list_any starts (owns T)
  fresh_is booking items witness false T how is =
      let s = settles old.marks new.marks (settled_by old.marks new.marks old.doubt how) in
      let same_added : T ≡ s.added = cancel old.marks T s.added (sym is ∙ s.is) in
      sym (ap (λ l. list_any starts l) (ap owns same_added ∙ s.none))
  fresh_is booking items witness true T how is =
      let e = how.1 in
      let size = how.2 in
      let s = settles old.marks how.0 (settled_by old.marks how.0 old.doubt how.3) in
      let X = s.added ++ Own e size ∷ [] in
      let here : new.marks ≡ old.marks ++ X = how.4 ∙ (ap (λ l. l ++ Own e size ∷ []) s.is ∙ Rattle.std.proofs.Common.append_assoc old.marks s.added (Own e size ∷ [])) in
      let same_added : T ≡ X = cancel old.marks T X (sym is ∙ here) in
      let own : owns T ≡ e ∷ [] = ap owns same_added ∙ (owns_append s.added (Own e size ∷ []) ∙ ap (λ l. l ++ e ∷ []) s.none) in
      sym (ap (λ l. list_any starts l) own ∙ ap (λ t. t || false) (ap starts how.5.is))

  listed_leads : (booking : ℕ) (items : List ℕ) (witness : Result (List ℕ) Refusal) (session : ℕ) (fresh : Bool) (at : Place) (o : Option Refusal) (T : List Mark) → o ≡ None → LegalRun old.bank old.plan (history new.marks)
      → CameTo old.bank old.plan (FindsStartWithout old.bank old.plan booking items witness) new.marks T o → holder (history new.marks) booking ≡ Some session → fresh ≡ list_any starts (owns T)
      → place new.plan (history new.marks) session ≡ Some at → Leads old.bank old.plan (BeginWithout booking items) new.marks T (reply.At session at fresh)
  listed_leads booking items witness session fresh at o T is run (to_nothing says none whole) held started stands = record {
    is_at = record {
      session_is = (held, listed_there old.bank old.plan (history new.marks) booking session items says.0 held);
      stands = there session at stands;
      answered = tt;
      fresh_is = started;
      closed = tt;
      no_fault = whole;
    };
    one = inl none;
    ends = tt;
  }
  listed_leads booking items witness session fresh at o T is run (to_entry H e says grown own whole) held started stands = record {
    is_at = record {
      session_is = (
        held,
        subst (λ l. has_list items (list_of l session) ≡ true) (sym grown)
            (listed_new old.bank old.plan H e booking session items witness (subst (λ l. LegalRun old.bank old.plan l) grown run) says.1 says.2 (subst (λ l. holder l booking ≡ Some session) grown held)),
      );
      stands = there session at stands;
      answered = tt;
      fresh_is = started;
      closed = tt;
      no_fault = whole;
    };
    one = inr (e, own, (witness, says.2));
    ends = tt;
  }
  listed_leads booking items witness session fresh at o T is run (to_refusal r says none whole) held started stands = absurd cc
  listed_leads booking items witness session fresh at o T is run (to_failure r fails none why) held started stands = absurd cc

  listed_led : (booking : ℕ) (items : List ℕ) (witness : Result (List ℕ) Refusal) (session : ℕ) (fresh : Bool) (at : Place) → IsDoubtOf old.marks old.doubt → LegalRun old.bank old.plan (history new.marks)
      → Calls (FindsStartWithout old.bank old.plan booking items witness) old new None → holder (history new.marks) booking ≡ Some session → IsFreshlyBy old new (IsStartWithout booking items witness) fresh
      → place new.plan (history new.marks) session ≡ Some at → Led (BeginWithout booking items) old new (reply.At session at fresh)
  listed_led booking items witness session fresh at doubt run calls held how stands =
      let finds = FindsStartWithout old.bank old.plan booking items witness in
      let a = addition old.bank old.plan finds old.marks new.marks None (calls_on old new finds None doubt calls) in
      record { adds = adds finds None a; leads = listed_leads booking items witness session fresh at None a.added refl run a.came held (fresh_is booking items witness fresh a.added how a.is) stands }

  -- why a booking was not begun with a list
  lacking : (booking : ℕ) (items : List ℕ) (r : Refusal) (T : List Mark) → IsUnbooked old.bank old.plan (history new.marks) booking items → LacksForm old.bank old.plan (has items) r
      → owns T ≡ [] → NoFault T → IsNotBegunBy old.bank old.plan (BeginWithout booking items) new.marks T r
  lacking booking items r T unbooked lacks none whole = record { booking = booking; items = items; asked = refl; unbooked = unbooked; lacks = lacks; none = none; no_fault = whole }

  no_witness : (booking : ℕ) (items : List ℕ) (r : Refusal) (T : List Mark) → IsUnbooked old.bank old.plan (history new.marks) booking items → LacksWitness old.bank old.plan items r → owns T ≡ [] → NoFault T
      → IsNotBegunBy old.bank old.plan (BeginWithout booking items) new.marks T r
      ⊎ (Fails old.bank old.plan (IsFirst (BeginWithout booking items)) new.marks T r × LacksFirst old.bank old.plan new.marks (BeginWithout booking items) (owns T))
  no_witness booking items Memory T u lacks none whole = inr (whole, (none, inr u))
  no_witness booking items (NoSession count) T u lacks none whole = inl (lacking booking items (NoSession count) T u lacks none whole)
  no_witness booking items OtherBooking T u lacks none whole = inl (lacking booking items OtherBooking T u lacks none whole)
  no_witness booking items (WrongStep k) T u lacks none whole = inl (lacking booking items (WrongStep k) T u lacks none whole)
  no_witness booking items (Other k) T u lacks none whole = inl (lacking booking items (Other k) T u lacks none whole)
  no_witness booking items (BadResponse k) T u lacks none whole = inl (lacking booking items (BadResponse k) T u lacks none whole)
  no_witness booking items (IsClosed at) T u lacks none whole = inl (lacking booking items (IsClosed at) T u lacks none whole)
  no_witness booking items (Stale at flag) T u lacks none whole = inl (lacking booking items (Stale at flag) T u lacks none whole)
  no_witness booking items (OtherList session) T u lacks none whole = inl (lacking booking items (OtherList session) T u lacks none whole)
  no_witness booking items (NoItem count) T u lacks none whole = inl (lacking booking items (NoItem count) T u lacks none whole)
  no_witness booking items (SessionsFull count) T u lacks none whole = inl (lacking booking items (SessionsFull count) T u lacks none whole)
  no_witness booking items NoForm T u lacks none whole = inl (lacking booking items NoForm T u lacks none whole)
  no_witness booking items NoneFound T u lacks none whole = inl (lacking booking items NoneFound T u lacks none whole)
  no_witness booking items (JournalFull size) T u lacks none whole = inl (lacking booking items (JournalFull size) T u lacks none whole)
  no_witness booking items Disk T u lacks none whole = inl (lacking booking items Disk T u lacks none whole)

  unlisted_leads : (booking : ℕ) (items : List ℕ) (witness : Result (List ℕ) Refusal) (q : Refusal) (o : Option Refusal) (T : List Mark) → o ≡ Some q → CameTo old.bank old.plan (FindsStartWithout old.bank old.plan booking items witness) new.marks T o
      → Leads old.bank old.plan (BeginWithout booking items) new.marks T (reply.Refused q)
  unlisted_leads booking items witness q o T is (to_nothing says none whole) = absurd cc
  unlisted_leads booking items witness q o T is (to_entry H e says grown own whole) = absurd cc
  unlisted_leads booking items witness q o T is (to_refusal r says none whole) =
      let same_r : r ≡ q = cc in
      subst (λ x. Leads old.bank old.plan (BeginWithout booking items) new.marks T (reply.Refused x)) same_r
      (⊎_elim (λ test. inl (record { test = test; none = none; no_fault = whole })) (λ w. inr (no_witness booking items r T (record { unrefused = w.0; no_session = w.1 }) w.3 none whole)) says)
  unlisted_leads booking items witness q o T is (to_failure r fails none why) =
      let same_r : r ≡ q = cc in
      inr (inr (
        subst (λ x. Fails old.bank old.plan (IsFirst (BeginWithout booking items)) new.marks T x) same_r (fails (IsFirst (BeginWithout booking items)) (λ H e says. ((witness, says.2), says.3))),
        (none, ⊎_elim (λ d. inl d) (λ t. inr (record { unrefused = t.1.0; no_session = t.1.1 })) why),
      ))

  listed_refused : (booking : ℕ) (items : List ℕ) (witness : Result (List ℕ) Refusal) (q : Refusal) → IsDoubtOf old.marks old.doubt → Calls (FindsStartWithout old.bank old.plan booking items witness) old new (Some q)
      → Led (BeginWithout booking items) old new (reply.Refused q)
  listed_refused booking items witness q doubt calls =
      let finds = FindsStartWithout old.bank old.plan booking items witness in
      let a = addition old.bank old.plan finds old.marks new.marks (Some q) (calls_on old new finds (Some q) doubt calls) in
      record { adds = adds finds (Some q) a; leads = unlisted_leads booking items witness q (Some q) a.added refl a.came }

-- a request that only looks
module _ {D : Type 0} (now : Running D) where
  abbrev pub still : Adds now now
  still = record {
    same = record { bank = refl; plan = refl; base = refl; opened = refl };
    frame = record { grows = omega arith; tells = refl; identity = refl };
    added = [];
    is = sym (append-nil now.marks);
    few = omega arith;
  }

  look_led : (s : ℕ) (result : Result Place Refusal) → IfOk result (λ at. place now.plan (history now.marks) s ≡ Some at)
      → IfErr result (λ r. refusal_of now.bank now.plan (history now.marks) (Look s) ≡ Some r) → Led (Look s) now now (reply_of s false result)
  look_led s (Ok at) stands refuses = record {
    adds = still;
    leads = record {
      is_at = record { session_is = refl; stands = stands; answered = tt; fresh_is = refl; closed = tt; no_fault = none_faulty };
      one = inl refl;
      ends = tt;
    };
  }
  look_led s (Err r) stands refuses = record { adds = still; leads = inl (record { test = refuses; none = refl; no_fault = none_faulty }) }

  exposure_led : (counts : Counts) → IsExposureOf now.bank now.plan (history now.marks) counts → Led Exposure now now (reply.Exposure counts)
  exposure_led counts is = record { adds = still; leads = record { asked = refl; is_exposure = is; none = refl; no_fault = none_faulty } }

  exposure_stopped : (r : Refusal) → r ≡ Memory → Led Exposure now now (reply.Refused r)
  exposure_stopped r is = subst (λ x. Led Exposure now now (reply.Refused x)) (sym is) (record { adds = still; leads = inr (inr (none_faulty, refl)) })

pub legal_before : {D : Type 0} (old new : Running D) → IsSameOffice old new → LegalRun new.bank new.plan (history new.marks) → LegalRun old.bank old.plan (history new.marks)
legal_before old new same run = subst (λ (p : Plan). LegalRun old.bank p (history new.marks)) same.plan (subst (λ (b : Tables). LegalRun b new.plan (history new.marks)) same.bank run)

-- ---- what the office did first, by the request
module _ {D : Type 0} (old new : Running D) (doubt : IsDoubtOf old.marks old.doubt) (run : LegalRun new.bank new.plan (history new.marks)) where
  begun_led : (booking : ℕ) (begun : Result Begun Refusal) (answer : Reply) → IsCall (FindsStart old.bank old.plan booking) old new begun → IfOk begun (λ b. holder (history new.marks) booking ≡ Some b.session)
      → IfOk begun (λ b. IsFreshly old new booking b.fresh) → IsBegunReply new.plan (history new.marks) begun answer → Led (Begin booking) old new answer
  begun_led booking (Ok b) answer c held fresh is =
      subst (λ (r : Reply). Led (Begin booking) old new r) (sym is.2) (begin_led old new c.same c.frame booking b.session b.fresh is.0 held fresh is.1)
  begun_led booking (Err q) answer c held fresh is = subst (λ (r : Reply). Led (Begin booking) old new r) (sym is) (begin_refused old new c.same c.frame booking q doubt c.call)

  begun_without : (booking : ℕ) (items : List ℕ) (witness : Result (List ℕ) Refusal) (begun : Result Begun Refusal) (answer : Reply) → IsCall (FindsStartWithout old.bank old.plan booking items witness) old new begun
      → IfOk begun (λ b. holder (history new.marks) booking ≡ Some b.session) → IfOk begun (λ b. IsFreshlyBy old new (IsStartWithout booking items witness) b.fresh) → IsBegunReply new.plan (history new.marks) begun answer
      → Led (BeginWithout booking items) old new answer
  begun_without booking items witness (Ok b) answer c held fresh is =
      subst (λ (r : Reply). Led (BeginWithout booking items) old new r) (sym is.2)
      (listed_led old new c.same c.frame booking items witness b.session b.fresh is.0 doubt (legal_before old new c.same run) c.call held fresh is.1)
  begun_without booking items witness (Err q) answer c held fresh is =
      subst (λ (r : Reply). Led (BeginWithout booking items) old new r) (sym is) (listed_refused old new c.same c.frame booking items witness q doubt c.call)

  counted_led : (answer : Reply) → IsCountedReply old answer → Led Exposure old old answer
  counted_led (reply.Exposure counts) is = exposure_led old counts is
  counted_led (reply.Refused r) is = exposure_stopped old r is
  counted_led (reply.At s at fresh) is = absurd is

  pub led_by : (q : Request) (witness : Result (List ℕ) Refusal) (answer : Reply) → IsLead q witness old new answer → Led q old new answer
  led_by (Begin booking) witness answer l = begun_led booking l.begun answer l.call l.session l.fresh l.reply_is
  led_by (BeginWithout booking items) witness answer l = begun_without booking items witness l.begun answer l.call l.session l.fresh l.reply_is
  led_by (Answer s step response booking) witness answer l =
      let c = l.call in
      subst (λ (r : Reply). Led (Answer s step response booking) old new r) (sym l.reply_is)
      (answer_led old new c.same c.frame s step response booking l.found doubt (legal_before old new c.same run) c.call l.at)
  led_by (Close s booking) witness answer l =
      let c = l.call in
      subst (λ (r : Reply). Led (Close s booking) old new r) (sym l.reply_is) (closing_led old new c.same c.frame s booking l.found doubt c.call l.at)
  led_by (Look s) witness answer l =
      let look = l.1 in
      subst (λ (n : Running D). Led (Look s) old n answer) (sym l.0) (subst (λ (r : Reply). Led (Look s) old old r) (sym look.reply_is) (look_led old s look.found look.at look.refused))
  led_by Exposure witness answer l = subst (λ (n : Running D). Led Exposure old n answer) (sym l.0) (counted_led answer l.1)
