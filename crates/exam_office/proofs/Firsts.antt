-- The first entry of a request, where nothing is in doubt.
use Rattle.std.proofs.Common.{◌≡◌, ℕ, Bool, true, false, cond, ◌||◌, ◌==◌, List, [], ◌∷◌, ◌++◌, slice_get, Option, Some, None, Result, Ok, Err, OnOk, IsTrue, refl, sym, ap, ◌∙◌, subst, arith}
use Rattle.std.specs.List.{filter_map, list_any, cons_option}
use Rattle.std.proofs.lemmas.Bool.{eq-eqb}
use Rattle.bank_tables.specs.Tables.{Tables}
use Rattle.exam_edge.specs.Images.{AllImages, AtEachMoment, latest}
use Rattle.exam_edge.specs.Lent.{IsLent}
use Rattle.form_model.specs.Plan.{Plan}
use Rattle.history_model.specs.declared.entry.Entry.{Entry}
use Rattle.history_model.specs.declared.entry.Entry.TheVariants.{Started, SetAside, Served, Answered, Closed}
use Rattle.history_model.specs.declared.place.Place.{Place}
use Rattle.history_model.specs.declared.refusal.Refusal.{Refusal}
use Rattle.history_model.specs.declared.refusal.Refusal.TheVariants.{Memory}
use Rattle.history_model.specs.declared.request.Reply.TheVariants.{Refused}
use Rattle.exam_handler.specs.Handling.{IsRefusal}
use Rattle.history_model.specs.declared.request.Request.{Request}
use Rattle.history_model.specs.declared.request.Request.TheVariants.{Begin, Answer, Close}
use Rattle.history_model.specs.Entries.{holder_of, holder, starts_session, is_started}
use Rattle.history_model.specs.Halting.{IsNextOf, first, closing}
use Rattle.history_model.specs.Legality.{Legal}
use Rattle.history_model.specs.Refusals.{refusal_of, refusal_of_new}
use Rattle.history_model.specs.Requests.{Leads, by_begin, by_answer, DoesUnrefused}
use Rattle.history_model.specs.Requests.{Begins, RecordsAnswer}
use Rattle.answer_journal.specs.Journal.{tells_of, accounts_of, faults_of, identity_of}
use Rattle.exam_office.specs.declared.mark.Mark.{Mark}
use Rattle.exam_office.specs.Asking.{IsStoppedBy, IsGood, no_more, one_more, IsDurable, Steps, IsBegunBy, not_begun, begun}
use Rattle.exam_office.specs.Calls.{Finding, refuse, nothing, add, refused_with, Calls, IsLeft, FindsAnswer, FindsStart, FindsClosing, IsFreshly}
use Rattle.exam_office.specs.Files.{StandsSecond}
use Rattle.exam_office.specs.Marks.{history}
use Rattle.exam_office.specs.Running.{Running}
use Rattle.exam_office.specs.Writing.{IsSameOffice}
use Rattle.exam_office.proofs.Marking.{history-own}
use Rattle.exam_office.proofs.Starts.{held_then}
use Rattle.exam_office.proofs.Surely.{mended_none, no_longer, CallsSurely, is_refused, is_found, is_written, is_stopped, surely, call_steps, nothing_added, stopped_weaker}

-- why a call adds nothing: the request is refused by the tests; or it is done without an entry,
-- with a refusal as the reply; or there was no memory for what it needs before
pub data IsTurned (b : Tables) (plan : Plan) (H : List Entry) (request : Request) : Refusal → Type 0 where
  by_test : (r : Refusal) → refusal_of b plan H request ≡ Some r → IsTurned b plan H request r
  by_want : (r : Refusal) → refusal_of b plan H request ≡ None → DoesUnrefused b plan H request H (Refused r) → IsRefusal r → IsTurned b plan H request r
  by_memory : refusal_of b plan H request ≡ None → IsTurned b plan H request Memory

-- a test doesn't both refuse and not
pub one_test : {o : Option Refusal} (r : Refusal) → o ≡ Some r → o ≡ None → ⊥
one_test r is none = let clash : ◌≡◌ {A = Option Refusal} (Some r) None = sym is ∙ none in absurd (cc)

-- what the first call of a request does: its first entry, or none; or it is refused; or it is done
-- without an entry; or it stops before that entry
pub data IsFirst {D : Type 0} (request : Request) (Done : List Entry → Type 0) (old new : Running D) : Option Refusal → Type 0 where
  first_done : Done (history new.marks) → IsDurable old.bank old.plan new → IsFirst request Done old new None
  first_refused : (r : Refusal) → refusal_of old.bank old.plan (history old.marks) request ≡ Some r → history new.marks ≡ history old.marks
      → IsDurable old.bank old.plan new → IsFirst request Done old new (Some r)
  first_wanting : (r : Refusal) → refusal_of old.bank old.plan (history old.marks) request ≡ None → DoesUnrefused old.bank old.plan (history old.marks) request (history old.marks) (Refused r) → IsRefusal r
      → history new.marks ≡ history old.marks → IsDurable old.bank old.plan new → IsFirst request Done old new (Some r)
  first_stopped : (r : Refusal) → refusal_of old.bank old.plan (history old.marks) request ≡ None → history new.marks ≡ history old.marks
      → IsStoppedBy old.bank old.plan (history old.marks) (IsNextOf old.bank old.plan (history old.marks) request (history old.marks)) old new r
      → IsFirst request Done old new (Some r)

module _ {D : Type 0} (request : Request) (finds : List Entry → Finding → Type 0) (Done : List Entry → Type 0) (old new : Running D) (durable : IsDurable old.bank old.plan old)
    (turned : (r : Refusal) → finds (history old.marks) (refuse r) → IsTurned old.bank old.plan (history old.marks) request r)
    (apart : (r : Refusal) (e : Entry) → finds (history old.marks) (refuse r) → finds (history old.marks) (add e) → ⊥)
    (unrefused : (e : Entry) → finds (history old.marks) (add e) → refusal_of old.bank old.plan (history old.marks) request ≡ None)
    (next : (e : Entry) → finds (history old.marks) (add e) → IsNextOf old.bank old.plan (history old.marks) request (history old.marks) e)
    (good : (e : Entry) → finds (history old.marks) (add e) → IsGood old.bank old.plan old.base (history old.marks) e)
    (done_found : finds (history old.marks) nothing → history new.marks ≡ history old.marks → Done (history old.marks))
    (done_written : (e : Entry) → finds (history old.marks) (add e) → history new.marks ≡ history old.marks ++ e ∷ [] → Done (history old.marks ++ e ∷ []))
    (frame : IsLent tells_of identity_of faults_of old.journal new.journal)
    (moments : IsTrue (tells_of old.journal) → AtEachMoment (accounts_of old.journal) (accounts_of new.journal) (IsLeft old.bank old.plan finds (history old.marks) old.doubt)) where
  abbrev Lasts : Type 0
  Lasts = IsTrue (tells_of old.journal) → AllImages (StandsSecond old.bank old.plan (history new.marks)) (latest (accounts_of new.journal))

  by_turn : (r : Refusal) → IsTurned old.bank old.plan (history old.marks) request r → history new.marks ≡ history old.marks → IsDurable old.bank old.plan new → IsFirst request Done old new (Some r)
  by_turn r (by_test q is) grown lasting = first_refused q is grown lasting
  by_turn r (by_want q none does is) grown lasting = first_wanting q none does is grown lasting
  by_turn r (by_memory none) grown lasting = first_stopped Memory none grown (λ e. lasting.sure)

  by_surely : (o : Option Refusal) → (o ≡ None → Lasts) → CallsSurely finds old new o → IsFirst request Done old new o
  by_surely o lasts (is_found says grown sure) =
      first_done (subst Done (sym grown) (done_found says grown)) (record { sure = sure; images = λ told. lasts refl (subst IsTrue frame.tells told) })
  by_surely o lasts (is_written e says grown sure) =
      first_done (subst Done (sym grown) (done_written e says grown)) (record { sure = sure; images = λ told. lasts refl (subst IsTrue frame.tells told) })
  by_surely o lasts (is_refused r says grown sure) =
      by_turn r (turned r says) grown (nothing_added finds old new durable.sure (λ e more. apart r e says more) grown sure frame moments)
  by_surely o lasts (is_stopped r e says grown why) =
      first_stopped r (unrefused e says) grown
      (stopped_weaker old.bank old.plan (history old.marks) (λ e. finds (history old.marks) (add e)) (IsNextOf old.bank old.plan (history old.marks) request (history old.marks)) next old old new (omega arith) (λ e. e) r why)

  pub first_so : (o : Option Refusal) → (o ≡ None → Lasts) → Calls finds old new o → IsFirst request Done old new o
  first_so o lasts calls = by_surely o lasts (surely finds old new durable.sure o calls)

  pub first_call_steps : IsSameOffice old new → Steps (IsBegunBy old.bank old.plan old.base (history old.marks) request) old new
  first_call_steps same =
      call_steps finds old new durable.sure (IsBegunBy old.bank old.plan old.base (history old.marks) request) not_begun (λ e says. begun (history old.marks) e (next e says) (one_more (history old.marks) e no_more (good e says))) same frame moments

-- an Ok result's clause, where the result is Ok
pub on_ok : {A : Type 0} (result : Result A Refusal) (X : Type 0) → OnOk result X → refused_with result ≡ None → X
on_ok (Ok x) X holds e = holds
on_ok (Err r) X holds e = absurd (cc)

-- ---- a request that isn't refused leads to its session
abbrev pub DoneLeading : Tables → Plan → List Entry → Request → ℕ → Bool → List Entry → Type 0
DoneLeading b plan H request session fresh G = (refusal_of b plan H request ≡ None) × Leads b plan H request session fresh G

-- an answer
module _ {D : Type 0} (s step response : ℕ) (booking : Option ℕ) (old new : Running D) (durable : IsDurable old.bank old.plan old)
    (frame : IsLent tells_of identity_of faults_of old.journal new.journal)
    (moments : IsTrue (tells_of old.journal) → AtEachMoment (accounts_of old.journal) (accounts_of new.journal) (IsLeft old.bank old.plan (FindsAnswer old.bank old.plan s step response booking) (history old.marks) old.doubt)) where
  led_answer : (e : Entry) → FindsAnswer old.bank old.plan s step response booking (history old.marks) (add e) → Leads old.bank old.plan (history old.marks) (Answer s step response booking) s false (history old.marks ++ e ∷ [])
  led_answer e says =
      let H = history old.marks in
      subst (λ (x : Entry). Leads old.bank old.plan H (Answer s step response booking) s false (H ++ x ∷ [])) (sym says.2)
      (by_answer s step response booking (H ++ Answered s step response ∷ []) (RecordsAnswer.is_new says.1 (subst (λ (x : Entry). Legal old.bank old.plan H x) says.2 says.3)))

  pub answer_first : (result : Result Place Refusal) → OnOk result (IsTrue (tells_of old.journal) → AllImages (StandsSecond old.bank old.plan (history new.marks)) (latest (accounts_of new.journal)))
      → Calls (FindsAnswer old.bank old.plan s step response booking) old new (refused_with result) → IsFirst (Answer s step response booking) (DoneLeading old.bank old.plan (history old.marks) (Answer s step response booking) s false) old new (refused_with result)
  answer_first result lasts calls =
      first_so (Answer s step response booking) (FindsAnswer old.bank old.plan s step response booking) (DoneLeading old.bank old.plan (history old.marks) (Answer s step response booking) s false) old new durable
      (λ r says. by_test r says)
      (λ r e says more. one_test r says more.0)
      (λ e says. says.0)
      (λ e says. first s false e (led_answer e says))
      (λ e says. subst (λ (x : Entry). IsGood old.bank old.plan old.base (history old.marks) x) (sym says.2) tt)
      (λ says grown. (says.0, by_answer s step response booking (history old.marks) (RecordsAnswer.is_there says.1)))
      (λ e says grown. (says.0, led_answer e says))
      frame moments (refused_with result) (on_ok result (IsTrue (tells_of old.journal) → AllImages (StandsSecond old.bank old.plan (history new.marks)) (latest (accounts_of new.journal))) lasts) calls

  pub answer_steps : IsSameOffice old new → Steps (IsBegunBy old.bank old.plan old.base (history old.marks) (Answer s step response booking)) old new
  answer_steps same =
      first_call_steps (Answer s step response booking) (FindsAnswer old.bank old.plan s step response booking) (λ G. Unit {0}) old new durable
      (λ r says. by_test r says)
      (λ r e says more. one_test r says more.0)
      (λ e says. says.0)
      (λ e says. first s false e (led_answer e says))
      (λ e says. subst (λ (x : Entry). IsGood old.bank old.plan old.base (history old.marks) x) (sym says.2) tt)
      (λ says grown. tt)
      (λ e says grown. tt)
      frame moments same

-- a closing
abbrev pub DoneClosing : Tables → Plan → List Entry → ℕ → Option ℕ → List Entry → Type 0
DoneClosing b plan H s booking G = (refusal_of b plan H (Close s booking) ≡ None) × Legal b plan H (Closed s) × (G ≡ H ++ Closed s ∷ [])

module _ {D : Type 0} (s : ℕ) (booking : Option ℕ) (old new : Running D) (durable : IsDurable old.bank old.plan old)
    (frame : IsLent tells_of identity_of faults_of old.journal new.journal)
    (moments : IsTrue (tells_of old.journal) → AtEachMoment (accounts_of old.journal) (accounts_of new.journal) (IsLeft old.bank old.plan (FindsClosing old.bank old.plan s booking) (history old.marks) old.doubt)) where
  next_closing : (e : Entry) → FindsClosing old.bank old.plan s booking (history old.marks) (add e) → IsNextOf old.bank old.plan (history old.marks) (Close s booking) (history old.marks) e
  next_closing e says =
      let H = history old.marks in
      subst (λ (x : Entry). IsNextOf old.bank old.plan H (Close s booking) H x) (sym says.1) (closing s booking refl (subst (λ (x : Entry). Legal old.bank old.plan H x) says.1 says.2))

  pub closing_first : (result : Result Place Refusal) → OnOk result (IsTrue (tells_of old.journal) → AllImages (StandsSecond old.bank old.plan (history new.marks)) (latest (accounts_of new.journal)))
      → Calls (FindsClosing old.bank old.plan s booking) old new (refused_with result) → IsFirst (Close s booking) (DoneClosing old.bank old.plan (history old.marks) s booking) old new (refused_with result)
  closing_first result lasts calls =
      let H = history old.marks in
      first_so (Close s booking) (FindsClosing old.bank old.plan s booking) (DoneClosing old.bank old.plan H s booking) old new durable
      (λ r says. by_test r says)
      (λ r e says more. one_test r says more.0)
      (λ e says. says.0)
      next_closing
      (λ e says. subst (λ (x : Entry). IsGood old.bank old.plan old.base (history old.marks) x) (sym says.1) tt)
      (λ says grown. absurd says)
      (λ e says grown. (says.0, subst (λ (x : Entry). Legal old.bank old.plan H x) says.1 says.2, ap (λ (x : Entry). H ++ x ∷ []) says.1))
      frame moments (refused_with result) (on_ok result (IsTrue (tells_of old.journal) → AllImages (StandsSecond old.bank old.plan (history new.marks)) (latest (accounts_of new.journal))) lasts) calls

  pub closing_steps : IsSameOffice old new → Steps (IsBegunBy old.bank old.plan old.base (history old.marks) (Close s booking)) old new
  closing_steps same =
      first_call_steps (Close s booking) (FindsClosing old.bank old.plan s booking) (λ G. Unit {0}) old new durable
      (λ r says. by_test r says)
      (λ r e says more. one_test r says more.0)
      (λ e says. says.0)
      next_closing
      (λ e says. subst (λ (x : Entry). IsGood old.bank old.plan old.base (history old.marks) x) (sym says.1) tt)
      (λ says grown. tt)
      (λ e says grown. tt)
      frame moments same

-- ---- a start
-- a session that a booking has is there
held_by : (booking s : ℕ) (e : Entry) (H : List Entry) (o : Option ℕ) → holder_of booking e ≡ o → slice_get (cons_option o (filter_map (holder_of booking) H)) 0 ≡ Some s
    → (slice_get (filter_map (holder_of booking) H) 0 ≡ Some s → list_any (starts_session s) H ≡ true) → list_any (starts_session s) (e ∷ H) ≡ true
held_by booking s e H None is held tail = or_right (starts_session s e) (list_any (starts_session s) H) (tail held)
  where
    or_right : (t u : Bool) → u ≡ true → (t || u) ≡ true
    or_right true u is = refl
    or_right false u is = is
held_by booking s e H (Some x) is held tail =
    let same : ◌≡◌ {A = Option ℕ} (Some x) (Some s) = held in
    or_left (starts_session s e) (list_any (starts_session s) H) (starts_it e (is ∙ same))
  where
    or_left : (t u : Bool) → t ≡ true → (t || u) ≡ true
    or_left true u is = refl
    or_left false u is = absurd (cc)

    by_test : (t : Bool) (session : ℕ) → cond t (Some session) None ≡ Some s → session ≡ s
    by_test true session e = cc
    by_test false session e = absurd (cc)

    starts_it : (f : Entry) → holder_of booking f ≡ Some s → starts_session s f ≡ true
    starts_it (Started session other eligible without) is = eq-eqb session s (by_test (other == booking) session is)
    starts_it (SetAside session step band cause nodes) is = absurd (cc)
    starts_it (Served session step item form proved nodes) is = absurd (cc)
    starts_it (Answered session step response) is = absurd (cc)
    starts_it (Closed session) is = absurd (cc)

pub held_is_started : (booking s : ℕ) (H : List Entry) → holder H booking ≡ Some s → is_started H s ≡ true
held_is_started booking s [] held = absurd (cc)
held_is_started booking s (e ∷ H) held = held_by booking s e H (holder_of booking e) refl held (held_is_started booking s H)

module _ {D : Type 0} (booking : ℕ) (old new : Running D) (durable : IsDurable old.bank old.plan old)
    (frame : IsLent tells_of identity_of faults_of old.journal new.journal)
    (moments : IsTrue (tells_of old.journal) → AtEachMoment (accounts_of old.journal) (accounts_of new.journal) (IsLeft old.bank old.plan (FindsStart old.bank old.plan booking) (history old.marks) old.doubt)) where
  next_start : (e : Entry) → FindsStart old.bank old.plan booking (history old.marks) (add e) → (session : ℕ) × Leads old.bank old.plan (history old.marks) (Begin booking) session true (history old.marks ++ e ∷ []) × (holder (history old.marks ++ e ∷ []) booking ≡ Some session)
  next_start e says =
      let H = history old.marks in
      let s = says.2 in
      let legal : Legal old.bank old.plan H (Started s.session booking s.eligible None) = subst (λ (x : Entry). Legal old.bank old.plan H x) s.is says.3 in (
        s.session,
        subst (λ (x : Entry). Leads old.bank old.plan H (Begin booking) s.session true (H ++ x ∷ [])) (sym s.is)
            (by_begin booking s.session true (H ++ Started s.session booking s.eligible None ∷ []) (Begins.is_new s.session s.eligible says.1 legal)),
        ap (λ (x : Entry). holder (H ++ x ∷ []) booking) s.is ∙ held_then H s.session booking s.eligible says.1,
      )

  first_start : (e : Entry) → FindsStart old.bank old.plan booking (history old.marks) (add e) → IsNextOf old.bank old.plan (history old.marks) (Begin booking) (history old.marks) e
  first_start e says = let n = next_start e says in first n.0 true e n.1

  good_start : (e : Entry) → FindsStart old.bank old.plan booking (history old.marks) (add e) → IsGood old.bank old.plan old.base (history old.marks) e
  good_start e says = subst (λ (x : Entry). IsGood old.bank old.plan old.base (history old.marks) x) (sym says.2.is) tt

  pub start_steps : IsSameOffice old new → Steps (IsBegunBy old.bank old.plan old.base (history old.marks) (Begin booking)) old new
  start_steps same =
      first_call_steps (Begin booking) (FindsStart old.bank old.plan booking) (λ G. Unit {0}) old new durable
      (λ r says. by_test r says)
      (λ r e says more. one_test r says more.0)
      (λ e says. says.0)
      first_start
      good_start
      (λ says grown. tt)
      (λ e says grown. tt)
      frame moments same

  pub start_unstarted : (r : Refusal) → Calls (FindsStart old.bank old.plan booking) old new (Some r) → IsFirst (Begin booking) (λ G. Unit {0}) old new (Some r)
  start_unstarted r calls =
      first_so (Begin booking) (FindsStart old.bank old.plan booking) (λ G. Unit {0}) old new durable
      (λ q says. by_test q says)
      (λ q e says more. one_test q says more.0)
      (λ e says. says.0)
      first_start
      good_start
      (λ says grown. tt)
      (λ e says grown. tt)
      frame moments (Some r) (λ e. absurd (cc)) calls

  module _ (session : ℕ) (held : holder (history new.marks) booking ≡ Some session) where
    there_found : (fresh : Bool) → IsFreshly old new booking fresh → history new.marks ≡ history old.marks → DoneLeading old.bank old.plan (history old.marks) (Begin booking) session fresh (history old.marks)
    there_found false freshly grown =
        let H = history old.marks in
        let here : holder H booking ≡ Some session = subst (λ (G : List Entry). holder G booking ≡ Some session) grown held in
        (ap (refusal_of_new old.plan H) here, by_begin booking session false H (Begins.is_there session here))
    there_found true freshly grown =
        let M = freshly.0 in
        let e = freshly.1 in
        let is = mended_none old.marks M old.doubt freshly.3 durable.sure in
        let own : history new.marks ≡ history old.marks ++ e ∷ [] = ap history freshly.4 ∙ (history-own M e freshly.2 ∙ ap (λ (N : List Mark). history N ++ e ∷ []) is) in
        absurd (no_longer (history old.marks) e (sym own ∙ grown))

    newly_written : (fresh : Bool) → IsFreshly old new booking fresh → (e : Entry) → FindsStart old.bank old.plan booking (history old.marks) (add e) → history new.marks ≡ history old.marks ++ e ∷ [] → DoneLeading old.bank old.plan (history old.marks) (Begin booking) session fresh (history old.marks ++ e ∷ [])
    newly_written false freshly e says grown =
        absurd (no_longer (history old.marks) e (sym grown ∙ ap history (mended_none old.marks new.marks old.doubt freshly durable.sure)))
    newly_written true freshly e says grown =
        let H = history old.marks in
        let n = next_start e says in
        let held_now : holder (H ++ e ∷ []) booking ≡ Some session = subst (λ (G : List Entry). holder G booking ≡ Some session) grown held in
        let same : ◌≡◌ {A = Option ℕ} (Some n.0) (Some session) = sym n.2 ∙ held_now in
        let number : n.0 ≡ session = cc in
        (says.0, subst (λ (k : ℕ). Leads old.bank old.plan H (Begin booking) k true (H ++ e ∷ [])) number n.1)

    pub start_first : (fresh : Bool) → IsFreshly old new booking fresh → (IsTrue (tells_of old.journal) → AllImages (StandsSecond old.bank old.plan (history new.marks)) (latest (accounts_of new.journal)))
        → Calls (FindsStart old.bank old.plan booking) old new None → IsFirst (Begin booking) (DoneLeading old.bank old.plan (history old.marks) (Begin booking) session fresh) old new None
    start_first fresh freshly lasts calls =
        first_so (Begin booking) (FindsStart old.bank old.plan booking) (DoneLeading old.bank old.plan (history old.marks) (Begin booking) session fresh) old new durable
        (λ q says. by_test q says)
        (λ q e says more. one_test q says more.0)
        (λ e says. says.0)
        first_start
        good_start
        (λ says grown. there_found fresh freshly grown)
        (λ e says grown. newly_written fresh freshly e says grown)
        frame moments None (λ e. lasts) calls
