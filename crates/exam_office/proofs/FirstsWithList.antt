-- The first entry of a request with a list, where nothing is in doubt.
use Rattle.std.proofs.Common.{◌≡◌, inl, inr, ℕ, Bool, true, false, List, [], ◌∷◌, ◌++◌, Option, Some, None, Result, Ok, Err, IsTrue, refl, sym, ap, ◌∙◌, subst}
use Rattle.bank_tables.specs.Items.{has}
use Rattle.bank_tables.specs.Tables.{Tables}
use Rattle.exam_edge.specs.Images.{AllImages, AtEachMoment, latest}
use Rattle.exam_edge.specs.Lent.{IsLent}
use Rattle.form_model.specs.Plan.{Plan}
use Rattle.history_model.specs.declared.entry.Entry.{Entry}
use Rattle.history_model.specs.declared.entry.Entry.TheVariants.{Started}
use Rattle.history_model.specs.declared.refusal.Refusal.{Refusal}
use Rattle.history_model.specs.declared.refusal.Refusal.TheVariants.{NoSession, OtherBooking, WrongStep, Other, BadResponse, IsClosed, Stale, OtherList, NoItem, SessionsFull, NoForm, NoneFound, JournalFull, Disk, Memory}
use Rattle.history_model.specs.declared.request.Request.TheVariants.{BeginWithout}
use Rattle.history_model.specs.Entries.{holder}
use Rattle.history_model.specs.Halting.{IsNextOf, first}
use Rattle.history_model.specs.Legality.{Legal}
use Rattle.history_model.specs.Lists.{LacksForm, no_form, none_found}
use Rattle.history_model.specs.Refusals.{refusal_of}
use Rattle.history_model.specs.Requests.{Leads, by_begin_without, BeginsWithout}
use Rattle.answer_journal.specs.Journal.{tells_of, accounts_of, faults_of, identity_of}
use Rattle.exam_office.specs.declared.mark.Mark.{Mark}
use Rattle.exam_office.specs.Asking.{IsGood, IsDurable, Steps, IsBegunBy}
use Rattle.exam_office.specs.Calls.{refuse, nothing, add, Calls, IsLeft, LacksWitness, IsStartWithout, FindsStartWithout, IsFreshlyBy}
use Rattle.exam_office.specs.Files.{StandsSecond}
use Rattle.exam_office.specs.Marks.{history}
use Rattle.exam_office.specs.Running.{Running}
use Rattle.exam_office.specs.Writing.{IsSameOffice}
use Rattle.exam_office.proofs.Marking.{history-own}
use Rattle.exam_office.proofs.Starts.{held_so}
use Rattle.exam_office.proofs.Firsts.{IsTurned, by_test, by_want, by_memory, IsFirst, first_so, first_call_steps, DoneLeading, one_test}
use Rattle.exam_office.proofs.Surely.{mended_none, no_longer}

-- ---- why none is started
module _ (b : Tables) (plan : Plan) (H : List Entry) (booking : ℕ) (items : List ℕ) (none : refusal_of b plan H (BeginWithout booking items) ≡ None) (free : holder H booking ≡ None) where
  abbrev Turned : Refusal → Type 0
  Turned r = IsTurned b plan H (BeginWithout booking items) r

  by_form : (r : Refusal) → LacksForm b plan (has items) r → Turned r
  by_form r (no_form P whole lacks) = by_want NoForm none (inr (record { same = refl; not_booked = free; why = NoForm; lacks = no_form P whole lacks; reply = refl })) tt
  by_form r (none_found P T leaves whole verdict spent) = by_want NoneFound none (inr (record { same = refl; not_booked = free; why = NoneFound; lacks = none_found P T leaves whole verdict spent; reply = refl })) tt

  by_lack : (r : Refusal) → LacksWitness b plan items r → Turned r
  by_lack Memory lacks = by_memory none
  by_lack Disk lacks = by_form Disk lacks
  by_lack (JournalFull size) lacks = by_form (JournalFull size) lacks
  by_lack (NoSession count) lacks = by_form (NoSession count) lacks
  by_lack OtherBooking lacks = by_form OtherBooking lacks
  by_lack (WrongStep k) lacks = by_form (WrongStep k) lacks
  by_lack (Other k) lacks = by_form (Other k) lacks
  by_lack (BadResponse k) lacks = by_form (BadResponse k) lacks
  by_lack (IsClosed at) lacks = by_form (IsClosed at) lacks
  by_lack (Stale at aside) lacks = by_form (Stale at aside) lacks
  by_lack (OtherList session) lacks = by_form (OtherList session) lacks
  by_lack (NoItem number) lacks = by_form (NoItem number) lacks
  by_lack (SessionsFull count) lacks = by_form (SessionsFull count) lacks
  by_lack NoForm lacks = by_form NoForm lacks
  by_lack NoneFound lacks = by_form NoneFound lacks

module _ (b : Tables) (plan : Plan) (H : List Entry) (booking : ℕ) (items : List ℕ) (witness : Result (List ℕ) Refusal) where
  turned_by : (r : Refusal) → FindsStartWithout b plan booking items witness H (refuse r) → IsTurned b plan H (BeginWithout booking items) r
  turned_by r (inl test) = by_test r test
  turned_by r (inr want) = by_lack b plan H booking items want.0 want.1 r want.3

  apart_by : (r : Refusal) (e : Entry) → FindsStartWithout b plan booking items witness H (refuse r) → FindsStartWithout b plan booking items witness H (add e) → ⊥
  apart_by r e (inl test) more = one_test r test more.0
  apart_by r e (inr want) more =
      let form = more.2.list.form in
      let clash : ◌≡◌ {A = Result (List ℕ) Refusal} (Err r) (Ok form) = sym want.2 ∙ more.2.form_is in
      absurd (cc)

-- ---- the first call
module _ {D : Type 0} (booking : ℕ) (items : List ℕ) (witness : Result (List ℕ) Refusal) (old new : Running D) (durable : IsDurable old.bank old.plan old)
    (frame : IsLent tells_of identity_of faults_of old.journal new.journal)
    (moments : IsTrue (tells_of old.journal) → AtEachMoment (accounts_of old.journal) (accounts_of new.journal) (IsLeft old.bank old.plan (FindsStartWithout old.bank old.plan booking items witness) (history old.marks) old.doubt)) where
  next_start : (e : Entry) → FindsStartWithout old.bank old.plan booking items witness (history old.marks) (add e) → (session : ℕ) × Leads old.bank old.plan (history old.marks) (BeginWithout booking items) session true (history old.marks ++ e ∷ []) × (holder (history old.marks ++ e ∷ []) booking ≡ Some session)
  next_start e says =
      let H = history old.marks in
      let s = says.2 in
      let own : Entry = Started s.session booking s.eligible (Some s.list) in
      let legal : Legal old.bank old.plan H own = subst (λ (x : Entry). Legal old.bank old.plan H x) s.is says.3 in (
        s.session,
        subst (λ (x : Entry). Leads old.bank old.plan H (BeginWithout booking items) s.session true (H ++ x ∷ [])) (sym s.is)
            (by_begin_without booking items s.session true (H ++ own ∷ []) (BeginsWithout.is_new s.session s.eligible s.list says.1 s.items_are legal)),
        ap (λ (x : Entry). holder (H ++ x ∷ []) booking) s.is ∙ held_so H s.session booking s.eligible (Some s.list) says.1,
      )

  first_start : (e : Entry) → FindsStartWithout old.bank old.plan booking items witness (history old.marks) (add e) → IsNextOf old.bank old.plan (history old.marks) (BeginWithout booking items) (history old.marks) e
  first_start e says = let n = next_start e says in first n.0 true e n.1

  good_start : (e : Entry) → FindsStartWithout old.bank old.plan booking items witness (history old.marks) (add e) → IsGood old.bank old.plan old.base (history old.marks) e
  good_start e says = subst (λ (x : Entry). IsGood old.bank old.plan old.base (history old.marks) x) (sym says.2.is) tt

  pub list_steps : IsSameOffice old new → Steps (IsBegunBy old.bank old.plan old.base (history old.marks) (BeginWithout booking items)) old new
  list_steps same =
      first_call_steps (BeginWithout booking items) (FindsStartWithout old.bank old.plan booking items witness) (λ G. Unit {0}) old new durable
      (λ r says. turned_by old.bank old.plan (history old.marks) booking items witness r says)
      (λ r e says more. apart_by old.bank old.plan (history old.marks) booking items witness r e says more)
      (λ e says. says.0)
      first_start
      good_start
      (λ says grown. tt)
      (λ e says grown. tt)
      frame moments same

  pub list_unstarted : (r : Refusal) → Calls (FindsStartWithout old.bank old.plan booking items witness) old new (Some r) → IsFirst (BeginWithout booking items) (λ G. Unit {0}) old new (Some r)
  list_unstarted r calls =
      first_so (BeginWithout booking items) (FindsStartWithout old.bank old.plan booking items witness) (λ G. Unit {0}) old new durable
      (λ q says. turned_by old.bank old.plan (history old.marks) booking items witness q says)
      (λ q e says more. apart_by old.bank old.plan (history old.marks) booking items witness q e says more)
      (λ e says. says.0)
      first_start
      good_start
      (λ says grown. tt)
      (λ e says grown. tt)
      frame moments (Some r) (λ e. absurd (cc)) calls

  module _ (session : ℕ) (held : holder (history new.marks) booking ≡ Some session) where
    there_found : (fresh : Bool) → IsFreshlyBy old new (IsStartWithout booking items witness) fresh → FindsStartWithout old.bank old.plan booking items witness (history old.marks) nothing → history new.marks ≡ history old.marks → DoneLeading old.bank old.plan (history old.marks) (BeginWithout booking items) session fresh (history old.marks)
    there_found false freshly says grown =
        let H = history old.marks in
        let here : holder H booking ≡ Some session = subst (λ (G : List Entry). holder G booking ≡ Some session) grown held in
        (says.0, by_begin_without booking items session false H (BeginsWithout.is_there session here))
    there_found true freshly says grown =
        let M = freshly.0 in
        let e = freshly.1 in
        let is = mended_none old.marks M old.doubt freshly.3 durable.sure in
        let own : history new.marks ≡ history old.marks ++ e ∷ [] = ap history freshly.4 ∙ (history-own M e freshly.2 ∙ ap (λ (N : List Mark). history N ++ e ∷ []) is) in
        absurd (no_longer (history old.marks) e (sym own ∙ grown))

    newly_written : (fresh : Bool) → IsFreshlyBy old new (IsStartWithout booking items witness) fresh → (e : Entry) → FindsStartWithout old.bank old.plan booking items witness (history old.marks) (add e) → history new.marks ≡ history old.marks ++ e ∷ [] → DoneLeading old.bank old.plan (history old.marks) (BeginWithout booking items) session fresh (history old.marks ++ e ∷ [])
    newly_written false freshly e says grown =
        absurd (no_longer (history old.marks) e (sym grown ∙ ap history (mended_none old.marks new.marks old.doubt freshly durable.sure)))
    newly_written true freshly e says grown =
        let H = history old.marks in
        let n = next_start e says in
        let held_now : holder (H ++ e ∷ []) booking ≡ Some session = subst (λ (G : List Entry). holder G booking ≡ Some session) grown held in
        let same : ◌≡◌ {A = Option ℕ} (Some n.0) (Some session) = sym n.2 ∙ held_now in
        let number : n.0 ≡ session = cc in
        (says.0, subst (λ (k : ℕ). Leads old.bank old.plan H (BeginWithout booking items) k true (H ++ e ∷ [])) number n.1)

    pub list_first : (fresh : Bool) → IsFreshlyBy old new (IsStartWithout booking items witness) fresh → (IsTrue (tells_of old.journal) → AllImages (StandsSecond old.bank old.plan (history new.marks)) (latest (accounts_of new.journal)))
        → Calls (FindsStartWithout old.bank old.plan booking items witness) old new None → IsFirst (BeginWithout booking items) (DoneLeading old.bank old.plan (history old.marks) (BeginWithout booking items) session fresh) old new None
    list_first fresh freshly lasts calls =
        first_so (BeginWithout booking items) (FindsStartWithout old.bank old.plan booking items witness) (DoneLeading old.bank old.plan (history old.marks) (BeginWithout booking items) session fresh) old new durable
        (λ q says. turned_by old.bank old.plan (history old.marks) booking items witness q says)
        (λ q e says more. apart_by old.bank old.plan (history old.marks) booking items witness q e says more)
        (λ e says. says.0)
        first_start
        good_start
        (λ says grown. there_found fresh freshly says grown)
        (λ e says grown. newly_written fresh freshly e says grown)
        frame moments None (λ e. lasts) calls
