-- A request from its steps.
use Rattle.std.proofs.Common.{◌≡◌, inl, inr, ℕ, Bool, true, false, cond, ◌==◌, List, [], ◌∷◌, ◌++◌, Option, Some, None, Result, Ok, Err, IfOk, IsTrue, refl, sym, ap, ◌∙◌, subst, arith}
use Rattle.std.specs.Prelude.{nat_le, nat_lt}
use Rattle.bank_tables.specs.Tables.{Tables, categories, size}
use Rattle.exam_edge.specs.Images.{AllImages, AtEachMoment, latest}
use Rattle.exam_edge.specs.ImageLaws.{weaker}
use Rattle.exam_edge.specs.Lent.{IsLent}
use Rattle.form_model.specs.Plan.{Plan}
use Rattle.history_model.specs.declared.entry.Entry.{Entry}
use Rattle.history_model.specs.declared.entry.Entry.TheVariants.{Started, Answered, Closed as OfClosed}
use Rattle.history_model.specs.declared.place.Place.{Place}
use Rattle.history_model.specs.declared.place.Place.TheVariants.{Pending, Waiting, Complete, Closed}
use Rattle.history_model.specs.declared.refusal.Refusal.{Refusal}
use Rattle.history_model.specs.declared.refusal.Refusal.TheVariants.{NoSession, OtherBooking, WrongStep, Other, BadResponse, IsClosed, Stale, OtherList, NoItem, SessionsFull, NoForm, NoneFound, JournalFull, Disk, Memory}
use Rattle.history_model.specs.declared.request.Exposure.{Exposure}
use Rattle.history_model.specs.declared.request.Request.{Request}
use Rattle.history_model.specs.declared.request.Request.TheVariants as request
use Rattle.history_model.specs.declared.request.Reply.{Reply}
use Rattle.history_model.specs.declared.request.Reply.TheVariants as reply
use Rattle.history_model.specs.Entries.{sessions, holder, is_started, list_of}
use Rattle.history_model.specs.Halting.{IsBeforeServing, led, IsCutOff, at_start, before_serving, IsNextOf, first}
use Rattle.history_model.specs.Halting.{set_aside as led_aside, aside as next_aside, served as next_served}
use Rattle.history_model.specs.Places.{place}
use Rattle.history_model.specs.Refusals.{recorded, is_of_another, unless_other, refusal_of, refusal_of_new, refusal_of_list, is_list, has_list, refusal_at, refusal_of_answer, refusal_of_closing, in_session}
use Rattle.history_model.specs.Requests.{Begins, BeginsWithout, RecordsAnswer, Leads, by_begin, by_begin_without, by_answer, by_look, IsServedBy, IsExposureOf, DoesUnrefused, DoesUnless, Does}
use Rattle.answer_journal.specs.Journal.{tells_of, accounts_of, faults_of, identity_of}
use Rattle.exam_office.specs.Asking.{IsStoppedBy, AreGood, no_more, one_more, IsDurable, StandsForOne, Steps, IsBegunBy, not_begun, begun, IsOnTheWay, IsSettled, IsSettledReply, IsMendedOrFull, Becomes, done, halted, IsAsked, IsAskedSurely, reply_of}
use Rattle.exam_office.specs.Calls.{refused_with}
use Rattle.exam_office.specs.Files.{StandsSecond}
use Rattle.exam_handler.specs.Handling.{IsRefusal, IsReply}
use Rattle.exam_office.specs.Marks.{history}
use Rattle.exam_office.specs.Running.{Running}
use Rattle.exam_office.specs.Serving.{IsBeforeItem, waits, set_aside, ServesNext, aside, item, IsServedAlong, not_served, with_next, IsServed, served, unserved}
use Rattle.exam_office.specs.Writing.{as_before, IsMending, IsMended, IsSameOffice, IsUnmended}
use Rattle.exam_office.proofs.Advancing.{closed_there}
use Rattle.exam_office.proofs.Calling.{mended_one_of}
use Rattle.exam_office.proofs.Firsts.{IsFirst, first_done, first_refused, first_wanting, first_stopped, DoneLeading, DoneClosing}
use Rattle.exam_office.proofs.Marking.{history-fault}
use Rattle.exam_office.proofs.Sessions.{not_there}
use Rattle.exam_office.proofs.Surely.{moved, moved_back, no_unmended, stopped_weaker, steps_joined, stayed_steps}

-- ---- why a request is refused
refused_at : (b : Tables) (step response : ℕ) (at : Place) (r : Refusal) → refusal_at b step response at ≡ Some r → IsRefusal r
refused_at b step response (Pending k) r e = let is : WrongStep k ≡ r = cc in subst IsRefusal is tt
refused_at b step response (Waiting k x proved) r e = by (k == step) e
  where
    in_range : (t : Bool) → cond t None (Some (BadResponse (categories b x))) ≡ Some r → IsRefusal r
    in_range true e1 = absurd (cc)
    in_range false e1 = let is : BadResponse (categories b x) ≡ r = cc in subst IsRefusal is tt

    by : (t : Bool) → cond t (cond (nat_lt response (categories b x)) None (Some (BadResponse (categories b x)))) (Some (WrongStep k)) ≡ Some r → IsRefusal r
    by true e1 = in_range (nat_lt response (categories b x)) e1
    by false e1 = let is : WrongStep k ≡ r = cc in subst IsRefusal is tt
refused_at b step response Complete r e = let is : IsClosed Complete ≡ r = cc in subst IsRefusal is tt
refused_at b step response Closed r e = let is : IsClosed Closed ≡ r = cc in subst IsRefusal is tt

refused_answer : (b : Tables) (step response : ℕ) (at : Place) (o : Option ℕ) (r : Refusal) → refusal_of_answer b step response at o ≡ Some r → IsRefusal r
refused_answer b step response at None r e = refused_at b step response at r e
refused_answer b step response at (Some given) r e = by (given == response) e
  where
    by : (t : Bool) → cond t None (Some (Other given)) ≡ Some r → IsRefusal r
    by true e1 = absurd (cc)
    by false e1 = let is : Other given ≡ r = cc in subst IsRefusal is tt

refused_closing : (at : Place) (r : Refusal) → refusal_of_closing at ≡ Some r → IsRefusal r
refused_closing (Pending k) r e = absurd (cc)
refused_closing (Waiting k x proved) r e = absurd (cc)
refused_closing Complete r e = let is : IsClosed Complete ≡ r = cc in subst IsRefusal is tt
refused_closing Closed r e = let is : IsClosed Closed ≡ r = cc in subst IsRefusal is tt

refused_in : (H : List Entry) (o : Option Place) (f : Place → Option Refusal) (r : Refusal) → ((at : Place) → f at ≡ Some r → IsRefusal r) → in_session H o f ≡ Some r → IsRefusal r
refused_in H None f r there e = let is : NoSession (sessions H) ≡ r = cc in subst IsRefusal is tt
refused_in H (Some at) f r there e = there at e

refused_unless : (other : Bool) (why : Option Refusal) (r : Refusal) → (why ≡ Some r → IsRefusal r) → unless_other other why ≡ Some r → IsRefusal r
refused_unless true why r there e = let is : OtherBooking ≡ r = cc in subst IsRefusal is tt
refused_unless false why r there e = there e

refused_new : (plan : Plan) (H : List Entry) (o : Option ℕ) (r : Refusal) → refusal_of_new plan H o ≡ Some r → IsRefusal r
refused_new plan H (Some s) r e = absurd (cc)
refused_new plan H None r e = by (nat_le plan.sessions (sessions H)) e
  where
    by : (t : Bool) → cond t (Some (SessionsFull (sessions H))) None ≡ Some r → IsRefusal r
    by true e1 = let is : SessionsFull (sessions H) ≡ r = cc in subst IsRefusal is tt
    by false e1 = absurd (cc)

refused_list : (b : Tables) (plan : Plan) (H : List Entry) (items : List ℕ) (o : Option ℕ) (r : Refusal) → refusal_of_list b plan H items o ≡ Some r → IsRefusal r
refused_list b plan H items (Some s) r e = by (has_list items (list_of H s)) e
  where
    by : (t : Bool) → cond t None (Some (OtherList s)) ≡ Some r → IsRefusal r
    by true e1 = absurd (cc)
    by false e1 = let is : OtherList s ≡ r = cc in subst IsRefusal is tt
refused_list b plan H items None r e = by (is_list b items) e
  where
    by : (t : Bool) → cond t (refusal_of_new plan H None) (Some (NoItem (size b))) ≡ Some r → IsRefusal r
    by true e1 = refused_new plan H None r e1
    by false e1 = let is : NoItem (size b) ≡ r = cc in subst IsRefusal is tt

pub refused_so : (b : Tables) (plan : Plan) (H : List Entry) (asked : Request) (r : Refusal) → refusal_of b plan H asked ≡ Some r → IsRefusal r
refused_so b plan H (request.Begin booking) r e = refused_new plan H (holder H booking) r e
refused_so b plan H (request.BeginWithout booking items) r e = refused_list b plan H items (holder H booking) r e
refused_so b plan H (request.Answer s step response booking) r e =
    let other = is_of_another H s booking in
    let why : Place → Option Refusal = λ at. refusal_of_answer b step response at (recorded H s step) in
    refused_in H (place plan H s) (λ (at : Place). unless_other other (why at)) r (λ at e1. refused_unless other (why at) r (refused_answer b step response at (recorded H s step) r) e1) e
refused_so b plan H (request.Close s booking) r e =
    let other = is_of_another H s booking in
    refused_in H (place plan H s) (λ (at : Place). unless_other other (refusal_of_closing at)) r (λ at e1. refused_unless other (refusal_of_closing at) r (refused_closing at r) e1) e
refused_so b plan H (request.Look s) r e = refused_in H (place plan H s) (λ (at : Place). None) r (λ at e1. absurd (cc)) e
refused_so b plan H request.Exposure r e = absurd (cc)

stopped_refusal : {D : Type 0} (b : Tables) (plan : Plan) (H : List Entry) (N : Entry → Type 0) (old new : Running D) (r : Refusal) → IsStoppedBy b plan H N old new r → IsRefusal r
stopped_refusal b plan H N old new Memory why = tt
stopped_refusal b plan H N old new Disk why = tt
stopped_refusal b plan H N old new (JournalFull size) why = tt
stopped_refusal b plan H N old new (NoSession count) why = absurd why
stopped_refusal b plan H N old new OtherBooking why = absurd why
stopped_refusal b plan H N old new (WrongStep k) why = absurd why
stopped_refusal b plan H N old new (Other k) why = absurd why
stopped_refusal b plan H N old new (BadResponse k) why = absurd why
stopped_refusal b plan H N old new (IsClosed at) why = absurd why
stopped_refusal b plan H N old new (Stale at flag) why = absurd why
stopped_refusal b plan H N old new (SessionsFull count) why = absurd why
stopped_refusal b plan H N old new (OtherList session) why = absurd why
stopped_refusal b plan H N old new (NoItem number) why = absurd why
stopped_refusal b plan H N old new NoForm why = absurd why
stopped_refusal b plan H N old new NoneFound why = absurd why

-- ---- a request that leads to a session
module _ (b : Tables) (plan : Plan) (base : List ℕ) (H : List Entry) where
  begun_lead : (asked : Request) (s : ℕ) (fresh : Bool) (G : List Entry) → Leads b plan H asked s fresh G → IsBegunBy b plan base H asked G
  begun_lead asked s fresh G (by_begin booking session flag K (Begins.is_there n held)) = not_begun
  begun_lead asked s fresh G (by_begin booking session flag K (Begins.is_new n eligible none legal)) =
      let e = Started n booking eligible None in
      begun H e (first n true e (by_begin booking n true (H ++ e ∷ []) (Begins.is_new n eligible none legal))) (one_more H e no_more tt)
  begun_lead asked s fresh G (by_begin_without booking items session flag K (BeginsWithout.is_there n held)) = not_begun
  begun_lead asked s fresh G (by_begin_without booking items session flag K (BeginsWithout.is_new n eligible list none same legal)) =
      let e = Started n booking eligible (Some list) in
      begun H e (first n true e (by_begin_without booking items n true (H ++ e ∷ []) (BeginsWithout.is_new n eligible list none same legal))) (one_more H e no_more tt)
  begun_lead asked s fresh G (by_answer session step response booking K (RecordsAnswer.is_there known)) = not_begun
  begun_lead asked s fresh G (by_answer session step response booking K (RecordsAnswer.is_new none legal)) =
      let e = Answered session step response in
      begun H e (first session false e (by_answer session step response booking (H ++ e ∷ []) (RecordsAnswer.is_new none legal))) (one_more H e no_more tt)
  begun_lead asked s fresh G (by_look session) = not_begun

  good_lead : (asked : Request) (s : ℕ) (fresh : Bool) (G : List Entry) → Leads b plan H asked s fresh G → AreGood b plan base H G
  good_lead asked s fresh G (by_begin booking session flag K (Begins.is_there n held)) = no_more
  good_lead asked s fresh G (by_begin booking session flag K (Begins.is_new n eligible none legal)) = one_more H (Started n booking eligible None) no_more tt
  good_lead asked s fresh G (by_begin_without booking items session flag K (BeginsWithout.is_there n held)) = no_more
  good_lead asked s fresh G (by_begin_without booking items session flag K (BeginsWithout.is_new n eligible list none same legal)) = one_more H (Started n booking eligible (Some list)) no_more tt
  good_lead asked s fresh G (by_answer session step response booking K (RecordsAnswer.is_there known)) = no_more
  good_lead asked s fresh G (by_answer session step response booking K (RecordsAnswer.is_new none legal)) = one_more H (Answered session step response) no_more tt
  good_lead asked s fresh G (by_look session) = no_more

  good_joined : (G K : List Entry) → AreGood b plan base H G → AreGood b plan base G K → AreGood b plan base H K
  good_joined G K one no_more = one
  good_joined G K one (one_more J e two good) = one_more J e (good_joined G J one two) good

  unrefused_lead : (asked : Request) (s : ℕ) (fresh : Bool) (G H2 : List Entry) (answer : Reply) → Leads b plan H asked s fresh G → IsServedBy b plan H asked H2 answer → DoesUnrefused b plan H asked H2 answer
  unrefused_lead asked s fresh G H2 answer (by_begin booking session flag K begins) is = is
  unrefused_lead asked s fresh G H2 answer (by_begin_without booking items session flag K begins) is = inl is
  unrefused_lead asked s fresh G H2 answer (by_answer session step response booking K records) is = is
  unrefused_lead asked s fresh G H2 answer (by_look session) is = is

  module _ (asked : Request) (s : ℕ) (fresh : Bool) (G : List Entry) (leads : Leads b plan H asked s fresh G) where
    before_of : (K : List Entry) → IsBeforeItem b plan G s K → IsBeforeServing b plan H asked s K
    before_of K (waits step pending) = led s step fresh G leads pending
    before_of K (set_aside a setting) = led_aside s fresh G a leads setting

    next_of : (K : List Entry) (e : Entry) → ServesNext b plan G s K e → IsNextOf b plan H asked K e
    next_of K e (aside x setting) = next_aside s fresh G x leads setting
    next_of K e (item J x before firm) = next_served s J x (before_of J before) firm

    begun_along : (K : List Entry) → IsServedAlong b plan base G s K → IsBegunBy b plan base H asked K
    begun_along K not_served = begun_lead asked s fresh G leads
    begun_along K (with_next J e next good) = begun J e (next_of J e next) (good_joined G (J ++ e ∷ []) (good_lead asked s fresh G leads) good)

  does_unrefused : (asked : Request) (K : List Entry) (answer : Reply) → refusal_of b plan H asked ≡ None → DoesUnrefused b plan H asked K answer → Does b plan H asked K answer
  does_unrefused asked K answer none is = subst (λ (o : Option Refusal). DoesUnless o b plan H asked K answer) (sym none) is

  does_refused : (asked : Request) (K : List Entry) (r : Refusal) → refusal_of b plan H asked ≡ Some r → K ≡ H → Does b plan H asked K (reply.Refused r)
  does_refused asked K r is same = subst (λ (o : Option Refusal). DoesUnless o b plan H asked K (reply.Refused r)) (sym is) (same, refl)

-- ---- the first step, and then the item
module _ {D : Type 0} (asked : Request) (old new : Running D) where
  -- it is refused, or stops before its first entry
  pub first_fails : (Done : List Entry → Type 0) (o : Option Refusal) (r : Refusal) → o ≡ Some r → IsFirst asked Done old new o → Steps (IsBegunBy old.bank old.plan old.base (history old.marks) asked) old new → IsAskedSurely old asked (reply.Refused r) new
  first_fails Done o r is (first_done did durable) steps = absurd (cc)
  first_fails Done o r is (first_refused q why grown durable) steps =
      let H = history old.marks in
      let same : q ≡ r = cc in
      subst (λ (x : Refusal). IsAskedSurely old asked (reply.Refused x) new) same
      (record {
        becomes = done (does_refused old.bank old.plan old.base H asked (history new.marks) q why grown) durable;
        good = subst (λ (G : List Entry). AreGood old.bank old.plan old.base H G) (sym grown) no_more;
        settled = refused_so old.bank old.plan H asked q why;
        steps = steps;
      })
  first_fails Done o r is (first_wanting q none does refuses grown durable) steps =
      let H = history old.marks in
      let same : q ≡ r = cc in
      let here = does_unrefused old.bank old.plan old.base H asked H (reply.Refused q) none does in
      subst (λ (x : Refusal). IsAskedSurely old asked (reply.Refused x) new) same
      (record {
        becomes = done (subst (λ (G : List Entry). Does old.bank old.plan H asked G (reply.Refused q)) (sym grown) here) durable;
        good = subst (λ (G : List Entry). AreGood old.bank old.plan old.base H G) (sym grown) no_more;
        settled = refuses;
        steps = steps;
      })
  first_fails Done o r is (first_stopped q none grown why) steps =
      let H = history old.marks in
      let same : q ≡ r = cc in
      subst (λ (x : Refusal). IsAskedSurely old asked (reply.Refused x) new) same
      (record {
        becomes = halted (record {
          cut_off = subst (λ (G : List Entry). IsCutOff old.bank old.plan H asked G) (sym grown) at_start;
          why = q;
          because = subst (λ (G : List Entry). IsStoppedBy old.bank old.plan G (IsNextOf old.bank old.plan H asked G) old new q) (sym grown) why;
          reply = refl;
          not_refused = inr none;
        });
        good = subst (λ (G : List Entry). AreGood old.bank old.plan old.base H G) (sym grown) no_more;
        settled = stopped_refusal old.bank old.plan H (IsNextOf old.bank old.plan H asked H) old new q why;
        steps = steps;
      })

module _ {D : Type 0} (asked : Request) (old mid new : Running D) (s : ℕ) (fresh : Bool) (steps : Steps (IsBegunBy old.bank old.plan old.base (history old.marks) asked) old mid)
    (leading : DoneLeading old.bank old.plan (history old.marks) asked s fresh (history mid.marks))
    (lasts : IsDurable old.bank old.plan mid) (then : Steps (IsServedAlong mid.bank mid.plan mid.base (history mid.marks) s) mid new) where
  both_steps : Steps (IsBegunBy old.bank old.plan old.base (history old.marks) asked) old new
  both_steps =
      let H = history old.marks in
      let G = history mid.marks in
      steps_joined old mid new (IsBegunBy old.bank old.plan old.base H asked) (IsServedAlong mid.bank mid.plan mid.base G s) (IsBegunBy old.bank old.plan old.base H asked)
      (λ K is. is)
      (λ K along. begun_along old.bank old.plan old.base H asked s fresh G leading.1 K (moved old mid steps.same (λ (t : Tables) (p : Plan) (c : List ℕ). IsServedAlong t p c G s K) along))
      steps then

  served_so : (result : Result Place Refusal) → IsServed old.bank old.plan old.base s mid new (refused_with result) → IfOk result (λ at. place old.plan (history new.marks) s ≡ Some at) → IfOk result IsSettled → IsAskedSurely old asked (reply_of s fresh result) new
  served_so (Ok at) (served advances good durable) stands settled =
      let H = history old.marks in
      let G = history mid.marks in
      let K = history new.marks in
      record {
        becomes = done (does_unrefused old.bank old.plan old.base H asked K (reply.At s at fresh) leading.0
            (unrefused_lead old.bank old.plan old.base H asked s fresh G K (reply.At s at fresh) leading.1
            (record { session = s; fresh = fresh; begun = G; leads = leading.1; advances = advances; at = at; stands = stands; reply = refl }))) durable;
        good = good_joined old.bank old.plan old.base H G K (good_lead old.bank old.plan old.base H asked s fresh G leading.1) good;
        settled = settled;
        steps = both_steps;
      }
  served_so (Err q) (unserved r before good why) stands settled =
      let H = history old.marks in
      let G = history mid.marks in
      let K = history new.marks in
      record {
        becomes = halted (record {
          cut_off = before_serving s K (before_of old.bank old.plan old.base H asked s fresh G leading.1 K before);
          why = r;
          because = stopped_weaker old.bank old.plan K (ServesNext old.bank old.plan G s K) (IsNextOf old.bank old.plan H asked K) (next_of old.bank old.plan old.base H asked s fresh G leading.1 K) old mid new steps.frame.grows (λ e. lasts.sure) r why;
          reply = refl;
          not_refused = inr leading.0;
        });
        good = good_joined old.bank old.plan old.base H G K (good_lead old.bank old.plan old.base H asked s fresh G leading.1) good;
        settled = stopped_refusal old.bank old.plan K (ServesNext old.bank old.plan G s K) mid new r why;
        steps = both_steps;
      }

  pub led_and_served : (result : Result Place Refusal) → IsServed mid.bank mid.plan mid.base s mid new (refused_with result) → IfOk result (λ at. place new.plan (history new.marks) s ≡ Some at) → IfOk result IsSettled → IsAskedSurely old asked (reply_of s fresh result) new
  led_and_served result is stands settled =
      served_so result (moved old mid steps.same (λ (t : Tables) (p : Plan) (c : List ℕ). IsServed t p c s mid new (refused_with result)) is)
      (subst (λ (p : Plan). IfOk result (λ at. place p (history new.marks) s ≡ Some at)) (then.same.plan ∙ steps.same.plan) stands) settled

-- what the first step led to, and that it lasts
pub first_led : {D : Type 0} (asked : Request) (Done : List Entry → Type 0) (old new : Running D) → IsFirst asked Done old new None → Done (history new.marks) × IsDurable old.bank old.plan new
first_led asked Done old new is = by None refl is
  where
    by : (o : Option Refusal) → o ≡ None → IsFirst asked Done old new o → Done (history new.marks) × IsDurable old.bank old.plan new
    by o e (first_done did durable) = (did, durable)
    by o e (first_refused r why grown durable) = absurd (cc)
    by o e (first_wanting r none does refuses grown durable) = absurd (cc)
    by o e (first_stopped r none grown why) = absurd (cc)

-- it lasts for the office that goes on
pub durable_on : {D : Type 0} (old new : Running D) → IsSameOffice old new → IsDurable old.bank old.plan new → IsDurable new.bank new.plan new
durable_on old new same durable = moved_back old new same (λ (t : Tables) (p : Plan) (c : List ℕ). IsDurable t p new) durable

-- ---- a closing
pub closed_so : {D : Type 0} (s : ℕ) (booking : Option ℕ) (old new : Running D) (at : Place) → IsFirst (request.Close s booking) (DoneClosing old.bank old.plan (history old.marks) s booking) old new None → Steps (IsBegunBy old.bank old.plan old.base (history old.marks) (request.Close s booking)) old new
    → place new.plan (history new.marks) s ≡ Some at → IsAskedSurely old (request.Close s booking) (reply.At s at false) new
closed_so s booking old new at is steps stands =
    let H = history old.marks in
    let K = history new.marks in
    let done_so = first_led (request.Close s booking) (DoneClosing old.bank old.plan H s booking) old new is in
    let did = done_so.0 in
    let here : place old.plan K s ≡ Some at = subst (λ (p : Plan). place p K s ≡ Some at) steps.same.plan stands in
    let closed : place old.plan K s ≡ Some Closed = ap (λ (G : List Entry). place old.plan G s) did.2 ∙ closed_there old.plan H s did.1.at did.1.stands in
    let e : ◌≡◌ {A = Option Place} (Some at) (Some Closed) = sym here ∙ closed in
    let same : Closed ≡ at = cc in
    record {
      becomes = done (does_unrefused old.bank old.plan old.base H (request.Close s booking) K (reply.At s at false) did.0 (record { legal = did.1; closed = did.2; at = at; stands = here; reply = refl })) done_so.1;
      good = subst (λ (G : List Entry). AreGood old.bank old.plan old.base H G) (sym did.2) (one_more H (OfClosed s) no_more tt);
      settled = subst IsSettled same tt;
      steps = steps;
    }

-- ---- a look
pub look_leads : (b : Tables) (plan : Plan) (H : List Entry) (s : ℕ) (at : Place) → place plan H s ≡ Some at → DoneLeading b plan H (request.Look s) s false H
look_leads b plan H s at stands = (ap (λ (o : Option Place). in_session H o (λ (p : Place). None)) stands, by_look s)

module _ {D : Type 0} (office : Running D) (durable : IsDurable office.bank office.plan office) where
  pub no_steps : (asked : Request) → Steps (IsBegunBy office.bank office.plan office.base (history office.marks) asked) office office
  no_steps asked = stayed_steps office (IsBegunBy office.bank office.plan office.base (history office.marks) asked) not_begun durable

  pub refused_here : (asked : Request) (r : Refusal) → refusal_of office.bank office.plan (history office.marks) asked ≡ Some r → IsAskedSurely office asked (reply.Refused r) office
  refused_here asked r is = record {
    becomes = done (does_refused office.bank office.plan office.base (history office.marks) asked (history office.marks) r is refl) durable;
    good = no_more;
    settled = refused_so office.bank office.plan (history office.marks) asked r is;
    steps = no_steps asked;
  }

  -- ---- the exposure
  pub exposed : (exposure : Exposure) → IsExposureOf office.bank office.plan (history office.marks) exposure → IsAskedSurely office request.Exposure (reply.Exposure exposure) office
  exposed exposure is = record {
    becomes = done (record { same = refl; exposure = exposure; is_exposure = is; reply = refl }) durable;
    good = no_more;
    settled = tt;
    steps = no_steps request.Exposure;
  }

  pub unexposed : (r : Refusal) → r ≡ Memory → IsAskedSurely office request.Exposure (reply.Refused r) office
  unexposed r is =
      subst (λ (x : Refusal). IsAskedSurely office request.Exposure (reply.Refused x) office) (sym is)
      (record { becomes = halted (record { cut_off = at_start; why = Memory; because = λ e. e; reply = refl; not_refused = inr refl }); good = no_more; settled = tt; steps = no_steps request.Exposure })

-- ---- a session that was begun
pub begun_is_there : {D : Type 0} (s : ℕ) (office : Running D) (r : Refusal) → is_started (history office.marks) s ≡ true → refusal_of office.bank office.plan (history office.marks) (request.Look s) ≡ Some r → ⊥
begun_is_there s office r started why = by (place office.plan (history office.marks) s) refl why
  where
    by : (o : Option Place) → place office.plan (history office.marks) s ≡ o → in_session (history office.marks) o (λ (p : Place). None) ≡ Some r → ⊥
    by (Some at) is e = absurd (cc)
    by None is e =
        let none : is_started (history office.marks) s ≡ false = not_there office.plan (history office.marks) s is in
        absurd (cc)

-- ---- the entry in doubt first
refused_is : (q r : Refusal) → reply.Refused q ≡ reply.Refused r → q ≡ r
refused_is q r is = cc

module _ {D : Type 0} (old mid : Running D) (same : IsSameOffice old mid) (frame : IsLent tells_of identity_of faults_of old.journal mid.journal)
    (mending : IsTrue (tells_of old.journal) → AtEachMoment (accounts_of old.journal) (accounts_of mid.journal) (IsMending old.bank old.plan (history old.marks) old.doubt)) where
  mending_one : (asked : Request) (file : List ℕ) → IsMending old.bank old.plan (history old.marks) old.doubt file → StandsForOne old.bank old.plan (IsOnTheWay old.bank old.plan old.base (history old.marks) old.doubt asked) file
  mending_one asked file m = record { so_far = m.so_far; is_one = record { from = m.so_far; is_one_of = m.is_one_of; begun = not_begun }; stands = m.stands }

  mending_steps : (asked : Request) → Steps (IsOnTheWay old.bank old.plan old.base (history old.marks) old.doubt asked) old mid
  mending_steps asked = record {
    same = same;
    frame = frame;
    moments = λ told.
        weaker (IsMending old.bank old.plan (history old.marks) old.doubt) (StandsForOne old.bank old.plan (IsOnTheWay old.bank old.plan old.base (history old.marks) old.doubt asked)) (mending_one asked) (accounts_of old.journal) (accounts_of mid.journal) (mending told);
  }

  -- it is resolved
  pub durable_mended : mid.doubt ≡ None → (IsTrue (tells_of old.journal) → AllImages (StandsSecond old.bank old.plan (history mid.marks)) (latest (accounts_of mid.journal))) → IsDurable mid.bank mid.plan mid
  durable_mended sure images = durable_on old mid same (record { sure = sure; images = λ told. images (subst IsTrue frame.tells told) })

  becomes_on : mid.doubt ≡ None → (asked : Request) (new : Running D) (answer : Reply) → Becomes old.bank old.plan (history mid.marks) asked mid new answer → Becomes old.bank old.plan (history mid.marks) asked old new answer
  becomes_on sure asked new answer (done does durable) = done does durable
  becomes_on sure asked new answer (halted h) =
      let none : refusal_of old.bank old.plan (history mid.marks) asked ≡ None = elim h.not_refused [
        | inl why ↦ absurd (no_unmended mid new sure h.why why)
        | inr none ↦ none
      ] in
      let K = history new.marks in
      let N = IsNextOf old.bank old.plan (history mid.marks) asked K in
      halted (record { cut_off = h.cut_off; why = h.why; because = stopped_weaker old.bank old.plan K N N (λ e is. is) old mid new frame.grows (λ e. sure) h.why h.because; reply = h.reply; not_refused = inr none })

  mended_by : mid.doubt ≡ None → (asked : Request) (new : Running D) (answer : Reply) → Becomes old.bank old.plan (history mid.marks) asked mid new answer → answer ≡ reply.Refused Memory → IsMendedOrFull old new
  mended_by sure asked new answer (done does durable) is = inl durable.sure
  mended_by sure asked new answer (halted h) is =
      let why_is : h.why ≡ Memory = refused_is h.why Memory (sym h.reply ∙ is) in
      inl ((subst (λ (r : Refusal). IsStoppedBy old.bank old.plan (history new.marks) (IsNextOf old.bank old.plan (history mid.marks) asked (history new.marks)) mid new r) why_is h.because) sure)

  pub then_asked : mid.doubt ≡ None → IsMended old.marks old.doubt mid.marks → (asked : Request) (new : Running D) (answer : Reply) → IsAskedSurely mid asked answer new → IsAsked old asked answer new
  then_asked sure mended asked new answer is =
      let G = history mid.marks in
      let one = mended_one_of old.marks old.doubt mid.marks mended in
      let H = history old.marks in
      record {
        from = G;
        is_one_of = one;
        becomes = becomes_on sure asked new answer (moved old mid same (λ (t : Tables) (p : Plan) (c : List ℕ). Becomes t p G asked mid new answer) is.becomes);
        good = moved old mid same (λ (t : Tables) (p : Plan) (c : List ℕ). AreGood t p c G (history new.marks)) is.good;
        settled = is.settled;
        mended = mended_by sure asked new answer (moved old mid same (λ (t : Tables) (p : Plan) (c : List ℕ). Becomes t p G asked mid new answer) is.becomes);
        steps = steps_joined old mid new (IsOnTheWay old.bank old.plan old.base H old.doubt asked) (IsBegunBy mid.bank mid.plan mid.base G asked) (IsOnTheWay old.bank old.plan old.base H old.doubt asked)
            (λ K w. w)
            (λ K w. record { from = G; is_one_of = one; begun = moved old mid same (λ (t : Tables) (p : Plan) (c : List ℕ). IsBegunBy t p c G asked K) w })
            (mending_steps asked) is.steps;
      }

  -- or isn't
  unmended_so : (r : Refusal) → IsUnmended old mid r → (history mid.marks ≡ history old.marks) × IsStoppedBy old.bank old.plan (history old.marks) (λ e. ⊥) old mid r
  unmended_so Memory why = (ap (λ (o : Running D). history o.marks) why.0, λ e. ap (λ (o : Running D). o.doubt) why.0 ∙ e)
  unmended_so Disk why = (ap history why.2.mark ∙ history-fault old.marks why.0, why.2.rose)
  unmended_so (JournalFull size) why = absurd why
  unmended_so (NoSession count) why = absurd why
  unmended_so OtherBooking why = absurd why
  unmended_so (WrongStep k) why = absurd why
  unmended_so (Other k) why = absurd why
  unmended_so (BadResponse k) why = absurd why
  unmended_so (IsClosed at) why = absurd why
  unmended_so (Stale at flag) why = absurd why
  unmended_so (SessionsFull count) why = absurd why
  unmended_so (OtherList session) why = absurd why
  unmended_so (NoItem number) why = absurd why
  unmended_so NoForm why = absurd why
  unmended_so NoneFound why = absurd why

  pub unmended_asked : (asked : Request) (r : Refusal) → IsUnmended old mid r → IsAsked old asked (reply.Refused r) mid
  unmended_asked asked r why =
      let H = history old.marks in
      let u = unmended_so r why in
      let because = stopped_weaker old.bank old.plan H (λ e. ⊥) (IsNextOf old.bank old.plan H asked H) (λ e no. absurd no) old old mid (omega arith) (λ e. e) r u.1 in
      record {
        from = H;
        is_one_of = as_before old.doubt;
        becomes = halted (record {
          cut_off = subst (λ (G : List Entry). IsCutOff old.bank old.plan H asked G) (sym u.0) at_start;
          why = r;
          because = subst (λ (G : List Entry). IsStoppedBy old.bank old.plan G (IsNextOf old.bank old.plan H asked G) old mid r) (sym u.0) because;
          reply = refl;
          not_refused = inl why;
        });
        good = subst (λ (G : List Entry). AreGood old.bank old.plan old.base H G) (sym u.0) no_more;
        settled = stopped_refusal old.bank old.plan H (λ e. ⊥) old mid r u.1;
        mended = λ is. inr (subst (λ (x : Refusal). IsUnmended old mid x) (refused_is r Memory is) why);
        steps = mending_steps asked;
      }

-- ---- the reply
pub settled_is_reply : (answer : Reply) → IsSettledReply answer → IsReply answer
settled_is_reply (reply.At s at fresh) is = tt
settled_is_reply (reply.Exposure exposure) is = tt
settled_is_reply (reply.Refused r) is = is
