-- One request of a drill: how it ends.
use Rattle.std.specs.Prelude.{⊤}
use Rattle.std.proofs.Common.{◌≡◌, inl, inr, ℕ, suc, ◌+◌, ◌<◌, Bool, true, false, cond, List, [], ◌∷◌, ◌++◌, length, map, get_or, take, drop, Option, Some, None, nat_lt, ◌==◌, refl, sym, ap, ◌∙◌, subst, drop-cons, arith}
use Rattle.std.proofs.lemmas.List.{map-append, take_more, take-append-drop}
use Rattle.std.proofs.Math.Seq.{take-length}
use Rattle.bank_tables.specs.Items.{Set, has}
use Rattle.bank_tables.specs.Tables.{Tables, categories, size}
use Rattle.form_model.specs.Plan.{Plan}
use Rattle.history_model.specs.declared.entry.Entry.{Entry}
use Rattle.history_model.specs.declared.place.Place.{Place}
use Rattle.history_model.specs.declared.place.Place.TheVariants.{Pending, Waiting, Complete, Closed}
use Rattle.history_model.specs.declared.refusal.Refusal.{Refusal}
use Rattle.history_model.specs.declared.refusal.Refusal.TheVariants as why
use Rattle.history_model.specs.declared.request.Reply.{Reply}
use Rattle.history_model.specs.declared.request.Reply.TheVariants.{At, Exposure as Exposed, Refused}
use Rattle.history_model.specs.declared.request.Request.{Request}
use Rattle.history_model.specs.declared.request.Request.TheVariants.{Begin, BeginWithout, Answer, Close, Look, Exposure}
use Rattle.history_model.specs.Halting.{IsNextOf}
use Rattle.history_model.specs.Lists.{LacksForm, no_form, none_found}
use Rattle.history_model.specs.Refusals.{recorded, refusal_of, refusal_of_new, refusal_of_list, is_list, refusal_at, refusal_of_answer, refusal_of_closing, in_session, is_of_another, unless_other}
use Rattle.history_model.specs.Entries.{holder}
use Rattle.history_model.specs.Places.{place}
use Rattle.history_model.specs.Requests.{Does, DoesUnless, DoesUnrefused}
use Rattle.answer_journal.specs.Frames.{payloads}
use Rattle.answer_journal.specs.Payload.{end_of}
use Rattle.answer_journal.specs.Versions.{version_of}
use Rattle.answer_journal.specs.Walk.{first_gate}
use Rattle.exam_records.specs.Spelling.{payload_of}
use Rattle.history_model.specs.Judging.{Record}
use Rattle.exam_office.proofs.Opened.{end-push}
use Rattle.exam_office.specs.Files.{AreRecordsOf}
use Rattle.exam_office.specs.Asking.{IsStoppedBy, Halts, IsDurable, Becomes, done, halted, IsAsked}
use Rattle.exam_office.specs.Marks.{history, reach}
use Rattle.exam_office.specs.Running.{Running}
use Rattle.exam_office.specs.Writing.{IsOneOf, as_before, with_doubt, IsSameOffice}
use Rattle.exam_drill.specs.declared.fault.DrillFault.{DrillFault}
use Rattle.exam_drill.specs.declared.fault.DrillFault.TheVariants.{JournalFull, Memory}
use Rattle.exam_drill.specs.Leading.{fault_of, IsDoneBy, LeadsTo, one_more, IsCutShort, IsStopped}

-- ---- what the tests of a request refuse it for: never the journal's limit, the disk or memory
abbrev pub IsTested : Refusal → Type 0
IsTested (why.JournalFull size) = ⊥
IsTested why.Disk = ⊥
IsTested why.Memory = ⊥
IsTested r = ⊤

tested_if : (c : Bool) (x r : Refusal) → IsTested x → cond c (Some x) None ≡ Some r → IsTested r
tested_if true x r tested e = let same : x ≡ r = cc in subst (λ (y : Refusal). IsTested y) same tested
tested_if false x r tested e = cc

tested_unless : (c : Bool) (x r : Refusal) → IsTested x → cond c None (Some x) ≡ Some r → IsTested r
tested_unless true x r tested e = cc
tested_unless false x r tested e = let same : x ≡ r = cc in subst (λ (y : Refusal). IsTested y) same tested

tested_is : (x r : Refusal) → IsTested x → Some x ≡ Some r → IsTested r
tested_is x r tested e = let same : x ≡ r = cc in subst (λ (y : Refusal). IsTested y) same tested

tested_new : (plan : Plan) (H : List Entry) (o : Option ℕ) (r : Refusal) → refusal_of_new plan H o ≡ Some r → IsTested r
tested_new plan H (Some session) r e = cc
tested_new plan H None r e = tested_if _ _ r tt e

tested_where : (b : Tables) (step response : ℕ) (at : Place) (r : Refusal) → refusal_at b step response at ≡ Some r → IsTested r
tested_where b step response (Pending at) r e = tested_is _ r tt e
tested_where b step response (Waiting at item proved) r e = here (at == step) (nat_lt response (categories b item)) r e
  where
    here : (same within : Bool) (r : Refusal) → cond same (cond within None (Some (why.BadResponse (categories b item)))) (Some (why.WrongStep at)) ≡ Some r → IsTested r
    here true within r e = tested_unless within _ r tt e
    here false within r e = tested_is _ r tt e
tested_where b step response Complete r e = tested_is _ r tt e
tested_where b step response Closed r e = tested_is _ r tt e

tested_answer : (b : Tables) (step response : ℕ) (at : Place) (o : Option ℕ) (r : Refusal) → refusal_of_answer b step response at o ≡ Some r → IsTested r
tested_answer b step response at (Some given) r e = tested_unless _ _ r tt e
tested_answer b step response at None r e = tested_where b step response at r e

tested_closing : (at : Place) (r : Refusal) → refusal_of_closing at ≡ Some r → IsTested r
tested_closing (Pending step) r e = cc
tested_closing (Waiting step item proved) r e = cc
tested_closing Complete r e = tested_is _ r tt e
tested_closing Closed r e = tested_is _ r tt e

tested_in : (H : List Entry) (o : Option Place) (refusal : Place → Option Refusal) → ((at : Place) (r : Refusal) → refusal at ≡ Some r → IsTested r) → (r : Refusal)
    → in_session H o refusal ≡ Some r → IsTested r
tested_in H None refusal each r e = tested_is _ r tt e
tested_in H (Some at) refusal each r e = each at r e

tested_list : (b : Tables) (plan : Plan) (H : List Entry) (items : List ℕ) (o : Option ℕ) (r : Refusal) → refusal_of_list b plan H items o ≡ Some r → IsTested r
tested_list b plan H items (Some session) r e = tested_unless _ _ r tt e
tested_list b plan H items None r e = here (is_list b items) r e
  where
    here : (listed : Bool) (r : Refusal) → cond listed (refusal_of_new plan H None) (Some (why.NoItem (size b))) ≡ Some r → IsTested r
    here true r e = tested_new plan H None r e
    here false r e = tested_is _ r tt e

tested_booking : (other : Bool) (o : Option Refusal) (r : Refusal) → (o ≡ Some r → IsTested r) → unless_other other o ≡ Some r → IsTested r
tested_booking true o r rest e = tested_is _ r tt e
tested_booking false o r rest e = rest e

pub tested : (b : Tables) (plan : Plan) (H : List Entry) (request : Request) (r : Refusal) → refusal_of b plan H request ≡ Some r → IsTested r
tested b plan H (Begin booking) r e = tested_new plan H (holder H booking) r e
tested b plan H (BeginWithout booking items) r e = tested_list b plan H items (holder H booking) r e
tested b plan H (Answer session step response booking) r e =
    let other : Bool = is_of_another H session booking in
    let why_at : Place → Option Refusal = λ at. refusal_of_answer b step response at (recorded H session step) in
    tested_in H (place plan H session) (λ (at : Place). unless_other other (why_at at)) (λ at r. tested_booking other (why_at at) r (tested_answer b step response at (recorded H session step) r)) r e
tested b plan H (Close session booking) r e =
    let other : Bool = is_of_another H session booking in
    tested_in H (place plan H session) (λ (at : Place). unless_other other (refusal_of_closing at)) (λ at r. tested_booking other (refusal_of_closing at) r (tested_closing at r)) r e
tested b plan H (Look session) r e = tested_in H (place plan H session) (λ (at : Place). None) (λ at r f. cc) r e
tested b plan H Exposure r e = cc

-- ---- a request that is done, with a refusal as its reply: that of a test, or that no form is
-- known
tested_lacking : (b : Tables) (plan : Plan) (X : Set) (r : Refusal) → LacksForm b plan X r → IsTested r
tested_lacking b plan X r (no_form P whole none) = tt
tested_lacking b plan X r (none_found P T leaves whole verdict spent) = tt

unrefused : (b : Tables) (plan : Plan) (G : List Entry) (request : Request) (K : List Entry) (r : Refusal) → DoesUnrefused b plan G request K (Refused r) → IsTested r
unrefused b plan G (Begin booking) K r d = absurd (let e = d.reply in cc)
unrefused b plan G (BeginWithout booking items) K r (inl d) = absurd (let e = d.reply in cc)
unrefused b plan G (BeginWithout booking items) K r (inr d) =
    let e = d.reply in
    let same : d.why ≡ r = cc in
    subst (λ (x : Refusal). IsTested x) same (tested_lacking b plan (has items) d.why d.lacks)
unrefused b plan G (Answer session step response booking) K r d = absurd (let e = d.reply in cc)
unrefused b plan G (Close session booking) K r d = absurd (let e = d.reply in cc)
unrefused b plan G (Look session) K r d = absurd (let e = d.reply in cc)
unrefused b plan G Exposure K r d = absurd (let e = d.reply in cc)

refused_by : (b : Tables) (plan : Plan) (G : List Entry) (request : Request) (K : List Entry) (r : Refusal) (o : Option Refusal) → refusal_of b plan G request ≡ o → DoesUnless o b plan G request K (Refused r) → IsTested r
refused_by b plan G request K r (Some x) is d =
    let e = d.1 in
    let same : x ≡ r = cc in
    subst (λ (y : Refusal). IsTested y) same (tested b plan G request x is)
refused_by b plan G request K r None is d = unrefused b plan G request K r d

refused_so : (b : Tables) (plan : Plan) (G : List Entry) (request : Request) (K : List Entry) (r : Refusal) → Does b plan G request K (Refused r) → IsTested r
refused_so b plan G request K r d = refused_by b plan G request K r (refusal_of b plan G request) refl d

-- ---- from an office with nothing in doubt
pub one_of_none : (H G : List Entry) (doubt : Option Entry) → doubt ≡ None → IsOneOf H doubt G → G ≡ H
one_of_none H _ doubt e (as_before _) = refl
one_of_none H _ _ e (with_doubt entry) = cc

module _ {D : Type 0} (request : Request) (old new : Running D) where
  module _ (reply : Reply) (sure : old.doubt ≡ None) (asked : IsAsked old request reply new) where
    from_is : asked.from ≡ history old.marks
    from_is = one_of_none (history old.marks) asked.from old.doubt sure asked.is_one_of

    pub becomes_so : Becomes old.bank old.plan (history old.marks) request old new reply
    becomes_so = subst (λ (G : List Entry). Becomes old.bank old.plan G request old new reply) from_is asked.becomes

  module _ (b : Tables) (plan : Plan) where
    -- a halt has a reply that ends the drill
    halting : (r : Refusal) → IsStoppedBy b plan (history new.marks) (IsNextOf b plan (history old.marks) request (history new.marks)) old new r → fault_of plan (Refused r) ≡ None → ⊥
    halting (why.JournalFull size) stopped e = cc
    halting why.Disk stopped e = cc
    halting why.Memory stopped e = cc
    halting r stopped e = stopped

    pub done_so : (reply : Reply) → fault_of plan reply ≡ None → Becomes b plan (history old.marks) request old new reply → IsDoneBy b plan (history old.marks) request (history new.marks)
    done_so reply e (done does durable) = record { reply = reply; does = does }
    done_so reply e (halted h) = absurd (halting h.why h.because (ap (fault_of plan) (sym h.reply) ∙ e))

    pub durable_so : (reply : Reply) → fault_of plan reply ≡ None → Becomes b plan (history old.marks) request old new reply → IsDurable b plan new
    durable_so reply e (done does durable) = durable
    durable_so reply e (halted h) = absurd (halting h.why h.because (ap (fault_of plan) (sym h.reply) ∙ e))

    stopped_by : (r : Refusal) → Halts b plan (history old.marks) request old new (Refused r)
        → IsStoppedBy b plan (history new.marks) (IsNextOf b plan (history old.marks) request (history new.marks)) old new r
    stopped_by r h =
        let e = h.reply in
        let same : h.why ≡ r = cc in
        subst (λ (x : Refusal). IsStoppedBy b plan (history new.marks) (IsNextOf b plan (history old.marks) request (history new.marks)) old new x) same h.because

    -- while nothing is in doubt, the journal has records of the history, and no bytes but theirs
    abbrev pub HasFrames : Type 0
    HasFrames = new.doubt ≡ None → (R : List Record) × AreRecordsOf b plan 2 (history new.marks) R × (end_of 8 (map payload_of R) + 1 ≡ reach new.marks)

    full_so : HasFrames → (size : ℕ) → Becomes b plan (history old.marks) request old new (Refused (why.JournalFull size)) → IsCutShort b plan (history old.marks) request (JournalFull size plan.journal)
    full_so frames size (done does durable) = absurd (refused_so b plan (history old.marks) request (history new.marks) (why.JournalFull size) does)
    full_so frames size (halted h) =
        let t = stopped_by (why.JournalFull size) h in
        let found = frames t.sure in
        let R = found.0 in
        let with_last : end_of 8 (map payload_of (R ++ t.last ∷ [])) ≡ end_of 8 (map payload_of R) + 5 + length (payload_of t.last) =
        ap (end_of 8) (map-append payload_of R (t.last ∷ [])) ∙ end-push 8 (map payload_of R) (payload_of t.last) in (
          record {
            G = history new.marks;
            cut_off = h.cut_off;
            last = t.last;
            next = t.next;
            spells = t.spells;
            may = t.may;
            records = R;
            are = found.1;
            size_is = omega (arith, t.size_is, with_last, found.2);
            above = t.above;
          },
          refl,
        )

    at_same : (x y : DrillFault) → Some x ≡ Some y → IsCutShort b plan (history old.marks) request x → IsCutShort b plan (history old.marks) request y
    at_same x y e short = let same : x ≡ y = cc in subst (λ (f : DrillFault). IsCutShort b plan (history old.marks) request f) same short

    refused_short : HasFrames → (r : Refusal) (f : DrillFault) → fault_of plan (Refused r) ≡ Some f → Becomes b plan (history old.marks) request old new (Refused r) → IsCutShort b plan (history old.marks) request f
    refused_short frames (why.JournalFull size) f e becomes = at_same (JournalFull size plan.journal) f e (full_so frames size becomes)
    refused_short frames why.Disk f e becomes = at_same Memory f e tt
    refused_short frames why.Memory f e becomes = at_same Memory f e tt
    refused_short frames r f e becomes = cc

    pub short_so : HasFrames → (reply : Reply) (f : DrillFault) → fault_of plan reply ≡ Some f → Becomes b plan (history old.marks) request old new reply → IsCutShort b plan (history old.marks) request f
    short_so frames (At session place fresh) f e becomes = cc
    short_so frames (Exposed exposure) f e becomes = cc
    short_so frames (Refused r) f e becomes = refused_short frames r f e becomes

-- the first gate of a journal that was begun over an empty file
pub first_of_empty : first_gate [] ≡ 8
unfolding payloads version_of
first_of_empty = refl

-- ---- requests one after another
pub same_on : {D : Type 0} (old cur new : Running D) → IsSameOffice old cur → IsSameOffice cur new → IsSameOffice old new
same_on old cur new s t = record { bank = t.bank ∙ s.bank; plan = t.plan ∙ s.plan; base = t.base ∙ s.base; opened = t.opened ∙ s.opened }

-- a fact of the bank and the plan of the office now is one of those of the office at the start
pub as_first : {D : Type 0} (P : Tables → Plan → Type 0) (old cur : Running D) → IsSameOffice old cur → P cur.bank cur.plan → P old.bank old.plan
as_first P old cur same p = subst (λ (x : Tables). P x old.plan) same.bank (subst (λ (y : Plan). P cur.bank y) same.plan p)

pub as_now : {D : Type 0} (P : Tables → Plan → Type 0) (old cur : Running D) → IsSameOffice old cur → P old.bank old.plan → P cur.bank cur.plan
as_now P old cur same p = subst (λ (x : Tables). P x cur.plan) (sym same.bank) (subst (λ (y : Plan). P old.bank y) (sym same.plan) p)

-- one request more
pub leads_on : (b : Tables) (plan : Plan) (H G K : List Entry) (requests : List Request) (i : ℕ) (d : Request) → i < length requests
    → LeadsTo b plan H (take i requests) G → IsDoneBy b plan G (get_or requests i d) K → LeadsTo b plan H (take (i + 1) requests) K
leads_on b plan H G K requests i d lt leads is =
    subst (λ (rs : List Request). LeadsTo b plan H rs K) (sym (take_more requests i d lt)) (one_more (take i requests) G (get_or requests i d) K leads is)

-- the next request is not done
pub stops_at : (b : Tables) (plan : Plan) (H G : List Entry) (requests : List Request) (i : ℕ) (d : Request) (f : DrillFault) → i < length requests
    → LeadsTo b plan H (take i requests) G → IsCutShort b plan G (get_or requests i d) f → IsStopped b plan H requests f
stops_at b plan H G requests i d f lt leads short =
    record { done = take i requests; request = get_or requests i d; rest = drop (suc i) requests; whole = sym (take-append-drop i requests) ∙ ap (λ (rs : List Request). take i requests ++ rs) (drop-cons requests i d lt); G = G; leads = leads; cut_short = short }

-- all requests are done
pub all_led : (b : Tables) (plan : Plan) (H G : List Entry) (requests : List Request) (i : ℕ) → i ≡ length requests → LeadsTo b plan H (take i requests) G → LeadsTo b plan H requests G
all_led b plan H G requests i e leads = subst (λ (rs : List Request). LeadsTo b plan H rs G) (ap (λ (n : ℕ). take n requests) e ∙ take-length requests) leads

-- ---- the same of offices
module _ {D : Type 0} (requests : List Request) (i : ℕ) (old cur new : Running D) (same : IsSameOffice old cur) (d : Request) (lt : i < length requests)
    (leads : LeadsTo old.bank old.plan (history old.marks) (take i requests) (history cur.marks)) where
  pub next_leads : IsDoneBy cur.bank cur.plan (history cur.marks) (get_or requests i d) (history new.marks)
      → LeadsTo old.bank old.plan (history old.marks) (take (i + 1) requests) (history new.marks)
  next_leads is = leads_on old.bank old.plan (history old.marks) (history cur.marks) (history new.marks) requests i d lt leads
      (as_first (λ (b : Tables) (p : Plan). IsDoneBy b p (history cur.marks) (get_or requests i d) (history new.marks)) old cur same is)

  pub next_stops : (f : DrillFault) → IsCutShort cur.bank cur.plan (history cur.marks) (get_or requests i d) f → IsStopped old.bank old.plan (history old.marks) requests f
  next_stops f short = stops_at old.bank old.plan (history old.marks) (history cur.marks) requests i d f lt leads
      (as_first (λ (b : Tables) (p : Plan). IsCutShort b p (history cur.marks) (get_or requests i d) f) old cur same short)
