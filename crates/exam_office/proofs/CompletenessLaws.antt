-- A request that isn't refused is answered.
use Rattle.std.proofs.Common.{◌≡◌, inl, inr, ℕ, List, Option, None, sym, subst}
use Rattle.bank_tables.specs.Items.{has}
use Rattle.bank_tables.specs.Tables.{Tables}
use Rattle.exam_edge.specs.Faults.{Rose}
use Rattle.form_model.specs.Plan.{Plan}
use Rattle.history_model.specs.declared.entry.Entry.{Entry}
use Rattle.history_model.specs.declared.refusal.Refusal.{Refusal}
use Rattle.history_model.specs.declared.refusal.Refusal.TheVariants.{NoSession, OtherBooking, WrongStep, Other, BadResponse, IsClosed, Stale, OtherList, NoItem, SessionsFull, NoForm, NoneFound, JournalFull, Disk, Memory}
use Rattle.history_model.specs.declared.request.Request.{Request}
use Rattle.history_model.specs.declared.request.Request.TheVariants as request
use Rattle.history_model.specs.declared.request.Reply.{Reply}
use Rattle.history_model.specs.declared.request.Reply.TheVariants as reply
use Rattle.history_model.specs.Halting.{IsNextOf}
use Rattle.history_model.specs.Lists.{LacksForm, no_form, none_found}
use Rattle.history_model.specs.Refusals.{refusal_of}
use Rattle.history_model.specs.Requests.{DoesUnrefused, DoesUnless}
use Rattle.answer_journal.specs.Journal.{faults_of}
use Rattle.exam_office.specs.Asking.{IsTooLongWith, IsStoppedBy, IsSettledReply, Becomes, done, halted}
use Rattle.exam_office.specs.Laws.{IsAnswered, IsWant, AskedIsAnswered}
use Rattle.exam_office.specs.Marks.{history}
use Rattle.exam_office.specs.Running.{Running}

-- a reply of a place or of counts
settled_answer : (b : Tables) (plan : Plan) (asked : Request) (answer other : Reply) → answer ≡ other → (IsSettledReply other → IsAnswered b plan asked other) → IsSettledReply answer → IsAnswered b plan asked answer
settled_answer b plan asked answer other is leads settled = subst (IsAnswered b plan asked) (sym is) (leads (subst IsSettledReply is settled))

-- no form without the items is known
want_of : (b : Tables) (plan : Plan) (booking : ℕ) (items : List ℕ) (r : Refusal) → LacksForm b plan (has items) r → IsWant b plan (request.BeginWithout booking items) r
want_of b plan booking items r (no_form P whole none) = no_form P whole none
want_of b plan booking items r (none_found P T leaves whole verdict spent) = none_found P T leaves whole verdict spent

by_request : (b : Tables) (plan : Plan) (H : List Entry) (asked : Request) (G : List Entry) (answer : Reply) → DoesUnrefused b plan H asked G answer → IsSettledReply answer → IsAnswered b plan asked answer
by_request b plan H (request.Begin booking) G answer does settled = settled_answer b plan (request.Begin booking) answer (reply.At does.session does.at does.fresh) does.reply (λ is. is) settled
by_request b plan H (request.BeginWithout booking items) G answer (inl does) settled = settled_answer b plan (request.BeginWithout booking items) answer (reply.At does.session does.at does.fresh) does.reply (λ is. is) settled
by_request b plan H (request.BeginWithout booking items) G answer (inr does) settled = settled_answer b plan (request.BeginWithout booking items) answer (reply.Refused does.why) does.reply (λ is. want_of b plan booking items does.why does.lacks) settled
by_request b plan H (request.Answer s step response booking) G answer does settled = settled_answer b plan (request.Answer s step response booking) answer (reply.At does.session does.at does.fresh) does.reply (λ is. is) settled
by_request b plan H (request.Look s) G answer does settled = settled_answer b plan (request.Look s) answer (reply.At does.session does.at does.fresh) does.reply (λ is. is) settled
by_request b plan H (request.Close s booking) G answer does settled = settled_answer b plan (request.Close s booking) answer (reply.At s does.at Rattle.std.specs.Prelude.false) does.reply (λ is. is) settled
by_request b plan H request.Exposure G answer does settled = settled_answer b plan request.Exposure answer (reply.Exposure does.exposure) does.reply (λ is. tt) settled

by_why : {D : Type 0} (b : Tables) (plan : Plan) (H : List Entry) (N : Entry → Type 0) (old new : Running D) → (Rose (faults_of old.journal) (faults_of new.journal) → ⊥) → ((size : ℕ) → IsTooLongWith b plan H N new size → ⊥) → (asked : Request) (r : Refusal) → IsStoppedBy b plan H N old new r → IsWant b plan asked r
by_why b plan H N old new no_fault fits asked Memory why = tt
by_why b plan H N old new no_fault fits asked Disk why = absurd (no_fault why)
by_why b plan H N old new no_fault fits asked (JournalFull size) why = absurd (fits size why)
by_why b plan H N old new no_fault fits asked (NoSession count) why = absurd why
by_why b plan H N old new no_fault fits asked OtherBooking why = absurd why
by_why b plan H N old new no_fault fits asked (WrongStep k) why = absurd why
by_why b plan H N old new no_fault fits asked (Other k) why = absurd why
by_why b plan H N old new no_fault fits asked (BadResponse k) why = absurd why
by_why b plan H N old new no_fault fits asked (IsClosed at) why = absurd why
by_why b plan H N old new no_fault fits asked (Stale at flag) why = absurd why
by_why b plan H N old new no_fault fits asked (SessionsFull count) why = absurd why
by_why b plan H N old new no_fault fits asked (OtherList session) why = absurd why
by_why b plan H N old new no_fault fits asked (NoItem number) why = absurd why
by_why b plan H N old new no_fault fits asked NoForm why = absurd why
by_why b plan H N old new no_fault fits asked NoneFound why = absurd why

by_becoming : {D : Type 0} (b : Tables) (plan : Plan) (H : List Entry) (asked : Request) (old new : Running D) (answer : Reply) → refusal_of b plan H asked ≡ None → (Rose (faults_of old.journal) (faults_of new.journal) → ⊥)
    → ((size : ℕ) → IsTooLongWith b plan (history new.marks) (IsNextOf b plan H asked (history new.marks)) new size → ⊥) → IsSettledReply answer → Becomes b plan H asked old new answer → IsAnswered b plan asked answer
by_becoming b plan H asked old new answer none no_fault fits settled (done does durable) =
    by_request b plan H asked (history new.marks) answer (subst (λ (o : Option Refusal). DoesUnless o b plan H asked (history new.marks) answer) none does) settled
by_becoming b plan H asked old new answer none no_fault fits settled (halted h) =
    subst (IsAnswered b plan asked) (sym h.reply) (by_why b plan (history new.marks) (IsNextOf b plan H asked (history new.marks)) old new no_fault fits asked h.why h.because)

pub asked_is_answered : (D : Type 0) → AskedIsAnswered D
asked_is_answered D old new asked answer is none no_fault fits = by_becoming old.bank old.plan is.from asked old new answer none no_fault fits is.settled is.becomes
