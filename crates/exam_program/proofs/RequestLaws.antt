-- One request of a replay: how it ends.
use Rattle.std.specs.Prelude.{⊤}
use Rattle.std.proofs.Common.{◌≡◌, ℕ, Bool, List, [], ◌∷◌, Option, Some, None, inl, inr, Result, Ok, Err, OnOk, IfErr, IsTrue, sym, ap, ◌∙◌, subst}
use Rattle.std.proofs.lemmas.List.{append-nil}
use Rattle.bank_tables.specs.Items.{Set, has}
use Rattle.bank_tables.specs.Tables.{Tables, size}
use Rattle.exam_edge.specs.Images.{AtEachMoment}
use Rattle.exam_edge.specs.ImageLaws.{weaker}
use Rattle.form_model.specs.Plan.{Plan}
use Rattle.history_model.specs.declared.entry.Entry.{Entry}
use Rattle.history_model.specs.declared.refusal.Refusal.{Refusal}
use Rattle.history_model.specs.declared.refusal.Refusal.TheVariants as why
use Rattle.history_model.specs.declared.request.Reply.{Reply}
use Rattle.history_model.specs.declared.request.Reply.TheVariants.{At, Exposure as Exposed, Refused}
use Rattle.history_model.specs.declared.request.Request.{Request}
use Rattle.history_model.specs.declared.request.Request.TheVariants.{Begin, BeginWithout, Answer, Close, Look, Exposure}
use Rattle.history_model.specs.Halting.{IsNextOf}
use Rattle.history_model.specs.Lists.{LacksForm, no_form, none_found}
use Rattle.history_model.specs.Refusals.{refusal_of}
use Rattle.history_model.specs.Places.{place}
use Rattle.history_model.specs.Requests.{Does, DoesUnless, DoesUnrefused}
use Rattle.exam_office.specs.Asking.{AreGood, IsStoppedBy, Halts, Becomes, done, halted, IsAsked, IsBegunBy, IsOnTheWay, StandsForOne}
use Rattle.exam_office.specs.Marks.{history, reach}
use Rattle.exam_office.specs.Running.{Running}
use Rattle.answer_journal.specs.Journal.{tells_of, accounts_of}
use Rattle.replay_cli.specs.Replies.{line_of}
use Rattle.exam_drill.proofs.AskingLaws.{tested, one_of_none}
use Rattle.exam_program.specs.declared.halt.Halt.{Halt}
use Rattle.exam_program.specs.declared.halt.Halt.TheVariants as halt
use Rattle.exam_program.specs.Replays.{halt_of, IsFileOf, IsFullAt}
use Rattle.exam_program.specs.Stopping.{IsDone, IsStopped, at_sessions, at_journal, at_disk, at_memory, at_line, IsUnprinted}
use Rattle.exam_program.specs.Writing.{IsWritten}

-- ---- a request that is done, with a refusal as its reply
-- only a want of a form without the items of a list refuses a request that passes the tests
abbrev IsOfTests : Refusal → Type 0
IsOfTests why.NoForm = ⊥
IsOfTests why.NoneFound = ⊥
IsOfTests r = ⊤

not_lacking : (b : Tables) (plan : Plan) (X : Set) (r : Refusal) → LacksForm b plan X r → IsOfTests r → ⊥
not_lacking b plan X _ (no_form P is none) of = of
not_lacking b plan X _ (none_found P T leaves is verdict spent) of = of

unrefused : (b : Tables) (plan : Plan) (G : List Entry) (request : Request) (K : List Entry) (r : Refusal) → IsOfTests r → DoesUnrefused b plan G request K (Refused r) → ⊥
unrefused b plan G (Begin booking) K r of d = let e = d.reply in cc
unrefused b plan G (BeginWithout booking items) K r of (inl d) = let e = d.reply in cc
unrefused b plan G (BeginWithout booking items) K r of (inr d) =
    let e = d.reply in
    let same : r ≡ d.why = cc in
    not_lacking b plan (has items) d.why d.lacks (subst IsOfTests same of)
unrefused b plan G (Answer session step response booking) K r of d = let e = d.reply in cc
unrefused b plan G (Close session booking) K r of d = let e = d.reply in cc
unrefused b plan G (Look session) K r of d = let e = d.reply in cc
unrefused b plan G Exposure K r of d = let e = d.reply in cc

refused_by : (b : Tables) (plan : Plan) (G : List Entry) (request : Request) (K : List Entry) (r : Refusal) (o : Option Refusal) → IsOfTests r → DoesUnless o b plan G request K (Refused r) → o ≡ Some r
refused_by b plan G request K r (Some x) of d = let e = d.1 in cc
refused_by b plan G request K r None of d = absurd (unrefused b plan G request K r of d)

refused_so : (b : Tables) (plan : Plan) (G : List Entry) (request : Request) (K : List Entry) (r : Refusal) → IsOfTests r → Does b plan G request K (Refused r) → refusal_of b plan G request ≡ Some r
refused_so b plan G request K r of d = refused_by b plan G request K r (refusal_of b plan G request) of d

-- ---- from an office with nothing in doubt
module _ {D : Type 0} (request : Request) (old new : Running D) where
  module _ (reply : Reply) (sure : old.doubt ≡ None) (asked : IsAsked old request reply new) where
    from_is : asked.from ≡ history old.marks
    from_is = one_of_none (history old.marks) asked.from old.doubt sure asked.is_one_of

    pub becomes_so : Becomes old.bank old.plan (history old.marks) request old new reply
    becomes_so = subst (λ (G : List Entry). Becomes old.bank old.plan G request old new reply) from_is asked.becomes

    pub good_so : AreGood old.bank old.plan old.base (history old.marks) (history new.marks)
    good_so = subst (λ (G : List Entry). AreGood old.bank old.plan old.base G (history new.marks)) from_is asked.good

    pub each_so : IsTrue (tells_of old.journal)
        → AtEachMoment (accounts_of old.journal) (accounts_of new.journal) (IsFileOf old.bank old.plan old.base (history old.marks) (request ∷ []))
    each_so told = weaker (StandsForOne old.bank old.plan (IsOnTheWay old.bank old.plan old.base (history old.marks) old.doubt request))
        (IsFileOf old.bank old.plan old.base (history old.marks) (request ∷ [])) here
        (accounts_of old.journal) (accounts_of new.journal) (asked.steps.moments told)
      where
        here : (file : List ℕ) → StandsForOne old.bank old.plan (IsOnTheWay old.bank old.plan old.base (history old.marks) old.doubt request) file
            → IsFileOf old.bank old.plan old.base (history old.marks) (request ∷ []) file
        here file s = record {
          so_far = s.so_far;
          is_one = subst (λ (G : List Entry). IsBegunBy old.bank old.plan old.base G request s.so_far) (one_of_none (history old.marks) s.is_one.from old.doubt sure s.is_one.is_one_of) s.is_one.begun;
          stands = s.stands;
        }

  -- ---- what became of it
  module _ (b : Tables) (plan : Plan) (base : List ℕ) where
    -- a halt has a reply that ends the replay
    halting : (r : Refusal) → IsStoppedBy b plan (history new.marks) (IsNextOf b plan (history old.marks) request (history new.marks)) old new r → halt_of plan (Refused r) ≡ None → ⊥
    halting (why.JournalFull size) stopped e = cc
    halting why.Disk stopped e = cc
    halting why.Memory stopped e = cc
    halting r stopped e = stopped

    pub done_so : (reply : Reply) → halt_of plan reply ≡ None → Becomes b plan (history old.marks) request old new reply
        → AreGood b plan base (history old.marks) (history new.marks) → IsDone b plan base request old new reply
    done_so reply e (done does durable) good = record { does = does; goes_on = e; good = good; durable = durable }
    done_so reply e (halted h) good = absurd (halting h.why h.because (ap (halt_of plan) (sym h.reply) ∙ e))

    stopped_by : (r : Refusal) → Halts b plan (history old.marks) request old new (Refused r)
        → IsStoppedBy b plan (history new.marks) (IsNextOf b plan (history old.marks) request (history new.marks)) old new r
    stopped_by r h =
        let e = h.reply in
        let same : h.why ≡ r = cc in
        subst (λ (x : Refusal). IsStoppedBy b plan (history new.marks) (IsNextOf b plan (history old.marks) request (history new.marks)) old new x) same h.because

    full_so : (size : ℕ) → Becomes b plan (history old.marks) request old new (Refused (why.JournalFull size))
        → IsFullAt b plan (history old.marks) request (history new.marks) (reach new.marks) size × (new.doubt ≡ None)
    full_so size (done does durable) = absurd (tested b plan (history old.marks) request (why.JournalFull size) (refused_so b plan (history old.marks) request (history new.marks) (why.JournalFull size) tt does))
    full_so size (halted h) =
        let t = stopped_by (why.JournalFull size) h in
        (record { cut_off = h.cut_off; last = t.last; next = t.next; spells = t.spells; may = t.may; size_is = t.size_is; above = t.above }, t.sure)

    rose_so : Becomes b plan (history old.marks) request old new (Refused why.Disk) → IsStoppedBy b plan (history new.marks) (IsNextOf b plan (history old.marks) request (history new.marks)) old new why.Disk
    rose_so (done does durable) = absurd (tested b plan (history old.marks) request why.Disk (refused_so b plan (history old.marks) request (history new.marks) why.Disk tt does))
    rose_so (halted h) = stopped_by why.Disk h

    full_sessions : (count : ℕ) → Becomes b plan (history old.marks) request old new (Refused (why.SessionsFull count)) → refusal_of b plan (history old.marks) request ≡ Some (why.SessionsFull count)
    full_sessions count (done does durable) = refused_so b plan (history old.marks) request (history new.marks) (why.SessionsFull count) tt does
    full_sessions count (halted h) = absurd (stopped_by (why.SessionsFull count) h)

    module _ (told : Bool) (was now : List ℕ) where
      at_same : (x y : Halt) → Some x ≡ Some y → IsStopped b plan base request old new told was now x → IsStopped b plan base request old new told was now y
      at_same x y e stopped = let same : x ≡ y = cc in subst (λ (h : Halt). IsStopped b plan base request old new told was now h) same stopped

      refused_halt : (r : Refusal) (h : Halt) → halt_of plan (Refused r) ≡ Some h → Becomes b plan (history old.marks) request old new (Refused r) → IsWritten told was now [] → IsStopped b plan base request old new told was now h
      refused_halt (why.SessionsFull count) h e becomes written = at_same (halt.Sessions count plan.sessions) h e (at_sessions count (full_sessions count becomes) written)
      refused_halt (why.JournalFull size) h e becomes written =
          let full = full_so size becomes in
          at_same (halt.JournalFull size plan.journal) h e (at_journal size full.0 full.1 written)
      refused_halt why.Disk h e becomes written = at_same halt.Disk h e (at_disk (rose_so becomes) written)
      refused_halt why.Memory h e becomes written = at_same halt.Memory h e (at_memory written)
      refused_halt r h e becomes written = cc

      pub halt_so : (reply : Reply) (h : Halt) → halt_of plan reply ≡ Some h → Becomes b plan (history old.marks) request old new reply → IsWritten told was now [] → IsStopped b plan base request old new told was now h
      halt_so (At session place fresh) h e becomes written = cc
      halt_so (Exposed exposure) h e becomes written = cc
      halt_so (Refused r) h e becomes written = refused_halt r h e becomes written

      -- its line was not printed
      pub unprinted_so : (reply : Reply) (h : Halt) → IsDone b plan base request old new reply → IsUnprinted told was now (line_of reply) h → IsStopped b plan base request old new told was now h
      unprinted_so reply halt.Memory is unprinted = at_memory unprinted
      unprinted_so reply halt.Sink is unprinted = at_line reply is unprinted
      unprinted_so reply h is unprinted = absurd unprinted

-- ---- results
pub on_ok : {A E : Type 0} (P Q : Type 0) (r : Result A E) → (P → Q) → OnOk r P → OnOk r Q
on_ok P Q (Ok x) f p = f p
on_ok P Q (Err e) f p = p

pub if_err : {A E : Type 0} (P Q : E → Type 0) (r : Result A E) → ((e : E) → P e → Q e) → IfErr r P → IfErr r Q
if_err P Q (Ok x) f p = p
if_err P Q (Err e) f p = f e p

pub nothing_written : (told : Bool) (was : List ℕ) → IsWritten told was was []
nothing_written told was t = sym (append-nil was)
