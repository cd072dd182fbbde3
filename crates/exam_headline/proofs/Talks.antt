-- What a connection may have had written is what the headline says.
use Rattle.std.proofs.Common.{◌≡◌, ℕ, zero, suc, ◌+◌, inl, inr, Bool, true, List, [], ◌∷◌, ◌++◌, take, Option, Some, None, Result, Ok, Err, refl, sym, ap, ◌∙◌, subst, arith, Contains, IfSome, slice_get, append_assoc}
use Rattle.std.specs.List.{cons_option}
use Rattle.std.proofs.lemmas.List.{append-nil, map-append}
use Rattle.std.proofs.lemmas.List.Elements.{All-contains, filter_map-append, Contains-append_right}
use Rattle.bank_tables.specs.Tables.{Tables}
use Rattle.exam_hall.specs.Good.{IsFirm, IsGoodMark, AreGoodAt}
use Rattle.exam_hall.specs.Known.{HallKnown, CallerKnown}
use Rattle.exam_hall.specs.Parts.{owns, IsFirst, IsAside, IsServing, IsSessionOf, IsAnswered, IsServedFor, IsPartOf, Fails}
use Rattle.exam_hall.specs.Sees.{Tells, HasClosed}
use Rattle.exam_hall.specs.Went.{taken}
use Rattle.exam_handler.specs.declared.health.Health.{Health}
use Rattle.exam_headline.specs.Conversations.{Examination, IsTrueReply, Answers, Converses, begun as no_message, one_more as next_message}
use Rattle.exam_headline.specs.Requests as ours
use Rattle.exam_headline.specs.Laws.{exam_of, CutOffMayBeWritten}
use Rattle.exam_headline.proofs.Adding.{holder_there, has_its_list, with_session, served_well, aside_well}
use Rattle.exam_http.specs.declared.asked.Asked.{Asked}
use Rattle.exam_http.specs.declared.asked.Asked.TheVariants as ask
use Rattle.exam_http.specs.declared.message_fault.MessageFault.{MessageFault}
use Rattle.exam_http.specs.Serving.{Gets, Serves, begun, one_more}
use Rattle.exam_office.specs.declared.mark.Mark.{Mark}
use Rattle.exam_office.specs.declared.mark.Mark.TheVariants.{Old, Opened, Own, Adopted, Fault}
use Rattle.exam_office.specs.Asking.{IsGood}
use Rattle.exam_office.specs.Marks.{entry_of, history}
use Rattle.exam_office.specs.Noting.{NotedMark, marks_of}
use Rattle.exam_serve.specs.Connections.{Asks, Probes}
use Rattle.bank_tables.specs.Items.{has}
use Rattle.form_model.specs.Forms.{Firm}
use Rattle.form_model.specs.Plan.{Plan}
use Rattle.history_model.specs.SessionProblems.{IsProblemOf}
use Rattle.headline_model.proofs.Counted.{over_is, counts_is}
use Rattle.headline_model.proofs.Seats.{place_of_seat, started as number_of}
use Rattle.headline_model.proofs.Told.{is_legal}
use Rattle.history_model.specs.declared.counts.Counts.{Counts}
use Rattle.history_model.specs.declared.entry.Bands.{Bands}
use Rattle.history_model.specs.declared.entry.Cause.TheVariants.{NoForm, Spent}
use Rattle.history_model.specs.declared.entry.Entry.{Entry}
use Rattle.history_model.specs.declared.entry.Entry.TheVariants.{Started, SetAside, Served, Answered, Closed}
use Rattle.history_model.specs.declared.entry.Without.{Without}
use Rattle.history_model.specs.declared.refusal.Refusal.{Refusal}
use Rattle.history_model.specs.declared.refusal.Refusal.TheVariants as why
use Rattle.history_model.specs.declared.request.Reply.{Reply}
use Rattle.history_model.specs.declared.request.Reply.TheVariants as reply
use Rattle.history_model.specs.declared.request.Request.{Request}
use Rattle.history_model.specs.declared.request.Request.TheVariants.{Begin, BeginWithout, Answer, Close, Look, Exposure}
use Rattle.history_model.specs.Entries.{holder}
use Rattle.history_model.specs.Legality.{LegalRun}
use Rattle.history_model.proofs.RunParts.{beginning_is_legal}
use Rattle.prepare_desk.specs.Posts.{Idles}
use Rattle.turn_lock.specs.Histories.{StartsWith}

-- ---- histories grow
pub grown : (old new : List NotedMark) → StartsWith new old → StartsWith (history (marks_of new)) (history (marks_of old))
grown old new (rest, same) = (
  history (marks_of rest),
  ap (λ (l : List NotedMark). history (marks_of l)) same ∙ (ap (λ (l : List Mark). history l) (map-append (λ (n : NotedMark). n.mark) old rest) ∙ filter_map-append entry_of (marks_of old) (marks_of rest)),
)

same_start : (H : List Entry) → StartsWith H H
same_start H = ([], sym (append-nil H))

pub further : (A B C : List Entry) → StartsWith B A → StartsWith C B → StartsWith C A
further A B C (x, e) (y, f) = (x ++ y, f ∙ (ap (λ (l : List Entry). l ++ y) e ∙ append_assoc A x y))

-- ---- the entries of a request
first_of : (q : Request) (e : Entry) → IsFirst q e → ours.IsFirstOf q e
first_of (Begin booking) e is = subst (λ (x : Entry). ours.IsFirstOf (Begin booking) x) (sym is.is) (ours.start booking is.session is.eligible)
first_of (BeginWithout booking items) e (witness, is) =
    subst (λ (x : Entry). ours.IsFirstOf (BeginWithout booking items) x) (sym is.is)
    (subst (λ (it : List ℕ). ours.IsFirstOf (BeginWithout booking it) (Started is.session booking is.eligible (Some is.list))) is.items_are (ours.start_without booking is.session is.eligible is.list))
first_of (Answer session step response booking) e is = subst (λ (x : Entry). ours.IsFirstOf (Answer session step response booking) x) (sym is) (ours.answer session step response booking)
first_of (Close session booking) e is = subst (λ (x : Entry). ours.IsFirstOf (Close session booking) x) (sym is) (ours.close session booking)
first_of (Look session) e is = absurd is
first_of Exposure e is = absurd is

look_at : (H : List Entry) (session s : ℕ) → s ≡ session → ours.IsSessionOf H (Look session) s
look_at H session s e = subst (λ (t : ℕ). ours.IsSessionOf H (Look session) t) (sym e) (ours.looked session)

session_of : (H : List Entry) (q : Request) (s : ℕ) → IsSessionOf H q s → IsAnswered H q → ((session : ℕ) (booking : Option ℕ) → q ≡ Close session booking → Contains H (Closed session)) → ours.IsSessionOf H q s
session_of H (Begin booking) s is answered closed = let h = holder_there H booking s is in ours.started booking s h.eligible h.without h.there
session_of H (BeginWithout booking items) s is answered closed = let h = holder_there H booking s is.0 in ours.started_without booking s h.eligible h.without items h.there
session_of H (Answer session step response booking) s is answered closed = subst (λ (t : ℕ). ours.IsSessionOf H (Answer session step response booking) t) (sym is.0) (ours.answered session step response booking answered)
session_of H (Close session booking) s is answered closed = subst (λ (t : ℕ). ours.IsSessionOf H (Close session booking) t) (sym is.0) (ours.closed session booking (closed session booking refl))
session_of H (Look session) s is answered closed = look_at H session s is
session_of H Exposure s is answered closed = absurd is

not_close : (H : List Entry) (q : Request) (s : ℕ) → IsServedFor H q s → ours.IsSessionOf H q s
not_close H (Begin booking) s (is, answered, there) = session_of H (Begin booking) s is answered (λ session named e. absurd (cc))
not_close H (BeginWithout booking items) s (is, answered, there) = session_of H (BeginWithout booking items) s is answered (λ session named e. absurd (cc))
not_close H (Answer session step response booking) s (is, answered, there) = session_of H (Answer session step response booking) s is answered (λ t named e. absurd (cc))
not_close H (Close session booking) s never = absurd never
not_close H (Look session) s (is, answered, there) = look_at H session s is
not_close H Exposure s (is, answered, there) = absurd is

-- the session that is asked for
named_there : (H : List Entry) (s booking : ℕ) → holder H booking ≡ Some s → (eligible : Bands) × (without : Option Without) × Contains H (Started s booking eligible without)
named_there H s booking held = let h = holder_there H booking s held in (h.eligible, h.without, h.there)

asked_for : (b : Tables) (plan : Plan) (H : List Entry) (q : Request) (s : ℕ) → LegalRun b plan H → IsSessionOf H q s → ours.IsAsAsked H q s
asked_for b plan H (Begin booking) s run is = tt
asked_for b plan H (BeginWithout booking items) s run is = has_its_list b plan H s items run is.1
asked_for b plan H (Answer session step response None) s run is = tt
asked_for b plan H (Answer session step response (Some booking)) s run is = named_there H s booking is.1
asked_for b plan H (Close session None) s run is = tt
asked_for b plan H (Close session (Some booking)) s run is = named_there H s booking is.1
asked_for b plan H (Look session) s run is = tt
asked_for b plan H Exposure s run is = absurd is

entries_are : (H : List Entry) (q : Request) (E : List Entry) → IsPartOf H q E → ours.AreEntriesOf H q E
entries_are H q E part = record {
  first = part.first;
  aside = part.aside;
  serving = part.serving;
  are = part.is;
  one_first = with_session (IsFirst q) (ours.IsFirstOf q) part.first (λ e is. first_of q e is) part.one_first;
  one_aside = with_session (λ e. (s : ℕ) × IsServedFor H q s × IsAside s e) (λ e. (s : ℕ) × ours.IsSessionOf H q s × IsAside s e) part.aside (λ e is. (is.0, not_close H q is.0 is.1, is.2)) part.one_aside;
  one_serving = with_session (λ e. (s : ℕ) × IsServedFor H q s × IsServing s e) (λ e. (s : ℕ) × ours.IsSessionOf H q s × IsServing s e) part.serving (λ e is. (is.0, not_close H q is.0 is.1, is.2)) part.one_serving;
}

-- ---- how good they are
served_same : (s k t j i l : ℕ) (x y : List ℕ) (p r : Bool) (n m : ℕ) → Served s t i x p n ≡ Served k j l y r m → (t ≡ j) × (x ≡ y)
served_same s k t j i l x y p r n m e = (cc, cc)

well_of : (b : Tables) (plan : Plan) (base : List ℕ) (H : List Entry) (e : Entry) → LegalRun b plan H → IsFirm b plan H e → IsGood b plan base H e → ours.IsWell b plan base H e
well_of b plan base H (Started session booking eligible without) run firm good = tt
well_of b plan base H (SetAside session step band NoForm nodes) run firm good = tt
well_of b plan base H (SetAside session step band Spent nodes) run firm good = aside_well b plan base H run session step good
well_of b plan base H (Served session step item form proved nodes) run firm good =
    let same = served_same _ _ _ _ _ _ _ _ _ _ _ _ firm.is in
    let problem = subst (λ (k : ℕ). IsProblemOf b plan H session k firm.problem) (sym same.0) firm.is_problem in
    let firm_now = subst (λ (ws : List ℕ). Firm firm.problem (has ws)) (sym same.1) firm.firm in
    served_well b plan base H run session step form firm.problem problem firm_now good
well_of b plan base H (Answered session step response) run firm good = tt
well_of b plan base H (Closed session) run firm good = tt

-- ---- marks at places
pub record OwnAt (S : List Mark) (places : List ℕ) (e : Entry) : Type 0 where
  pub place : ℕ
  pub size : ℕ
  pub listed : Contains places place
  pub at : slice_get S place ≡ Some (Own e size)

later_place : (S : List Mark) (p : ℕ) (places : List ℕ) (e : Entry) → OwnAt S places e → OwnAt S (p ∷ places) e
later_place S p places e own = record { place = own.place; size = own.size; listed = (suc own.listed.0, let w = own.listed.1 in omega arith, own.listed.2); at = own.at }

own_by : (S : List Mark) (p : ℕ) (places : List ℕ) (e : Entry) (o : Option Mark) → slice_get S p ≡ o → (Contains (owns (taken S places)) e → OwnAt S places e) → Contains (owns (cons_option o (taken S places))) e → OwnAt S (p ∷ places) e
own_by S p places e None f ih c = later_place S p places e (ih c)
own_by S p places e (Some (Old d)) f ih c = later_place S p places e (ih c)
own_by S p places e (Some (Opened n)) f ih c = later_place S p places e (ih c)
own_by S p places e (Some (Adopted d n)) f ih c = later_place S p places e (ih c)
own_by S p places e (Some (Fault d)) f ih c = later_place S p places e (ih c)
own_by S p places e (Some (Own d n)) f ih (zero, below, at) = record { place = p; size = n; listed = (zero, omega arith, refl); at = f ∙ ap (λ (x : Entry). Some (Own x n)) at }
own_by S p places e (Some (Own d n)) f ih (suc k, below, at) = later_place S p places e (ih (k, omega arith, at))

own_there : (S : List Mark) (places : List ℕ) (e : Entry) → Contains (owns (taken S places)) e → OwnAt S places e
own_there S [] e (k, below, at) = absurd (omega arith)
own_there S (p ∷ places) e c = own_by S p places e (slice_get S p) refl (λ d. own_there S places e d) c

pub parted : (S : List Mark) (p : ℕ) (m : Mark) (e : Entry) → slice_get S p ≡ Some m → entry_of m ≡ Some e → (behind : List Entry) × (history S ≡ history (take p S) ++ e ∷ behind)
parted [] p m e at is = absurd (cc)
parted (x ∷ S) zero m e at is = (history S, let same : x ≡ m = cc in ap (λ (o : Option Entry). cons_option o (history S)) (ap entry_of same ∙ is))
parted (x ∷ S) (suc p) m e at is = let rest = parted S p m e at is in (rest.0, front (entry_of x) (history S) (history (take p S)) e rest.0 rest.1)
  where
    front : (o : Option Entry) (A B : List Entry) (f : Entry) (C : List Entry) → A ≡ B ++ f ∷ C → cons_option o A ≡ cons_option o B ++ f ∷ C
    front None A B f C g = g
    front (Some y) A B f C g = ap (λ (l : List Entry). y ∷ l) g

well_there : (b : Tables) (plan : Plan) (base : List ℕ) (S : List Mark) (places : List ℕ) → LegalRun b plan (history S) → AreGoodAt b plan base S places → ours.AreWell b plan base (history S) (owns (taken S places))
well_there b plan base S places run good e c =
    let own = own_there S places e c in
    let there = parted S own.place (Own e own.size) e own.at refl in
    let here : IfSome (slice_get S own.place) (λ (mark : Mark). IsGoodMark b plan base (history (take own.place S)) mark) = All-contains (λ (p : ℕ). IfSome (slice_get S p) (λ (mark : Mark). IsGoodMark b plan base (history (take p S)) mark)) places own.place good own.listed in
    let mark : IsGoodMark b plan base (history (take own.place S)) (Own e own.size) = subst (λ (o : Option Mark). IfSome o (λ (mark : Mark). IsGoodMark b plan base (history (take own.place S)) mark)) own.at here in
    let before = beginning_is_legal b plan (history (take own.place S)) (e ∷ there.0) (subst (λ (l : List Entry). LegalRun b plan l) there.1 run) in
    (history (take own.place S), there.0, there.1, well_of b plan base (history (take own.place S)) e before mark.0 mark.1)

own_in_history : (S : List Mark) (places : List ℕ) (e : Entry) → Contains (owns (taken S places)) e → Contains (history S) e
own_in_history S places e c =
    let own = own_there S places e c in
    let there = parted S own.place (Own e own.size) e own.at refl in
    subst (λ (l : List Entry). Contains l e) (sym there.1) (Contains-append_right (history (take own.place S)) (e ∷ there.0) e (zero, omega arith, refl))

-- ---- the reply
closes_in : (q : Request) (session : ℕ) (booking : Option ℕ) (E : List Entry) → HasClosed q E → q ≡ Close session booking → Contains E (Closed session)
closes_in (Begin named) session booking E h e = absurd (cc)
closes_in (BeginWithout named items) session booking E h e = absurd (cc)
closes_in (Answer s step response named) session booking E h e = absurd (cc)
closes_in (Close s named) session booking E h e = let same : s ≡ session = cc in subst (λ (t : ℕ). Contains E (Closed t)) same h
closes_in (Look s) session booking E h e = absurd (cc)
closes_in Exposure session booking E h e = absurd (cc)

stops : (b : Tables) (plan : Plan) (next : Entry → Type 0) (S T : List Mark) (r : Refusal) → Fails b plan next S T r → ours.IsStop r
stops b plan next S T (why.JournalFull size) fails = tt
stops b plan next S T why.Disk fails = tt
stops b plan next S T why.Memory fails = tt
stops b plan next S T (why.NoSession n) fails = absurd fails
stops b plan next S T (why.WrongStep n) fails = absurd fails
stops b plan next S T (why.Other n) fails = absurd fails
stops b plan next S T (why.BadResponse n) fails = absurd fails
stops b plan next S T (why.IsClosed at) fails = absurd fails
stops b plan next S T (why.Stale at aside) fails = absurd fails
stops b plan next S T (why.OtherList n) fails = absurd fails
stops b plan next S T (why.NoItem n) fails = absurd fails
stops b plan next S T (why.SessionsFull n) fails = absurd fails
stops b plan next S T why.NoForm fails = absurd fails
stops b plan next S T why.NoneFound fails = absurd fails
stops b plan next S T why.OtherBooking fails = absurd fails

tells_of : (b : Tables) (plan : Plan) (q : Request) (F S : List Mark) (places later : List ℕ) (answer : Reply) → LegalRun b plan (history S) → Tells b plan q F S (taken S places) later answer → ours.Tells b plan q (history S) (owns (taken S places)) answer
tells_of b plan q F S places later (reply.At session at fresh) run (is, moved) =
    ours.place session at fresh (session_of (history S) q session is.session_is is.answered (λ s booking e. own_in_history S places (Closed s) (closes_in q s booking (owns (taken S places)) is.closed e)))
    (asked_for b plan (history S) q session run is.session_is) (number_of b plan (history S) session at run is.stands) (sym (place_of_seat b plan (history S) session at run is.stands)) is.fresh_is
tells_of b plan q F S places later (reply.Exposure exposure) run is =
    ours.counts exposure is.asked is.none (is.is_exposure.finished_is ∙ over_is b plan (history S) (λ seat. true) run) is.is_exposure.number
    (λ i w. is.is_exposure.each i w ∙ ap (λ (c : Counts). Some c) (counts_is b plan (history S) i run))
tells_of b plan q F S places later (reply.Refused r) run (inl is) = ours.refused r is.none
tells_of b plan q F S places later (reply.Refused r) run (inr (inl is)) = ours.refused r is.none
tells_of b plan q F S places later (reply.Refused r) run (inr (inr is)) = ours.stopped r (stops b plan _ _ _ r is.0)

-- ---- one message
true_reply : (old : CallerKnown) (q : Request) (answer : Reply) (new : CallerKnown) → Asks old q answer new → IsTrueReply (exam_of old) (history (marks_of old.pass.seen)) q answer (history (marks_of new.pass.seen))
true_reply old q answer new (sees, same_hall, has_grown) =
    let h = old.hall in
    let S = marks_of new.pass.seen in
    let places = sees.early ++ sees.later in
    record {
      grows = grown old.pass.seen new.pass.seen has_grown.seen;
      legal = is_legal h.bank h.plan (history S) sees.legal;
      own = owns (taken S places);
      are = entries_are (history S) q (owns (taken S places)) sees.part;
      well = well_there h.bank h.plan h.base S places sees.legal sees.good;
      tells = tells_of h.bank h.plan q _ S places sees.later answer sees.legal sees.tells;
    }

pub answers_of : (token : Option (List ℕ)) (old : CallerKnown) (asked : Result Asked MessageFault) (close : Bool) (text : List ℕ) (new : CallerKnown) → Gets token Asks Probes asked close old text new → Answers (exam_of old) asked close (history (marks_of old.pass.seen)) text (history (marks_of new.pass.seen))
answers_of token old (Ok (ask.Request q)) close text new (answer, does, is) = (answer, true_reply old q answer new does, is)
answers_of token old (Ok ask.Health) close text new (found, (probed, same_hall, has_grown), is) = (found, grown old.pass.seen new.pass.seen has_grown.seen, is)
answers_of token old (Err fault) close text new (same, is) = is

hall_of : (token : Option (List ℕ)) (old : CallerKnown) (asked : Result Asked MessageFault) (close : Bool) (text : List ℕ) (new : CallerKnown) → Gets token Asks Probes asked close old text new → new.hall ≡ old.hall
hall_of token old (Ok (ask.Request q)) close text new (answer, (sees, same_hall, has_grown), is) = same_hall
hall_of token old (Ok ask.Health) close text new (found, (probed, same_hall, has_grown), is) = same_hall
hall_of token old (Err fault) close text new (same, is) = ap (λ (c : CallerKnown). c.hall) same

-- ---- a connection
pub record Talked (token : Option (List ℕ)) (start : CallerKnown) (bytes texts rest : List ℕ) (now : CallerKnown) : Type 0 where
  pub same_hall : now.hall ≡ start.hall
  pub converses : Converses (exam_of start) token (history (marks_of start.pass.seen)) bytes texts rest (history (marks_of now.pass.seen))

exam_same : (a b : CallerKnown) → a.hall ≡ b.hall → exam_of a ≡ exam_of b
exam_same a b e = ap (λ (h : HallKnown). record { bank = h.bank; plan = h.plan; base = h.base }) e

idle_grows : (old new : CallerKnown) → Idles old new → StartsWith (history (marks_of new.pass.seen)) (history (marks_of old.pass.seen))
idle_grows old new (inl same) = subst (λ (c : CallerKnown). StartsWith (history (marks_of c.pass.seen)) (history (marks_of old.pass.seen))) (sym same) (same_start (history (marks_of old.pass.seen)))
idle_grows old new (inr (same_hall, idle, has_grown)) = grown old.pass.seen new.pass.seen has_grown.seen

idle_hall : (old new : CallerKnown) → Idles old new → new.hall ≡ old.hall
idle_hall old new (inl same) = ap (λ (c : CallerKnown). c.hall) same
idle_hall old new (inr (same_hall, idle, has_grown)) = same_hall

talked : (token : Option (List ℕ)) (start : CallerKnown) (bytes texts rest : List ℕ) (now : CallerKnown) → Serves token Asks Probes Idles start bytes texts rest now → Talked token start bytes texts rest now
talked token start bytes _ _ _ begun = record { same_hall = refl; converses = no_message }
talked token start bytes _ _ _ (one_more texts rest text left old new serves answered) =
    let before = talked token start bytes texts rest old serves in
    let got = answered.answer.response in
    let last = answered.answer.answered in
    let idle = answered.answer.idle in
    record {
      same_hall = idle_hall last new idle ∙ (hall_of token old got.asked answered.message.close text last got.gets ∙ before.same_hall);
      converses = next_message texts rest text left (history (marks_of old.pass.seen)) (history (marks_of last.pass.seen)) (history (marks_of new.pass.seen)) before.converses
          (record {
            message = answered.message;
            reads = answered.reads;
            asked = got.asked;
            asks = got.asks;
            answers = subst (λ (x : Examination). Answers x got.asked answered.message.close (history (marks_of old.pass.seen)) text (history (marks_of last.pass.seen))) (exam_same old start before.same_hall) (answers_of token old got.asked answered.message.close text last got.gets);
          })
          (idle_grows last new idle);
    }

pub may_be_written : CutOffMayBeWritten
may_be_written token caller final bytes text is =
    let before = talked token caller bytes is.texts is.rest is.state is.serves in
    record {
      texts = is.texts;
      rest = is.rest;
      last = is.last;
      old = history (marks_of is.state.pass.seen);
      converses = before.converses;
      cut_off =
          elim is.ends [
            | inl nothing ↦ inl nothing.1
            | inr (inl begins) ↦
                let got = begins.response in
                inr (inl (
                  begins.whole,
                  begins.left,
                  history (marks_of final.pass.seen),
                  begins.begins,
                  record {
                    message = begins.message;
                    reads = begins.reads;
                    asked = got.asked;
                    asks = got.asks;
                    answers = subst (λ (x : Examination). Answers x got.asked begins.message.close (history (marks_of is.state.pass.seen)) begins.whole (history (marks_of final.pass.seen))) (exam_same is.state caller before.same_hall) (answers_of token is.state got.asked begins.message.close begins.whole final got.gets);
                  },
                ))
            | inr (inr (same, fault, is_fault, begins)) ↦ inr (inr (fault, is_fault, begins))
          ];
      whole = is.whole;
    }
