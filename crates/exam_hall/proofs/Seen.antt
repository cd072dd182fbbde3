-- From the turns of a request to what its reply tells.
use Rattle.std.proofs.Common.{◌≡◌, ℕ, ◌||◌, Bool, true, false, List, [], ◌∷◌, ◌++◌, length, refl, sym, ap, ◌∙◌, subst, inl, inr, ⊎_elim, arith, Option, Ok, Err}
use Rattle.certificate_model.specs.Relaxed.{Multipliers}
use Rattle.std.specs.List.{list_any}
use Rattle.std.proofs.lemmas.List.{append-nil}
use Rattle.std.proofs.lemmas.List.Elements.{Contains-append_left}
use Rattle.bank_tables.specs.Items.{Set, has}
use Rattle.bank_tables.specs.Tables.{Tables}
use Rattle.form_model.specs.Plan.{Plan}
use Rattle.constraint_model.specs.declared.problem.Problem.{Problem}
use Rattle.history_model.specs.declared.entry.Entry.{Entry}
use Rattle.history_model.specs.declared.entry.Entry.TheVariants.{Started, SetAside, Served, Answered, Closed}
use Rattle.history_model.specs.declared.place.Place.{Place}
use Rattle.history_model.specs.declared.place.Place.TheVariants.{Pending}
use Rattle.history_model.specs.declared.refusal.Refusal.{Refusal}
use Rattle.history_model.specs.declared.refusal.Refusal.TheVariants.{NoSession, OtherBooking, WrongStep, Other, BadResponse, IsClosed, Stale, OtherList, NoItem, SessionsFull, NoForm, NoneFound, JournalFull, Disk, Memory}
use Rattle.history_model.specs.declared.request.Request.{Request}
use Rattle.history_model.specs.declared.request.Request.TheVariants.{Begin, BeginWithout, Answer, Close, Look, Exposure}
use Rattle.history_model.specs.declared.request.Reply.{Reply}
use Rattle.history_model.specs.declared.request.Reply.TheVariants as reply
use Rattle.history_model.specs.Entries.{starts, is_started}
use Rattle.history_model.specs.Legality.{LegalRun}
use Rattle.history_model.specs.Lists.{LacksForm}
use Rattle.history_model.proofs.Standing.{there}
use Rattle.history_model.proofs.Staying.{holder_stays, still_started}
use Rattle.turn_lock.specs.Histories.{StartsWith}
use Rattle.turn_lock.specs.Passes.{Known, TakesTurn}
use Rattle.exam_office.specs.declared.mark.Mark.{Mark}
use Rattle.exam_handler.specs.Handling.{IsRefusal, IsReply}
use Rattle.exam_office.specs.Marks.{history}
use Rattle.exam_office.specs.Noting.{NotedMark}
use Rattle.exam_office.proofs.Asked.{refused_so}
use Rattle.exam_hall.specs.declared.asking.FirstAnswer.{FirstAnswer}
use Rattle.exam_hall.specs.declared.asking.FirstAnswer.TheVariants.{Done, Waits}
use Rattle.exam_hall.specs.Known.{HallKnown, marked, IsOf}
use Rattle.exam_hall.specs.Went.{Went, taken}
use Rattle.exam_hall.specs.Good.{AreGoodAt}
use Rattle.exam_hall.specs.Parts.{owns, AtMostOne, IsFirst, IsAside, IsServing, IsCommitted, IsSessionOf, IsAnswered, IsServedFor, IsPartOf, LacksFirst, LacksServing, IsWanted, Fails}
use Rattle.exam_hall.specs.Sees.{HasClosed, IsAt, Tells, Sees}
use Rattle.exam_hall.specs.Leading.{EndsSession, IsLed, IsBegun, BeginsRequest}
use Rattle.exam_hall.specs.Rounds.{Assembles}
use Rattle.exam_hall.specs.Turns.{HasBegun}
use Rattle.exam_hall.proofs.Went.{went_nowhere, taken_both}
use Rattle.exam_hall.proofs.Calls.{none_faulty, both_faultless}
use Rattle.exam_hall.proofs.Listed.{listed_later}
use Rattle.exam_hall.proofs.Moved.{history_append, owns_append}
use Rattle.exam_hall.proofs.Named.{named_later}
use Rattle.exam_hall.proofs.Owned.{firsts_good, both_good}
use Rattle.exam_hall.proofs.Served.{here, went_here, legal_here, made_here, fails_more}

-- ---- the first turn
pub begun_turn : (h : HallKnown) (old new : Known NotedMark) (before : List NotedMark) → TakesTurn old new before → IsOf old h → (q : Request) (begun : FirstAnswer)
    → BeginsRequest q before new.seen begun → HasBegun h (marked old) (marked new) q begun
begun_turn h old new before t is q begun g =
    let makes : Tables → Plan → List ℕ → List Mark → List Mark → Type 0 = λ b p s S T. IsBegun b p q S T begun in
    record {
      places = here h old new before t is makes g;
      went = went_here h old new before t is makes g;
      legal = legal_here h old new before t is makes g;
      begins = made_here h old new before t is makes g;
    }

-- ---- entries of a request
one_weaker : {A : Type 0} (P Q : A → Type 0) → ((x : A) → P x → Q x) → (xs : List A) → AtMostOne P xs → AtMostOne Q xs
one_weaker P Q w xs h = ⊎_elim (λ e. inl e) (λ t. inr (t.0, t.1, w t.0 t.2)) h

pub lacks_all : (b : Tables) (plan : Plan) (S : List Mark) (q : Request) (E : List Entry) → LacksFirst b plan S q E → E ≡ []
lacks_all b plan S (Begin booking) E h = h.0
lacks_all b plan S (BeginWithout booking items) E h = h.0
lacks_all b plan S (Answer session step response booking) E h = h.0
lacks_all b plan S (Close session booking) E h = h.0
lacks_all b plan S (Look session) E h = absurd h
lacks_all b plan S Exposure E h = h

part_first : (H : List Entry) (q : Request) (E : List Entry) → AtMostOne (IsFirst q) E → IsPartOf H q E
part_first H q E one = record { first = E; aside = []; serving = []; is = sym (append-nil E); one_first = one; one_aside = inl refl; one_serving = inl refl }

-- ---- what lasts
answered_later : (H G : List Entry) (q : Request) → IsAnswered H q → IsAnswered (H ++ G) q
answered_later H G (Begin booking) h = tt
answered_later H G (BeginWithout booking items) h = tt
answered_later H G (Answer session step response booking) h = Contains-append_left H G (Answered session step response) h
answered_later H G (Close session booking) h = tt
answered_later H G (Look session) h = tt
answered_later H G Exposure h = tt

session_later : (H G : List Entry) (q : Request) (s : ℕ) → IsSessionOf H q s → IsSessionOf (H ++ G) q s
session_later H G (Begin booking) s h = holder_stays H G booking s h
session_later H G (BeginWithout booking items) s h = (holder_stays H G booking s h.0, listed_later H G s items h.1)
session_later H G (Answer session step response booking) s h = (h.0, named_later H G booking s h.1)
session_later H G (Close session booking) s h = (h.0, named_later H G booking s h.1)
session_later H G (Look session) s h = h
session_later H G Exposure s h = h

-- the session of a request that waits for an item is one that it may serve
served_for : (H : List Entry) (q : Request) (s k : ℕ) → EndsSession q (Pending k) → IsSessionOf H q s → IsAnswered H q → is_started H s ≡ true → IsServedFor H q s
served_for H (Begin booking) s k ends h a i = (h, a, i)
served_for H (BeginWithout booking items) s k ends h a i = (h, a, i)
served_for H (Answer session step response booking) s k ends h a i = (h, a, i)
served_for H (Close session booking) s k ends h a i = absurd (ends k refl)
served_for H (Look session) s k ends h a i = (h, a, i)
served_for H Exposure s k ends h a i = (h, a, i)

no_closing : (q : Request) (k : ℕ) (E : List Entry) → EndsSession q (Pending k) → HasClosed q E
no_closing (Begin booking) k E ends = tt
no_closing (BeginWithout booking items) k E ends = tt
no_closing (Answer session step response booking) k E ends = tt
no_closing (Close session booking) k E ends = absurd (ends k refl)
no_closing (Look session) k E ends = tt
no_closing Exposure k E ends = tt

-- ---- only a Started entry starts a session
aside_starts : (s : ℕ) (e : Entry) → IsAside s e → starts e ≡ false
aside_starts s (Started session booking eligible without) h = absurd h
aside_starts s (SetAside session step band cause nodes) h = refl
aside_starts s (Served session step item form proved nodes) h = refl
aside_starts s (Answered session step response) h = refl
aside_starts s (Closed session) h = refl

serving_starts : (s : ℕ) (e : Entry) → IsServing s e → starts e ≡ false
serving_starts s (Started session booking eligible without) h = absurd h
serving_starts s (SetAside session step band cause nodes) h = refl
serving_starts s (Served session step item form proved nodes) h = refl
serving_starts s (Answered session step response) h = refl
serving_starts s (Closed session) h = refl

one_starts : (P : Entry → Type 0) → ((e : Entry) → P e → starts e ≡ false) → (E : List Entry) → AtMostOne P E → list_any starts E ≡ false
one_starts P w E h = ⊎_elim (λ e. ap (λ l. list_any starts l) e) (λ t. ap (λ l. list_any starts l) t.1 ∙ ap (λ b. b || false) (w t.0 t.2)) h

any_append : (xs ys : List Entry) → list_any starts ys ≡ false → list_any starts (xs ++ ys) ≡ list_any starts xs
any_append [] ys h = h
any_append (x ∷ xs) ys h = ap (λ b. starts x || b) (any_append xs ys h)

-- ---- a request that was done in one turn
module _ (h : HallKnown) (old new : Known Mark) (q : Request) where
  seen_once : (answer : Reply) (places : List ℕ) → Went old new (length new.seen ∷ []) places → LegalRun h.bank h.plan (history new.seen)
      → AtMostOne (IsFirst q) (owns (taken new.seen places)) → Tells h.bank h.plan q new.seen new.seen (taken new.seen places) [] answer → Sees h old new q answer
  seen_once answer places went legal one tells =
      let all : places ++ [] ≡ places = append-nil places in
      record {
        mid = new;
        early = places;
        later = [];
        fronts = [];
        first = went;
        more = went_nowhere new;
        few = omega arith;
        legal = legal;
        part = subst (λ ps. IsPartOf (history new.seen) q (owns (taken new.seen ps))) (sym all) (part_first (history new.seen) q (owns (taken new.seen places)) one);
        good = subst (λ ps. AreGoodAt h.bank h.plan h.base new.seen ps) (sym all) (firsts_good h.bank h.plan h.base q new.seen places one);
        tells = subst (λ ps. Tells h.bank h.plan q new.seen new.seen (taken new.seen ps) [] answer) (sym all) tells;
      }

  pub sees_done : (answer : Reply) → HasBegun h old new q (Done answer) → Sees h old new q answer
  sees_done (reply.At session at fresh) b =
      let led = b.begins.0 in
      seen_once (reply.At session at fresh) b.places b.went b.legal led.one (led.is_at, λ step e. absurd (b.begins.1 step e))
  sees_done (reply.Exposure exposure) b =
      let x = b.begins.0 in
      seen_once (reply.Exposure exposure) b.places b.went b.legal (inl x.none) x
  sees_done (reply.Refused r) b =
      let T = taken new.seen b.places in
      let none : owns T ≡ [] = ⊎_elim (λ x. x.none) (λ y. ⊎_elim (λ x. x.none) (λ x. lacks_all h.bank h.plan new.seen q (owns T) x.1) y) b.begins.0 in
      seen_once (reply.Refused r) b.places b.went b.legal (inl none)
      (⊎_elim (λ x. inl x)
      (λ y. inr (⊎_elim (λ x. inl x)
      (λ x. inr (fails_more h.bank h.plan (IsFirst q) (IsWanted (history new.seen) q) (λ e k. inl k) new.seen [] T r none_faulty x.0, inl x.1))
      y))
      b.begins.0)

-- ---- a request whose session waited for an item
module _ (h : HallKnown) (old mid new : Known Mark) (q : Request) (fresh : Bool) (P : Problem) (warm : Option Multipliers) (b : HasBegun h old mid q (Waits fresh P warm)) where
  abbrev led : IsLed h.plan q mid.seen (taken mid.seen b.places) P.session (Pending P.step) fresh
  led = b.begins.0

  later : (s : StartsWith new.seen mid.seen) → history new.seen ≡ history mid.seen ++ history s.0
  later s = ap history s.1 ∙ history_append mid.seen s.0

  session_now : StartsWith new.seen mid.seen → IsSessionOf (history new.seen) q P.session
  session_now s = subst (λ H. IsSessionOf H q P.session) (sym (later s)) (session_later (history mid.seen) (history s.0) q P.session led.is_at.session_is)

  answered_now : StartsWith new.seen mid.seen → IsAnswered (history new.seen) q
  answered_now s = subst (λ H. IsAnswered H q) (sym (later s)) (answered_later (history mid.seen) (history s.0) q led.is_at.answered)

  -- its session is one that it may serve, after the first turn and later
  started : is_started (history mid.seen) P.session ≡ true
  started = there h.plan (history mid.seen) P.session (Pending P.step) led.is_at.stands

  served_then : IsServedFor (history mid.seen) q P.session
  served_then = served_for (history mid.seen) q P.session P.step led.ends led.is_at.session_is led.is_at.answered started

  served_now : StartsWith new.seen mid.seen → IsServedFor (history new.seen) q P.session
  served_now s =
      let still : is_started (history new.seen) P.session ≡ true = ap (λ H. is_started H P.session) (later s) ∙ still_started (history mid.seen) (history s.0) P.session started in
      served_for (history new.seen) q P.session P.step led.ends (session_now s) (answered_now s) still

  -- what the call added later is good, and so is all that it added
  all_good : (ps fs : List ℕ) → Went mid new fs ps → AreGoodAt h.bank h.plan h.base new.seen ps → AreGoodAt h.bank h.plan h.base new.seen (b.places ++ ps)
  all_good ps fs went good =
      both_good h.bank h.plan h.base old mid new (length mid.seen ∷ []) fs b.places ps b.went went (firsts_good h.bank h.plan h.base q mid.seen b.places led.one) good

  both : (ps fs : List ℕ) → Went mid new fs ps → taken new.seen (b.places ++ ps) ≡ taken mid.seen b.places ++ taken new.seen ps
  both ps fs went = taken_both old mid new (length mid.seen ∷ []) fs b.places ps b.went went

  pub sees_served : (at : Place) → Assembles h P.session mid new (Ok at) → Sees h old new q (reply.At P.session at fresh)
  sees_served at a =
      let T = taken mid.seen b.places in
      let U = taken new.seen a.places in
      let H = history new.seen in
      let v = a.serves in
      let s = a.went.seen in
      let whole : taken new.seen (b.places ++ a.places) ≡ T ++ U = both a.places a.fronts a.went in
      let split : owns (T ++ U) ≡ owns T ++ (v.aside ++ v.serving) = owns_append T U ∙ ap (λ l. owns T ++ l) v.is in
      let part : IsPartOf H q (owns (T ++ U)) = record {
        first = owns T;
        aside = v.aside;
        serving = v.serving;
        is = split;
        one_first = led.one;
        one_aside = one_weaker (IsAside P.session) (λ e. (n : ℕ) × IsServedFor H q n × IsAside n e) (λ e k. (P.session, served_now s, k)) v.aside v.one_aside;
        one_serving = one_weaker (IsServing P.session) (λ e. (n : ℕ) × IsServedFor H q n × IsServing n e) (λ e k. (P.session, served_now s, k)) v.serving v.one_serving;
      } in
      let is_at : IsAt h.plan q new.seen (T ++ U) P.session at fresh = record {
        session_is = session_now s;
        stands = v.stands;
        answered = answered_now s;
        fresh_is = led.is_at.fresh_is
            ∙ sym (ap (λ l. list_any starts l) split
            ∙ any_append (owns T) (v.aside ++ v.serving) (any_append v.aside v.serving (one_starts (IsServing P.session) (serving_starts P.session) v.serving v.one_serving)
            ∙ one_starts (IsAside P.session) (aside_starts P.session) v.aside v.one_aside));
        closed = no_closing q P.step (owns (T ++ U)) led.ends;
        no_fault = both_faultless T U led.is_at.no_fault v.no_fault;
      } in
      record {
        mid = mid;
        early = b.places;
        later = a.places;
        fronts = a.fronts;
        first = b.went;
        more = a.went;
        few = a.few;
        legal = a.legal;
        part = subst (λ l. IsPartOf H q (owns l)) (sym whole) part;
        good = all_good a.places a.fronts a.went a.good;
        tells = subst (λ l. Tells h.bank h.plan q mid.seen new.seen l a.places (reply.At P.session at fresh)) (sym whole) (is_at, v.moved);
      }

  pub sees_failed : (r : Refusal) → Assembles h P.session mid new (Err r) → Sees h old new q (reply.Refused r)
  sees_failed r a =
      let T = taken mid.seen b.places in
      let U = taken new.seen a.places in
      let H = history new.seen in
      let s = a.went.seen in
      let whole : taken new.seen (b.places ++ a.places) ≡ T ++ U = both a.places a.fronts a.went in
      let split : owns (T ++ U) ≡ owns T ++ owns U = owns_append T U in
      let asides : AtMostOne (λ e. (n : ℕ) × IsServedFor H q n × IsAside n e) (owns U) =
      one_weaker (IsAside P.session) (λ e. (n : ℕ) × IsServedFor H q n × IsAside n e) (λ e k. (P.session, served_now s, k)) (owns U) a.serves.1 in
      let part : IsPartOf H q (owns (T ++ U)) = record {
        first = owns T;
        aside = owns U;
        serving = [];
        is = split ∙ ap (λ l. owns T ++ l) (sym (append-nil (owns U)));
        one_first = led.one;
        one_aside = asides;
        one_serving = inl refl;
      } in
      let lacks : LacksServing h.plan mid.seen new.seen q (owns (T ++ U)) = record {
        session = P.session;
        is_served = served_then;
        owes = a.serves.2;
        first = owns T;
        aside = owns U;
        is = split;
        one_first = led.one;
        one_aside = a.serves.1;
      } in
      record {
        mid = mid;
        early = b.places;
        later = a.places;
        fronts = a.fronts;
        first = b.went;
        more = a.went;
        few = a.few;
        legal = a.legal;
        part = subst (λ l. IsPartOf H q (owns l)) (sym whole) part;
        good = all_good a.places a.fronts a.went a.good;
        tells = subst (λ l. Tells h.bank h.plan q mid.seen new.seen l a.places (reply.Refused r)) (sym whole)
            (inr (inr (
              fails_more h.bank h.plan (IsCommitted P.session) (IsWanted H q) (λ e k. inr (P.session, served_now s, k)) new.seen T U r led.is_at.no_fault a.serves.0,
              inr lacks,
            )));
      }

-- ---- what a reply may be
fails_refusal : (b : Tables) (plan : Plan) (K : Entry → Type 0) (S T : List Mark) (r : Refusal) → Fails b plan K S T r → IsRefusal r
fails_refusal b plan K S T (NoSession count) h = absurd h
fails_refusal b plan K S T OtherBooking h = absurd h
fails_refusal b plan K S T (WrongStep k) h = absurd h
fails_refusal b plan K S T (Other k) h = absurd h
fails_refusal b plan K S T (BadResponse k) h = absurd h
fails_refusal b plan K S T (IsClosed at) h = absurd h
fails_refusal b plan K S T (Stale at flag) h = absurd h
fails_refusal b plan K S T (OtherList session) h = absurd h
fails_refusal b plan K S T (NoItem count) h = absurd h
fails_refusal b plan K S T (SessionsFull count) h = absurd h
fails_refusal b plan K S T NoForm h = absurd h
fails_refusal b plan K S T NoneFound h = absurd h
fails_refusal b plan K S T (JournalFull l) h = tt
fails_refusal b plan K S T Disk h = tt
fails_refusal b plan K S T Memory h = tt

lacks_refusal : (b : Tables) (plan : Plan) (items : Set) (r : Refusal) → LacksForm b plan items r → IsRefusal r
lacks_refusal b plan items (NoSession count) h = elim h [ ]
lacks_refusal b plan items OtherBooking h = elim h [ ]
lacks_refusal b plan items (WrongStep k) h = elim h [ ]
lacks_refusal b plan items (Other k) h = elim h [ ]
lacks_refusal b plan items (BadResponse k) h = elim h [ ]
lacks_refusal b plan items (IsClosed at) h = elim h [ ]
lacks_refusal b plan items (Stale at flag) h = elim h [ ]
lacks_refusal b plan items (OtherList session) h = elim h [ ]
lacks_refusal b plan items (NoItem count) h = elim h [ ]
lacks_refusal b plan items (SessionsFull count) h = elim h [ ]
lacks_refusal b plan items NoForm h = tt
lacks_refusal b plan items NoneFound h = tt
lacks_refusal b plan items (JournalFull l) h = elim h [ ]
lacks_refusal b plan items Disk h = elim h [ ]
lacks_refusal b plan items Memory h = elim h [ ]

pub reply_is : (h : HallKnown) (old new : Known Mark) (q : Request) (answer : Reply) → Sees h old new q answer → IsReply answer
reply_is h old new q (reply.At session at fresh) s = tt
reply_is h old new q (reply.Exposure exposure) s = tt
reply_is h old new q (reply.Refused r) s = ⊎_elim
    (λ x. refused_so h.bank h.plan (history new.seen) q r x.test)
    (λ y. ⊎_elim
    (λ x. lacks_refusal h.bank h.plan (has x.items) r x.lacks)
    (λ x. fails_refusal h.bank h.plan (IsWanted (history new.seen) q) new.seen (taken new.seen (s.early ++ s.later)) r x.0)
    y)
    s.tells
