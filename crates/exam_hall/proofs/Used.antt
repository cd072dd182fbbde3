-- The form that is ready is the one that is served.
use Rattle.std.proofs.Common.{◌≡◌, ℕ, suc, ◌+◌, ◌<◌, ◌≤◌, ◌==◌, ◌||◌, Bool, true, false, List, [], ◌∷◌, ◌++◌, length, refl, sym, ap, ◌∙◌, subst, inl, inr, ⊎_elim, arith, get_or, Contains, slice_get, Option, Some, None, IfSome}
use Rattle.std.specs.List.{list_any}
use Rattle.std.proofs.lemmas.Bool.{cases_Bool, eqb-true}
use Rattle.std.proofs.lemmas.List.Elements.{Contains-append_cases}
use Rattle.std.proofs.lemmas.List.Folds.{list_any-append}
use Rattle.std.proofs.lemmas.Option.{slice_get_within}
use Rattle.form_model.specs.Plan.{band_of}
use Rattle.form_model.specs.Problem.{Problem as Model}
use Rattle.certificate_model.specs.Relaxed.{Multipliers}
use Rattle.serving_model.specs.Seats.{eight, is_aside_in}
use Rattle.constraint_model.specs.declared.problem.Problem.{Problem}
use Rattle.constraint_model.specs.Views.{problem_of}
use Rattle.history_model.specs.declared.entry.Entry.{Entry}
use Rattle.history_model.specs.declared.entry.Entry.TheVariants.{Started, SetAside, Served, Answered, Closed}
use Rattle.history_model.specs.declared.place.Place.TheVariants.{Pending}
use Rattle.history_model.specs.declared.request.Request.{Request}
use Rattle.history_model.specs.declared.request.Request.TheVariants.{Begin, BeginWithout, Answer, Close, Look, Exposure}
use Rattle.history_model.specs.declared.request.Reply.{Reply}
use Rattle.history_model.specs.declared.request.Reply.TheVariants as reply
use Rattle.history_model.specs.Entries.{is_set_aside, seat_of}
use Rattle.history_model.specs.Legality.{LegalRun}
use Rattle.history_model.specs.Places.{place}
use Rattle.history_model.specs.Refusals.{recorded}
use Rattle.history_model.specs.SessionProblems.{IsProblemOf}
use Rattle.history_model.proofs.AheadLaws.{ahead_stays, answered_there}
use Rattle.history_model.proofs.JudgingLaws.{one_problem}
use Rattle.history_model.proofs.ProblemStaying.{problem_stays}
use Rattle.history_model.proofs.SessionEntries.{sets_session_aside, aside_by}
use Rattle.turn_lock.specs.Histories.{StartsWith}
use Rattle.turn_lock.specs.Passes.{Known}
use Rattle.turn_lock.proofs.Lists.{contains_cons, contains_nothing, starts_length}
use Rattle.branch_bound.specs.Assembled.{Assembly}
use Rattle.branch_bound.specs.declared.outcome.Outcome.{Outcome}
use Rattle.branch_bound.specs.declared.outcome.Outcome.TheVariants.{Found}
use Rattle.exam_office.specs.declared.mark.Mark.{Mark}
use Rattle.exam_office.specs.declared.mark.Mark.TheVariants.{Old, Opened, Own, Adopted, Fault}
use Rattle.exam_office.specs.Commits.{IsEntryFor}
use Rattle.exam_office.specs.Marks.{entry_of, history}
use Rattle.exam_office.proofs.Flags.{flag_of}
use Rattle.exam_hall.specs.declared.asking.FirstAnswer.TheVariants.{Done, Waits}
use Rattle.exam_hall.specs.declared.committing.Round.{Round}
use Rattle.exam_hall.specs.declared.committing.Round.TheVariants.{Again}
use Rattle.exam_hall.specs.Known.{HallKnown}
use Rattle.exam_hall.specs.Went.{Went, Rising, taken}
use Rattle.exam_hall.specs.Parts.{own_of, owns, AtMostOne, IsAside, IsFirst, HasOther}
use Rattle.exam_hall.specs.Leading.{IsAsked, IsBegun}
use Rattle.exam_hall.specs.Prepared.{KeepsFor}
use Rattle.exam_hall.specs.Rounds.{IsEntryOf, IsOfStep, AddsOnly, Rounds}
use Rattle.exam_hall.specs.Turns.{HasBegun}
use Rattle.exam_hall.specs.Used.{HasForm, IsServingAt, IsReady, Uses, AddsOwn, UsesFirst}
use Rattle.exam_hall.proofs.Went.{get_before, get_after, went_through, taken_both, starts_through}
use Rattle.exam_hall.proofs.Calls.{cancel}
use Rattle.exam_hall.proofs.Seen.{lacks_all}
use Rattle.exam_hall.proofs.Moved.{Has, shifted, history_append, owns_append, owns_has, only_one}

-- ---- the places of a call's own entries
-- they are those of its turns
pub own_places : (old new : Known Mark) (fs ps own : List ℕ) → Went old new fs ps → new.mine ≡ old.mine ++ own → own ≡ ps
own_places old new fs ps own w is = cancel old.mine own ps (sym is ∙ w.own)

pub adds_own : (P : Entry → Type 0) (old new : Known Mark) (fs ps : List ℕ) → Went old new fs ps → AddsOnly P (taken new.seen ps) → AddsOwn P old new
adds_own P old new fs ps w only = λ own is. subst (λ l. AddsOnly P (taken new.seen l)) (sym (own_places old new fs ps own w is)) only

pub added_at : (P : Entry → Type 0) (old new : Known Mark) (fs ps : List ℕ) → Went old new fs ps → AddsOwn P old new → AddsOnly P (taken new.seen ps)
added_at P old new fs ps w adds = adds ps w.own

risen : (n : ℕ) (ps : List ℕ) (p : ℕ) → Rising n ps → Contains ps p → n ≤ p
risen n [] p r c = absurd (contains_nothing p c)
risen n (q ∷ ps) p r c = ⊎_elim
    (λ same. (let le = r.0 in omega arith))
    (λ t. (let le = r.0 in let i = risen (suc q) ps p r.1 t in omega arith))
    (contains_cons q p ps c)

-- ---- turns one after another
module _ (a b c : Known Mark) (f g ps qs : List ℕ) (w : Went a b f ps) (v : Went b c g qs) where
  pub both_own : (own : List ℕ) → c.mine ≡ a.mine ++ own → own ≡ ps ++ qs
  both_own own is = own_places a c (f ++ g) (ps ++ qs) own (went_through a b c f g ps qs w v) is

  -- an own place among the first marks is one of the first turns
  pub early_own : (own : List ℕ) → c.mine ≡ a.mine ++ own → (p : ℕ) → Contains own p → p < length b.seen → Contains ps p
  early_own own is p in_own low = ⊎_elim
      (λ t. t)
      (λ t. absurd (let high = risen (length b.seen) qs p v.rising t in omega arith))
      (Contains-append_cases ps qs p (subst (λ l. Contains l p) (both_own own is) in_own))

  -- an entry that they added was added by the first turns or by the later ones
  pub either_added : (own : List ℕ) → c.mine ≡ a.mine ++ own → (e : Entry) → Contains (owns (taken c.seen own)) e
      → (P : Type 0) → (Contains (owns (taken b.seen ps)) e → P) → (Contains (owns (taken c.seen qs)) e → P) → P
  either_added own is e there P early late =
      let all : taken c.seen own ≡ taken b.seen ps ++ taken c.seen qs = ap (λ l. taken c.seen l) (both_own own is) ∙ taken_both a b c f g ps qs w v in
      let split : owns (taken c.seen own) ≡ owns (taken b.seen ps) ++ owns (taken c.seen qs) = ap owns all ∙ owns_append (taken b.seen ps) (taken c.seen qs) in
      ⊎_elim early late (Contains-append_cases (owns (taken b.seen ps)) (owns (taken c.seen qs)) e (subst (λ l. Contains l e) split there))

  pub both_add : (P : Entry → Type 0) → AddsOwn P a b → AddsOwn P b c → AddsOwn P a c
  both_add P one two = λ own is e there.
      either_added own is e there (P e) (one ps w.own e) (two qs v.own e)

-- ---- the flags of a seat
eight_same : (f g : ℕ → Bool) → ((k : ℕ) → f k ≡ g k) → eight f ≡ eight g
eight_same f g h = rw (h 0, h 1, h 2, h 3, h 4, h 5, h 6, h 7) refl

or_false : (t : Bool) → (t || false) ≡ t
or_false true = refl
or_false false = refl

-- entries that set nothing aside for the session leave them as they are
flags_stay : (H G : List Entry) (s : ℕ) → ((k : ℕ) → list_any (sets_session_aside s k) G ≡ false) → (band : ℕ) → is_aside_in (seat_of (H ++ G) s) band ≡ is_aside_in (seat_of H s) band
flags_stay H G s none band = ap (λ flags. get_or flags band false) (eight_same (is_set_aside (H ++ G) s) (is_set_aside H s) same)
  where
    same : (k : ℕ) → is_set_aside (H ++ G) s k ≡ is_set_aside H s k
    same k =
        let p = sets_session_aside s k in
        aside_by (H ++ G) s k ∙ (list_any-append p H G ∙ (ap (λ t. list_any p H || t) (none k) ∙ (or_false (list_any p H) ∙ sym (aside_by H s k))))

no_setting : (s k : ℕ) (e : Entry) → (IsAside s e → ⊥) → sets_session_aside s k e ≡ false
no_setting s k (Started session booking eligible without) never = refl
no_setting s k (SetAside session step band cause nodes) never = elim (cases_Bool (session == s)) [
  | inl same ↦ absurd (never (eqb-true session s same))
  | inr other ↦ rw other refl
]
no_setting s k (Served session step item form proved nodes) never = refl
no_setting s k (Answered session step response) never = refl
no_setting s k (Closed session) never = refl

with_entry : (s k : ℕ) (m : Mark) (e : Entry) (T : List Mark) → entry_of m ≡ Some e → (Has (IsAside s) (m ∷ T) → ⊥) → list_any (sets_session_aside s k) (history T) ≡ false
    → (sets_session_aside s k e || list_any (sets_session_aside s k) (history T)) ≡ false
with_entry s k m e T is none rest =
    ap (λ t. t || list_any (sets_session_aside s k) (history T)) (no_setting s k e (λ h. none (0, m, e, refl, is, h))) ∙ rest

-- nor do marks without such an entry
none_set : (s : ℕ) (T : List Mark) → (Has (IsAside s) T → ⊥) → (k : ℕ) → list_any (sets_session_aside s k) (history T) ≡ false
none_set s [] none k = refl
none_set s (Old e ∷ T) none k = with_entry s k (Old e) e T refl none (none_set s T (λ h. none (shifted (IsAside s) (Old e) T h)) k)
none_set s (Opened n ∷ T) none k = none_set s T (λ h. none (shifted (IsAside s) (Opened n) T h)) k
none_set s (Own e n ∷ T) none k = with_entry s k (Own e n) e T refl none (none_set s T (λ h. none (shifted (IsAside s) (Own e n) T h)) k)
none_set s (Adopted e n ∷ T) none k = with_entry s k (Adopted e n) e T refl none (none_set s T (λ h. none (shifted (IsAside s) (Adopted e n) T h)) k)
none_set s (Fault e ∷ T) none k = none_set s T (λ h. none (shifted (IsAside s) (Fault e) T h)) k

-- ---- where others set nothing aside
some_same : {A : Type 0} {a b : A} → Some a ≡ Some b → a ≡ b
some_same e = cc

module _ (P : Entry → Type 0) (F M S : List Mark) (begins : StartsWith M F) (goes_on : StartsWith S M) (own : List ℕ)
    (apart : (p : ℕ) (e : Entry) (n : ℕ) → Contains own p → slice_get M p ≡ Some (Own e n) → P e → ⊥) where
  not_mine : (p : ℕ) (m : Mark) (e : Entry) → slice_get M p ≡ Some m → entry_of m ≡ Some e → P e → Contains own p → own_of m ≡ None
  not_mine p (Old d) e at is passes c = refl
  not_mine p (Opened n) e at is passes c = refl
  not_mine p (Own d n) e at is passes c = absurd (apart p d n c at (subst P (sym (some_same is)) passes))
  not_mine p (Adopted d n) e at is passes c = refl
  not_mine p (Fault d) e at is passes c = refl

  -- an entry between F and M is another caller's
  pub other_between : Has P begins.0 → HasOther P F S own
  other_between h =
      let p = length F + h.0 in
      let at : slice_get M p ≡ Some h.1 = ap (λ (L : List Mark). slice_get L p) begins.1 ∙ (get_after F begins.0 h.0 ∙ h.3) in
      let low : p < length M = slice_get_within M p h.1 at in
      record {
        at = p;
        mark = h.1;
        entry = h.2;
        later = omega arith;
        there = ap (λ (L : List Mark). slice_get L p) goes_on.1 ∙ (get_before M goes_on.0 p low ∙ at);
        is = h.4;
        passes = h.5;
        not_own = not_mine p h.1 h.2 at h.4 h.5;
      }

-- the flags of the session are as they were
flags_kept : (s : ℕ) (F M S : List Mark) (begins : StartsWith M F) (goes_on : StartsWith S M) (own : List ℕ) → ((p : ℕ) (e : Entry) (n : ℕ) → Contains own p → slice_get M p ≡ Some (Own e n) → IsAside s e → ⊥)
    → (HasOther (IsAside s) F S own → ⊥) → (band : ℕ) → is_aside_in (seat_of (history M) s) band ≡ is_aside_in (seat_of (history F) s) band
flags_kept s F M S begins goes_on own apart none band =
    let is : history M ≡ history F ++ history begins.0 = ap history begins.1 ∙ history_append F begins.0 in
    ap (λ (H : List Entry). is_aside_in (seat_of H s) band) is
    ∙ flags_stay (history F) (history begins.0) s (none_set s begins.0 (λ h. none (other_between (IsAside s) F M S begins goes_on own apart h))) band

-- ---- one round
-- the entry of a form sets nothing aside
form_serves : (P : Model) (n s : ℕ) (form : List ℕ) (proved : Bool) (o : Outcome) (e : Entry) → o ≡ Found form proved → IsEntryFor P n o e → IsAside s e → ⊥
form_serves P n s form proved o e is made aside =
    let found : IsEntryFor P n (Found form proved) e = subst (λ (x : Outcome). IsEntryFor P n x e) is made in
    subst (IsAside s) found.2 aside

entry_serves : (made : Assembly) (s : ℕ) (e : Entry) → HasForm made → IsEntryOf made e → IsAside s e → ⊥
entry_serves made s e has_form is aside = form_serves (problem_of made.problem) (length made.tree.nodes) s has_form.0 has_form.1 made.outcome e has_form.2 is aside

-- after the commit of a form the session doesn't wait for the item of that step, unless others set
-- eligibility aside for it
module _ (h : HallKnown) (P Q : Problem) (old mid new : Known Mark) (asked : IsAsked h.bank h.plan (history old.seen) P) (r : Rounds h P old mid (Again Q))
    (made : Assembly) (only : AddsOwn (IsEntryOf made) old mid) (has_form : HasForm made) (fs qs : List ℕ) (w : Went mid new fs qs)
    (own : List ℕ) (own_is : new.mine ≡ old.mine ++ own) (none : HasOther (IsAside P.session) old.seen new.seen own → ⊥) where
  abbrev s : ℕ
  s = P.session

  nothing_added : owns (taken mid.seen r.places) ≡ []
  nothing_added = ⊎_elim
      (λ e. e)
      (λ t. absurd (entry_serves made s t.0 has_form (only r.places r.went.own t.0 (subst (λ l. Contains l t.0) (sym t.1) (0, omega arith, refl))) t.2))
      r.ends.one

  apart : (p : ℕ) (e : Entry) (n : ℕ) → Contains own p → slice_get mid.seen p ≡ Some (Own e n) → IsAside s e → ⊥
  apart p e n c at aside =
      let low : p < length mid.seen = slice_get_within mid.seen p (Own e n) at in
      let early : Contains r.places p = early_own old mid new r.fronts fs r.places qs r.went w own own_is p c low in
      contains_nothing e (subst (λ l. Contains l e) nothing_added (owns_has mid.seen r.places p e n early at))

  pub never_again : ⊥
  never_again =
      let b = h.bank in
      let plan = h.plan in
      let M : Model = problem_of P in
      let kept = flags_kept s old.seen mid.seen new.seen r.went.seen w.seen own apart none (band_of plan P.theta) in
      let flag : is_aside_in (seat_of (history mid.seen) s) (band_of plan M.theta) ≡ M.aside = kept ∙ sym (flag_of b plan (history old.seen) s P.step M asked.is_problem) in
      let next : IsProblemOf b plan (history mid.seen) s P.step (problem_of Q) =
      subst (λ n. IsProblemOf b plan (history mid.seen) n P.step (problem_of Q)) r.ends.session
      (subst (λ k. IsProblemOf b plan (history mid.seen) Q.session k (problem_of Q)) r.ends.step r.ends.asked.is_problem) in
      let more : history mid.seen ≡ history old.seen ++ history r.went.seen.0 = ap history r.went.seen.1 ∙ history_append old.seen r.went.seen.0 in
      let still : IsProblemOf b plan (history mid.seen) s P.step M =
      subst (λ (H : List Entry). IsProblemOf b plan H s P.step M) (sym more)
      (problem_stays b plan (history old.seen) (history r.went.seen.0) s P.step M (subst (LegalRun b plan) more r.legal) asked.is_problem
      (subst (λ (H : List Entry). place plan H s ≡ Some (Pending P.step)) more next.pending)
      (subst (λ (H : List Entry). is_aside_in (seat_of H s) (band_of plan M.theta) ≡ M.aside) more flag)) in
      r.ends.aside (sym (ap (λ (R : Model). R.aside) (one_problem b plan (history mid.seen) s P.step M (problem_of Q) still next)))

-- ---- the rounds of a request
pub once_used : (s : ℕ) (old new : Known Mark) (prepared : Option Assembly) → IfSome prepared (λ a. AddsOwn (IsEntryOf a) old new) → IfSome prepared (UsesFirst s old new)
once_used s old new None adds = tt
once_used s old new (Some a) adds = λ own is has_form none. adds own is

pub twice_used : (h : HallKnown) (P Q : Problem) (old mid new : Known Mark) → IsAsked h.bank h.plan (history old.seen) P → Rounds h P old mid (Again Q) → (fs qs : List ℕ) → Went mid new fs qs
    → (prepared : Option Assembly) → IfSome prepared (λ a. AddsOwn (IsEntryOf a) old mid) → IfSome prepared (UsesFirst P.session old new)
twice_used h P Q old mid new asked r fs qs w None adds = tt
twice_used h P Q old mid new asked r fs qs w (Some a) adds = λ own is has_form none. absurd (never_again h P Q old mid new asked r a adds has_form fs qs w own is none)

pub once_step : (h : HallKnown) (P : Problem) (old new : Known Mark) (round : Round) → Rounds h P old new round → AddsOwn (IsOfStep P.step) old new
once_step h P old new round r = adds_own (IsOfStep P.step) old new r.fronts r.places r.went r.of_step

pub twice_step : (h : HallKnown) (P Q : Problem) (old mid new : Known Mark) (round : Round) → Rounds h P old mid (Again Q) → Rounds h Q mid new round → AddsOwn (IsOfStep P.step) old new
twice_step h P Q old mid new round r q =
    both_add old mid new r.fronts q.fronts r.places q.places r.went q.went (IsOfStep P.step) (once_step h P old mid (Again Q) r)
    (subst (λ k. AddsOwn (IsOfStep k) mid new) r.ends.step (once_step h Q mid new round q))

-- ---- the request
-- the first entry of an answer is the answer
answer_only : (session step response : ℕ) (booking : Option ℕ) (E : List Entry) (e : Entry) → AtMostOne (IsFirst (Answer session step response booking)) E → Contains E e → e ≡ Answered session step response
answer_only session step response booking E e one c = only_one (IsFirst (Answer session step response booking)) E e one c

answer_serves : (session step response s k : ℕ) (e : Entry) → e ≡ Answered session step response → IsServingAt s k e → ⊥
answer_serves session step response s k e is serves = subst (IsServingAt s k) is serves

answer_sets : (session step response s : ℕ) (e : Entry) → e ≡ Answered session step response → IsAside s e → ⊥
answer_sets session step response s e is aside = subst (IsAside s) is aside

served_step : (s k j : ℕ) (e : Entry) → IsServingAt s k e → IsOfStep j e → j ≡ k
served_step s k j (Started session booking eligible without) h i = absurd h
served_step s k j (SetAside session step band cause nodes) h i = absurd h
served_step s k j (Served session step item form proved nodes) h i = sym i ∙ h.1
served_step s k j (Answered session step response) h i = absurd h
served_step s k j (Closed session) h i = absurd h

module _ (h : HallKnown) (old mid new : Known Mark) (session step response : ℕ) (booking : Option ℕ) (fresh : Bool) (P : Problem) (warm : Option Multipliers)
    (b : HasBegun h old mid (Answer session step response booking) (Waits fresh P warm)) (fs qs : List ℕ) (w : Went mid new fs qs) (of_step : AddsOwn (IsOfStep P.step) mid new)
    (made : Assembly) (own : List ℕ) (ready : IsReady h old new own session step response made) where
  abbrev H : List Entry
  H = history mid.seen

  abbrev M : Model
  M = problem_of made.problem

  early_is : (e : Entry) → Contains (owns (taken mid.seen b.places)) e → e ≡ Answered session step response
  early_is e c = answer_only session step response booking (owns (taken mid.seen b.places)) e b.begins.0.one c

  apart_first : (p : ℕ) (e : Entry) (n : ℕ) → Contains own p → slice_get mid.seen p ≡ Some (Own e n) → IsAside session e → ⊥
  apart_first p e n c at aside =
      let low : p < length mid.seen = slice_get_within mid.seen p (Own e n) at in
      let early : Contains b.places p = early_own old mid new (length mid.seen ∷ []) fs b.places qs b.went w own ready.own_is p c low in
      answer_sets session step response session e (early_is e (owns_has mid.seen b.places p e n early at)) aside

  grown : StartsWith mid.seen ready.front
  grown = starts_through ready.front old.seen mid.seen ready.there b.went.seen

  -- the flag is that of the problem that was prepared
  flag_is : is_aside_in (seat_of H session) (band_of h.plan M.theta) ≡ M.aside
  flag_is =
      let F = history ready.front in
      let A : Entry = Answered session ready.next.step response in
      let band = band_of h.plan M.theta in
      flags_kept session ready.front mid.seen new.seen grown w.seen own apart_first ready.only_own band
      ∙ (sym (flags_stay F (A ∷ []) session (λ k. refl) band)
      ∙ sym (flag_of h.bank h.plan (F ++ A ∷ []) session (ready.next.step + 1) M ready.next.ahead.is_problem))

  session_is : P.session ≡ session
  session_is = b.begins.0.is_at.session_is.0

  -- an item of the next step is served: so the first turn found the problem that was prepared
  problem_is : P.step ≡ step + 1 → M ≡ problem_of P
  problem_is at =
      let k = ready.next.step in
      let same : k ≡ step = (let e = sym ready.next.after ∙ ready.after in omega arith) in
      let more : H ≡ history ready.front ++ history grown.0 = ap history grown.1 ∙ history_append ready.front grown.0 in
      let asked : IsProblemOf h.bank h.plan H session (step + 1) (problem_of P) =
      subst (λ n. IsProblemOf h.bank h.plan H n (step + 1) (problem_of P)) session_is (subst (λ j. IsProblemOf h.bank h.plan H P.session j (problem_of P)) at b.begins.1.is_problem) in
      let at_step : IsProblemOf h.bank h.plan H session (k + 1) (problem_of P) = subst (λ j. IsProblemOf h.bank h.plan H session (j + 1) (problem_of P)) (sym same) asked in
      let given : recorded H session k ≡ Some response =
      subst (λ j. recorded H session j ≡ Some response) (sym same) (answered_there h.bank h.plan H session step response b.legal b.begins.0.is_at.answered) in
      let there : IsProblemOf h.bank h.plan H session (k + 1) M =
      subst (λ (G : List Entry). IsProblemOf h.bank h.plan G session (k + 1) M) (sym more)
      (ahead_stays h.bank h.plan (history ready.front) (history grown.0) session k response M ready.next.ahead
      (subst (LegalRun h.bank h.plan) more b.legal)
      (subst (λ (G : List Entry). recorded G session k ≡ Some response) more given)
      (subst (λ (G : List Entry). place h.plan G session ≡ Some (Pending (k + 1))) more at_step.pending)
      (subst (λ (G : List Entry). is_aside_in (seat_of G session) (band_of h.plan M.theta) ≡ M.aside) more flag_is)) in
      one_problem h.bank h.plan H session (k + 1) M (problem_of P) there at_step

  -- who sets eligibility aside after the first turn does so after the marks that gave the problem
  other_earlier : HasOther (IsAside P.session) mid.seen new.seen qs → HasOther (IsAside session) ready.front new.seen own
  other_earlier o = record {
    at = o.at;
    mark = o.mark;
    entry = o.entry;
    later = (let later = o.later in let n = starts_length mid.seen ready.front grown in omega arith);
    there = o.there;
    is = o.is;
    passes = subst (λ n. IsAside n o.entry) session_is o.passes;
    not_own = λ c. ⊎_elim
        (λ t. absurd (let later = o.later in let low = below o.at t in omega arith))
        (λ t. o.not_own t)
        (Contains-append_cases b.places qs o.at (subst (λ l. Contains l o.at) (both_own old mid new (length mid.seen ∷ []) fs b.places qs b.went w own ready.own_is) c));
  }
    where
      below : (p : ℕ) → Contains b.places p → p < length mid.seen
      below p t = subst (λ n. n < length mid.seen) t.2 (b.went.below t.0 p t.1)

  pub served_ready : (kept : Option Assembly) → KeepsFor P (Some made) kept → IfSome kept (UsesFirst P.session mid new)
      → (e : Entry) → Contains (owns (taken new.seen own)) e → IsServingAt session (step + 1) e → IsEntryOf made e
  served_ready kept keeps uses e there serves =
      either_added old mid new (length mid.seen ∷ []) fs b.places qs b.went w own ready.own_is e there (IsEntryOf made e)
      (λ early. absurd (answer_serves session step response session (step + 1) e (early_is e early) serves))
      (λ late.
      (let at : P.step ≡ step + 1 = served_step session (step + 1) P.step e serves (of_step qs w.own e late) in
      let is : kept ≡ Some made = keeps made refl (problem_is at) in
      let first : UsesFirst P.session mid new made = subst (λ (o : Option Assembly). IfSome o (UsesFirst P.session mid new)) is uses in
      first qs w.own ready.has_form (λ o. ready.only_own (other_earlier o)) e late))

module _ (h : HallKnown) (old mid new : Known Mark) (fresh : Bool) (P : Problem) (warm : Option Multipliers) (fs qs : List ℕ) (w : Went mid new fs qs) (of_step : AddsOwn (IsOfStep P.step) mid new)
    (kept : Option Assembly) (uses : IfSome kept (UsesFirst P.session mid new)) where
  uses_made : (made : Assembly) (q : Request) → HasBegun h old mid q (Waits fresh P warm) → KeepsFor P (Some made) kept → Uses h old new q made
  uses_made made (Begin booking) b keeps = tt
  uses_made made (BeginWithout booking items) b keeps = tt
  uses_made made (Answer session step response booking) b keeps = λ own ready. served_ready h old mid new session step response booking fresh P warm b fs qs w of_step made own ready kept keeps uses
  uses_made made (Close session booking) b keeps = tt
  uses_made made (Look session) b keeps = tt
  uses_made made Exposure b keeps = tt

  pub uses_served : (prepared : Option Assembly) (q : Request) → HasBegun h old mid q (Waits fresh P warm) → KeepsFor P prepared kept → IfSome prepared (Uses h old new q)
  uses_served None q b keeps = tt
  uses_served (Some made) q b keeps = uses_made made q b keeps

-- a request that is done in its first turn serves nothing
done_one : (h : HallKnown) (q : Request) (S T : List Mark) (answer : Reply) → IsBegun h.bank h.plan q S T (Done answer) → AtMostOne (IsFirst q) (owns T)
done_one h q S T (reply.At session at fresh) begun = begun.0.one
done_one h q S T (reply.Exposure exposure) begun = inl begun.0.none
done_one h q S T (reply.Refused r) begun = inl (⊎_elim (λ x. x.none) (λ y. ⊎_elim (λ x. x.none) (λ x. lacks_all h.bank h.plan S q (owns T) x.1) y) begun.0)

module _ (h : HallKnown) (old new : Known Mark) (answer : Reply) where
  done_made : (made : Assembly) (q : Request) → HasBegun h old new q (Done answer) → Uses h old new q made
  done_made made (Begin booking) b = tt
  done_made made (BeginWithout booking items) b = tt
  done_made made (Answer session step response booking) b = λ own ready e there serves.
      (let is = own_places old new (length new.seen ∷ []) b.places own b.went ready.own_is in
      let one = done_one h (Answer session step response booking) new.seen (taken new.seen b.places) answer b.begins in
      absurd (answer_serves session step response session (step + 1) e
      (answer_only session step response booking (owns (taken new.seen b.places)) e one (subst (λ ps. Contains (owns (taken new.seen ps)) e) is there)) serves))
  done_made made (Close session booking) b = tt
  done_made made (Look session) b = tt
  done_made made Exposure b = tt

  pub uses_done : (prepared : Option Assembly) (q : Request) → HasBegun h old new q (Done answer) → IfSome prepared (Uses h old new q)
  uses_done None q b = tt
  uses_done (Some made) q b = done_made made q b
