-- The tries to serve an item, one after another.
use Rattle.std.proofs.Common.{◌≡◌, inl, inr, ℕ, ◌≤◌, Bool, true, false, not, cond, ◌||◌, ◌==◌, List, [], ◌∷◌, ◌++◌, length, Option, Some, None, Result, Ok, Err, IfOk, refl, sym, ap, ◌∙◌, subst, arith}
use Rattle.std.specs.Prelude.{nat_le, find}
use Rattle.std.specs.List.{cons_option}
use Rattle.std.specs.Option.{option_or}
use Rattle.std.proofs.lemmas.Bool.{eq-eqb}
use Rattle.std.proofs.lemmas.List.Folds.{find-append}
use Rattle.std.proofs.Math.Bool.{true≢false}
use Rattle.bank_tables.specs.Tables.{Tables}
use Rattle.form_model.specs.Plan.{Plan}
use Rattle.form_model.specs.Validity.{IsPlanFor}
use Rattle.history_model.specs.declared.entry.Entry.{Entry}
use Rattle.history_model.specs.declared.entry.Entry.TheVariants.{SetAside, Served, Closed as OfClosed}
use Rattle.history_model.specs.declared.place.Place.{Place}
use Rattle.history_model.specs.declared.place.Place.TheVariants.{Pending, Waiting, Complete, Closed}
use Rattle.history_model.specs.declared.refusal.Refusal.{Refusal}
use Rattle.history_model.specs.Entries.{Serving, StepAnswer, is_started, is_closed, servings, step_answers}
use Rattle.history_model.specs.Legality.{Legal}
use Rattle.history_model.specs.Places.{place, place_at}
use Rattle.history_model.specs.Requests.{IsFirmServing, IsSettingAside, Serves, at_once, AdvancesFrom, Advances}
use Rattle.history_model.specs.Requests.{after_setting_aside as then_served}
use Rattle.history_model.specs.SessionProblems.{IsProblemOf}
use Rattle.history_model.proofs.Pushed.{list_end, or_end, started-push, closed-push, answers-push, servings-push}
use Rattle.history_model.proofs.Standing.{pending, there}
use Rattle.answer_journal.specs.Journal.{faults_of}
use Rattle.exam_office.specs.Asking.{IsGood, AreGood, no_more, one_more, IsStoppedBy, IsDurable, Steps, IsSettled}
use Rattle.exam_office.specs.Calls.{refused_with}
use Rattle.exam_office.specs.Marks.{history}
use Rattle.exam_office.specs.Running.{Running}
use Rattle.exam_office.specs.Serving.{IsTry, IsTriedAlong, untried, with_try, IsTried, tried, stopped, IsBeforeItem, waits, set_aside, ServesNext, aside, item, IsServedAlong, not_served, with_next, IsServed, served, unserved}
use Rattle.exam_office.specs.Writing.{IsSameOffice}
use Rattle.exam_office.proofs.Flags.{aside_then}
use Rattle.exam_office.proofs.Surely.{moved, stopped_weaker, steps_weaker, steps_joined, stayed_steps}

-- ---- where a session is after an entry of its own
or_on : (t : Bool) → (t || true) ≡ true
or_on true = refl
or_on false = refl

abbrev standing : Plan → Bool → Bool → List StepAnswer → List Serving → Option Place
standing plan t c A S = cond (not t) None (cond c (Some Closed) (cond (nat_le plan.length (length A)) (Some Complete) (Some (place_at (length A) (find (λ (x : Serving). x.step == length A) S)))))

-- setting aside leaves the session where it is
stays_pending : (b : Tables) (plan : Plan) (H : List Entry) (s : ℕ) (e : Entry) → IsSettingAside b plan H s e → place plan (H ++ e ∷ []) s ≡ place plan H s
stays_pending b plan H s e setting =
    let x : Entry = SetAside s setting.step setting.band setting.cause setting.nodes in
    let K = H ++ x ∷ [] in
    let t : is_started K s ≡ is_started H s = started-push H x s ∙ or_end (is_started H s) in
    let c : is_closed K s ≡ is_closed H s = closed-push H x s ∙ or_end (is_closed H s) in
    let A : step_answers K s ≡ step_answers H s = answers-push H x s ∙ list_end (step_answers H s) in
    let S : servings K s ≡ servings H s = servings-push H x s ∙ list_end (servings H s) in
    let same : place plan K s ≡ place plan H s =
    ap (λ (u : Bool). standing plan u (is_closed K s) (step_answers K s) (servings K s)) t
    ∙ (ap (λ (u : Bool). standing plan (is_started H s) u (step_answers K s) (servings K s)) c
    ∙ (ap (λ (u : List StepAnswer). standing plan (is_started H s) (is_closed H s) u (servings K s)) A
    ∙ ap (λ (u : List Serving). standing plan (is_started H s) (is_closed H s) (step_answers H s) u) S)) in
    ap (λ (y : Entry). place plan (H ++ y ∷ []) s) setting.is ∙ same

-- it is set aside once in the band of an estimate
not_twice : (b : Tables) (plan : Plan) → IsPlanFor b plan → (H : List Entry) (s : ℕ) (e f : Entry) → IsSettingAside b plan H s e → IsSettingAside b plan (H ++ e ∷ []) s f → ⊥
not_twice b plan fits H s e f setting again =
    let legal : Legal b plan H (SetAside s setting.step setting.band setting.cause setting.nodes) = subst (λ (y : Entry). Legal b plan H y) setting.is setting.legal in
    let legal1 : Legal b plan (H ++ e ∷ []) (SetAside s again.step again.band again.cause again.nodes) = subst (λ (y : Entry). Legal b plan (H ++ e ∷ []) y) again.is again.legal in
    let Q = legal1.problem in
    let then : IsProblemOf b plan (H ++ SetAside s setting.step setting.band setting.cause setting.nodes ∷ []) s again.step Q =
    subst (λ (y : Entry). IsProblemOf b plan (H ++ y ∷ []) s again.step Q) setting.is legal1.is_problem in
    true≢false (sym (aside_then b plan fits H s setting.step setting.band setting.nodes setting.cause legal again.step Q then) ∙ legal1.not_aside)

-- a session that was served doesn't wait for an item
not_pending : (b : Tables) (plan : Plan) (H : List Entry) (s k : ℕ) (e : Entry) → IsFirmServing b plan H s e → place plan (H ++ e ∷ []) s ≡ Some (Pending k) → ⊥
not_pending b plan H s k e firm still =
    let x : Entry = Served s firm.step firm.item firm.form firm.proved firm.nodes in
    let K = H ++ x ∷ [] in
    let y : Serving = record { step = firm.step; item = firm.item; form = firm.form; proved = firm.proved } in
    let n = firm.step in
    let before = pending plan H s n firm.is_problem.pending in
    let after = pending plan K s k (subst (λ (z : Entry). place plan (H ++ z ∷ []) s ≡ Some (Pending k)) firm.is still) in
    let A : step_answers K s ≡ step_answers H s = answers-push H x s ∙ list_end (step_answers H s) in
    let self : (s == s) ≡ true = eq-eqb s s refl in
    let S : servings K s ≡ servings H s ++ y ∷ [] = servings-push H x s ∙ ap (λ (t : Bool). servings H s ++ cons_option (cond t (Some y) None) []) self in
    let number : length (step_answers K s) ≡ n = ap (λ (u : List StepAnswer). length u) A ∙ before.number in
    let old : find (λ (z : Serving). z.step == n) (servings H s) ≡ None = subst (λ (m : ℕ). find (λ (z : Serving). z.step == m) (servings H s) ≡ None) before.number before.not_served in
    let new : find (λ (z : Serving). z.step == n) (servings K s) ≡ None = subst (λ (m : ℕ). find (λ (z : Serving). z.step == m) (servings K s) ≡ None) number after.not_served in
    let found : find (λ (z : Serving). z.step == n) (servings H s ++ y ∷ []) ≡ Some y =
    find-append (λ (z : Serving). z.step == n) (servings H s) (y ∷ [])
    ∙ (ap (λ (o : Option Serving). option_or o (find (λ (z : Serving). z.step == n) (y ∷ []))) old
    ∙ ap (λ (t : Bool). cond t (Some y) None) (eq-eqb n n refl)) in
    let clash : ◌≡◌ {A = Option Serving} None (Some y) = sym new ∙ (ap (λ (u : List Serving). find (λ (z : Serving). z.step == n) u) S ∙ found) in
    absurd (cc)

-- a session that was closed is Closed
pub closed_there : (plan : Plan) (H : List Entry) (s : ℕ) (at : Place) → place plan H s ≡ Some at → place plan (H ++ OfClosed s ∷ []) s ≡ Some Closed
closed_there plan H s at stands =
    let x : Entry = OfClosed s in
    let K = H ++ x ∷ [] in
    let self : (s == s) ≡ true = eq-eqb s s refl in
    let t : is_started K s ≡ true = started-push H x s ∙ (or_end (is_started H s) ∙ there plan H s at stands) in
    let c : is_closed K s ≡ true = closed-push H x s ∙ (ap (λ (u : Bool). is_closed H s || (u || false)) self ∙ or_on (is_closed H s)) in
    ap (λ (u : Bool). standing plan u (is_closed K s) (step_answers K s) (servings K s)) t
    ∙ ap (λ (u : Bool). standing plan true u (step_answers K s) (servings K s)) c

-- ---- a place that isn't Pending
pub settled_unless : (at : Place) → ((k : ℕ) → at ≡ Pending k → ⊥) → IsSettled at
settled_unless (Pending k) never = never k refl
settled_unless (Waiting k x proved) never = tt
settled_unless Complete never = tt
settled_unless Closed never = tt

not_settled : (at : Place) (k : ℕ) → at ≡ Pending k → IsSettled at → ⊥
not_settled at k is settled = subst IsSettled is settled

the_place : (plan : Plan) (H : List Entry) (s : ℕ) (at p : Place) → place plan H s ≡ Some at → place plan H s ≡ Some p → at ≡ p
the_place plan H s at p one two = let e : ◌≡◌ {A = Option Place} (Some at) (Some p) = sym one ∙ two in cc

-- ---- one try, and what it is of the whole
module _ (b : Tables) (plan : Plan) (base : List ℕ) (H : List Entry) (s : ℕ) where
  good_one : (e : Entry) → IsGood b plan base H e → AreGood b plan base H (H ++ e ∷ [])
  good_one e good = one_more H e no_more good

  -- the entry of a first try
  first_next : (e : Entry) → IsTry b plan H s e → ServesNext b plan H s H e
  first_next e (inl firm) = item H e (waits firm.step firm.is_problem.pending) firm
  first_next e (inr setting) = aside e setting

  first_along : (G : List Entry) → IsTriedAlong b plan base H s G → IsServedAlong b plan base H s G
  first_along G untried = not_served
  first_along G (with_try e try good) = with_next H e (first_next e try) (good_one e good)

  -- and of a second one
  module _ (fits : IsPlanFor b plan) (a : Entry) (setting : IsSettingAside b plan H s a) (good_a : IsGood b plan base H a) where
    good_two : (e : Entry) → IsGood b plan base (H ++ a ∷ []) e → AreGood b plan base H ((H ++ a ∷ []) ++ e ∷ [])
    good_two e good = one_more (H ++ a ∷ []) e (good_one a good_a) good

    second_next : (e : Entry) → IsTry b plan (H ++ a ∷ []) s e → ServesNext b plan H s (H ++ a ∷ []) e
    second_next e (inl firm) = item (H ++ a ∷ []) e (set_aside a setting) firm
    second_next e (inr again) = absurd (not_twice b plan fits H s a e setting again)

    second_along : (G : List Entry) → IsTriedAlong b plan base (H ++ a ∷ []) s G → IsServedAlong b plan base H s G
    second_along G untried = with_next H a (aside a setting) (good_one a good_a)
    second_along G (with_try e try good) = with_next (H ++ a ∷ []) e (second_next e try) (good_two e good)

-- ---- from tries to the whole
module _ {D : Type 0} (s : ℕ) (old : Running D) where
  advances : (step : ℕ) → place old.plan (history old.marks) s ≡ Some (Pending step) → (G : List Entry) → Serves old.bank old.plan (history old.marks) s G → Advances old.bank old.plan (history old.marks) s G
  advances step waiting G serves = subst (λ (o : Option Place). AdvancesFrom o old.bank old.plan (history old.marks) s G) (sym waiting) serves

  module _ (mid : Running D) (step : ℕ) (waiting : place old.plan (history old.marks) s ≡ Some (Pending step)) where
    -- one try, which stopped
    pub stopped_first : (r : Refusal) → IsTried old.bank old.plan old.base s old mid (Some r) → IsServed old.bank old.plan old.base s old mid (Some r)
    stopped_first r (stopped q grown why) =
        let H = history old.marks in
        let why1 = stopped_weaker old.bank old.plan H (IsTry old.bank old.plan H s) (ServesNext old.bank old.plan H s H) (first_next old.bank old.plan old.base H s) old old mid (omega arith) (λ e. e) q why in
        unserved q
        (subst (λ (G : List Entry). IsBeforeItem old.bank old.plan H s G) (sym grown) (waits step waiting))
        (subst (λ (G : List Entry). AreGood old.bank old.plan old.base H G) (sym grown) no_more)
        (subst (λ (G : List Entry). IsStoppedBy old.bank old.plan G (ServesNext old.bank old.plan H s G) old mid q) (sym grown) why1)

    -- one try, which served
    pub served_first : (at : Place) → place mid.plan (history mid.marks) s ≡ Some at → IsSettled at → IsSameOffice old mid → IsTried old.bank old.plan old.base s old mid None → IsServed old.bank old.plan old.base s old mid None
    served_first at stands settled same (tried e grown (inl firm) good durable) =
        let H = history old.marks in
        served (subst (λ (G : List Entry). Advances old.bank old.plan H s G) (sym grown) (advances step waiting (H ++ e ∷ []) (at_once e firm)))
        (subst (λ (G : List Entry). AreGood old.bank old.plan old.base H G) (sym grown) (good_one old.bank old.plan old.base H s e good)) durable
    served_first at stands settled same (tried e grown (inr setting) good durable) =
        let H = history old.marks in
        let here : place old.plan (history mid.marks) s ≡ Some at = subst (λ (p : Plan). place p (history mid.marks) s ≡ Some at) same.plan stands in
        let is : place old.plan (history mid.marks) s ≡ Some (Pending step) = ap (λ (G : List Entry). place old.plan G s) grown ∙ (stays_pending old.bank old.plan H s e setting ∙ waiting) in
        absurd (not_settled at step (the_place old.plan (history mid.marks) s at (Pending step) here is) settled)

    pub first_steps : Steps (IsTriedAlong old.bank old.plan old.base (history old.marks) s) old mid → Steps (IsServedAlong old.bank old.plan old.base (history old.marks) s) old mid
    first_steps steps = steps_weaker old mid (IsTriedAlong old.bank old.plan old.base (history old.marks) s) (IsServedAlong old.bank old.plan old.base (history old.marks) s) (first_along old.bank old.plan old.base (history old.marks) s) steps

    -- ---- two tries: the first set eligibility aside
    pub record IsAsideFirst : Type 0 where
      pub entry : Entry
      pub grown : history mid.marks ≡ history old.marks ++ entry ∷ []
      pub setting : IsSettingAside old.bank old.plan (history old.marks) s entry
      pub good : IsGood old.bank old.plan old.base (history old.marks) entry
      pub durable : IsDurable old.bank old.plan mid

    aside_so : (k : ℕ) → place old.plan (history mid.marks) s ≡ Some (Pending k) → IsTried old.bank old.plan old.base s old mid None → IsAsideFirst
    aside_so k stands (tried e grown (inl firm) good durable) = absurd (not_pending old.bank old.plan (history old.marks) s k e firm (subst (λ (G : List Entry). place old.plan G s ≡ Some (Pending k)) grown stands))
    aside_so k stands (tried e grown (inr setting) good durable) = record { entry = e; grown = grown; setting = setting; good = good; durable = durable }

    pub aside_first : (k : ℕ) → IsSameOffice old mid → place mid.plan (history mid.marks) s ≡ Some (Pending k) → IsTried old.bank old.plan old.base s old mid None → IsAsideFirst
    aside_first k same stands first = aside_so k (subst (λ (p : Plan). place p (history mid.marks) s ≡ Some (Pending k)) same.plan stands) first

    module _ (fits : IsPlanFor old.bank old.plan) (new : Running D) (a : IsAsideFirst) (grows : faults_of old.journal ≤ faults_of mid.journal) where
      then_so : (o : Option Refusal) → IsTried old.bank old.plan old.base s mid new o → IsServed old.bank old.plan old.base s old new o
      then_so o (tried e grown (inl firm) good durable) =
          let H = history old.marks in
          let J = H ++ a.entry ∷ [] in
          let firm1 : IsFirmServing old.bank old.plan J s e = subst (λ (G : List Entry). IsFirmServing old.bank old.plan G s e) a.grown firm in
          let good1 : IsGood old.bank old.plan old.base J e = subst (λ (G : List Entry). IsGood old.bank old.plan old.base G e) a.grown good in
          let grown1 : history new.marks ≡ J ++ e ∷ [] = grown ∙ ap (λ (G : List Entry). G ++ e ∷ []) a.grown in
          served (subst (λ (G : List Entry). Advances old.bank old.plan H s G) (sym grown1) (advances step waiting (J ++ e ∷ []) (then_served a.entry e a.setting firm1)))
          (subst (λ (G : List Entry). AreGood old.bank old.plan old.base H G) (sym grown1) (good_two old.bank old.plan old.base H s fits a.entry a.setting a.good e good1)) durable
      then_so o (tried e grown (inr again) good durable) =
          absurd (not_twice old.bank old.plan fits (history old.marks) s a.entry e a.setting (subst (λ (G : List Entry). IsSettingAside old.bank old.plan G s e) a.grown again))
      then_so o (stopped r same why) =
          let H = history old.marks in
          let J = H ++ a.entry ∷ [] in
          let grown1 : history new.marks ≡ J = same ∙ a.grown in
          let here : IsStoppedBy old.bank old.plan J (IsTry old.bank old.plan J s) mid new r =
          subst (λ (G : List Entry). IsStoppedBy old.bank old.plan G (IsTry old.bank old.plan G s) mid new r) a.grown why in
          let why1 = stopped_weaker old.bank old.plan J (IsTry old.bank old.plan J s) (ServesNext old.bank old.plan H s J) (second_next old.bank old.plan old.base H s fits a.entry a.setting a.good) old mid new grows (λ e. a.durable.sure) r here in
          unserved r
          (subst (λ (G : List Entry). IsBeforeItem old.bank old.plan H s G) (sym grown1) (set_aside a.entry a.setting))
          (subst (λ (G : List Entry). AreGood old.bank old.plan old.base H G) (sym grown1) (good_one old.bank old.plan old.base H s a.entry a.good))
          (subst (λ (G : List Entry). IsStoppedBy old.bank old.plan G (ServesNext old.bank old.plan H s G) old new r) (sym grown1) why1)

      pub tried_twice : IsSameOffice old mid → (o : Option Refusal) → IsTried mid.bank mid.plan mid.base s mid new o → IsServed old.bank old.plan old.base s old new o
      tried_twice same o second = then_so o (moved old mid same (λ (t : Tables) (p : Plan) (c : List ℕ). IsTried t p c s mid new o) second)

      pub two_steps : IsSameOffice old mid → Steps (IsTriedAlong old.bank old.plan old.base (history old.marks) s) old mid → Steps (IsTriedAlong mid.bank mid.plan mid.base (history mid.marks) s) mid new → Steps (IsServedAlong old.bank old.plan old.base (history old.marks) s) old new
      two_steps same one two =
          let H = history old.marks in
          steps_joined old mid new (IsTriedAlong old.bank old.plan old.base H s) (IsTriedAlong mid.bank mid.plan mid.base (history mid.marks) s) (IsServedAlong old.bank old.plan old.base H s)
          (first_along old.bank old.plan old.base H s)
          (λ G along. second_along old.bank old.plan old.base H s fits a.entry a.setting a.good G (subst (λ (J : List Entry). IsTriedAlong old.bank old.plan old.base J s G) a.grown (moved old mid same (λ (t : Tables) (p : Plan) (c : List ℕ). IsTriedAlong t p c (history mid.marks) s G) along)))
          one two

      -- then the session doesn't wait for an item
      settled_so : (o : Option Refusal) → o ≡ None → IsTried old.bank old.plan old.base s mid new o → (at : Place) → place old.plan (history new.marks) s ≡ Some at → IsSettled at
      settled_so o is (tried e grown (inl firm) good durable) at stands =
          settled_unless at (λ k same. not_pending old.bank old.plan (history mid.marks) s k e firm (subst (λ (G : List Entry). place old.plan G s ≡ Some (Pending k)) grown (stands ∙ ap (λ (p : Place). Some p) same)))
      settled_so o is (tried e grown (inr again) good durable) at stands =
          absurd (not_twice old.bank old.plan fits (history old.marks) s a.entry e a.setting (subst (λ (G : List Entry). IsSettingAside old.bank old.plan G s e) a.grown again))
      settled_so o is (stopped r grown why) at stands = absurd (cc)

      pub settled_twice : (result : Result Place Refusal) → IsSameOffice old mid → IsSameOffice mid new → IsTried mid.bank mid.plan mid.base s mid new (refused_with result) → IfOk result (λ at. place new.plan (history new.marks) s ≡ Some at) → IfOk result IsSettled
      settled_twice (Err r) same then second stands = tt
      settled_twice (Ok at) same then second stands =
          settled_so None refl (moved old mid same (λ (t : Tables) (p : Plan) (c : List ℕ). IsTried t p c s mid new None) second) at
          (subst (λ (p : Plan). place p (history new.marks) s ≡ Some at) (then.plan ∙ same.plan) stands)

-- ---- a session that doesn't wait for an item
still_at : (b : Tables) (plan : Plan) (H : List Entry) (s : ℕ) (at : Place) → IsSettled at → AdvancesFrom (Some at) b plan H s H
still_at b plan H s (Pending step) is = absurd is
still_at b plan H s (Waiting step x proved) is = refl
still_at b plan H s Complete is = refl
still_at b plan H s Closed is = refl

pub stayed : {D : Type 0} (s : ℕ) (old : Running D) (at : Place) → place old.plan (history old.marks) s ≡ Some at → IsSettled at → IsDurable old.bank old.plan old → IsServed old.bank old.plan old.base s old old None
stayed s old at stands is durable =
    served (subst (λ (o : Option Place). AdvancesFrom o old.bank old.plan (history old.marks) s (history old.marks)) (sym stands) (still_at old.bank old.plan (history old.marks) s at is)) no_more durable

pub stayed_along : {D : Type 0} (s : ℕ) (old : Running D) → IsDurable old.bank old.plan old → Steps (IsServedAlong old.bank old.plan old.base (history old.marks) s) old old
stayed_along s old durable = stayed_steps old (IsServedAlong old.bank old.plan old.base (history old.marks) s) not_served durable
