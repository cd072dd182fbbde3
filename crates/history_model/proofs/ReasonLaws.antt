-- A record has at most one reason, and none if it may follow.
use Rattle.std.proofs.Common.{◌≡◌, ◌≢◌, ℕ, ◌<◌, ◌⊎◌, inl, inr, Bool, true, false, List, Option, Some, None, refl, sym, ap, ◌∙◌, subst, arith}
use Rattle.std.proofs.Math.Bool.{true≢false}
use Rattle.bank_tables.specs.Items.{Set, has}
use Rattle.bank_tables.specs.Tables.{Tables, categories}
use Rattle.form_model.specs.declared.breach.Breach.{Breach}
use Rattle.certificate_model.specs.declared.verdict.Verdict.{Verdict}
use Rattle.form_model.specs.Plan.{Plan, band_of}
use Rattle.form_model.specs.Problem.{Problem}
use Rattle.form_model.specs.Forms.{Form}
use Rattle.form_model.specs.Breaches.{IsFirstBreach}
use Rattle.serving_model.specs.Serving.{IsNext}
use Rattle.certificate_model.specs.ProofTrees.{ProofTree}
use Rattle.form_model.proofs.BreachLaws.{breach_no_form}
use Rattle.form_model.proofs.OneBreach.{one_breach}
use Rattle.serving_model.proofs.OneMode.{one_next}
use Rattle.certificate_model.proofs.OneVerdict.{one_verdict}
use Rattle.history_model.specs.declared.entry.Bands.{Bands}
use Rattle.history_model.specs.declared.entry.Cause.{Cause}
use Rattle.history_model.specs.declared.entry.Entry.{Entry}
use Rattle.history_model.specs.declared.entry.Without.{Without}
use Rattle.history_model.specs.declared.entry.Entry.TheVariants.{Started, SetAside, Served, Answered, Closed}
use Rattle.history_model.specs.declared.place.Place.{Place}
use Rattle.history_model.specs.declared.place.Place.TheVariants.{Pending, Waiting}
use Rattle.history_model.specs.declared.illegal.Illegal.{Illegal}
use Rattle.history_model.specs.declared.illegal.Illegal.TheVariants.{NotNumber, Booked, NotDrawn, NoItem, NotWithout, NoSession, NotPending, IsAside, NotStep, NotBand, NotForm, NotItem, NotSpent, Tree, NotWaiting, BadResponse, Ended}
use Rattle.history_model.specs.Entries.{holder}
use Rattle.history_model.specs.Places.{place}
use Rattle.history_model.specs.Draws.{AreDrawn, IsFirstDifference, IsNotDrawn, other_number, other_items}
use Rattle.history_model.specs.SessionProblems.{IsProblemOf}
use Rattle.history_model.specs.Legality.{GoesOn}
use Rattle.history_model.specs.declared.claim.Claim.{Claim}
use Rattle.history_model.specs.Judging.{claim_of_mark, claim_of_cause, HasTree, HasVerdict, IsAsked, MayFollow}
use Rattle.history_model.specs.Reasons.{IsWaitingAt, IsPendingPlace, IsIllegal}
use Rattle.history_model.specs.Laws.{OneReason, NoReasonIfMay}
use Rattle.history_model.proofs.JudgingLaws.{one_problem}
use Rattle.history_model.proofs.ListReasons.{one_breach_of, no_list_breach, no_list_legal, breach_not_legal}

-- ---- values that are there, or aren't
none_some : {A : Type 0} (o : Option A) (x : A) → o ≡ None → o ≡ Some x → ⊥
none_some o x e f = cc

one_value : {A : Type 0} (o : Option A) (x y : A) → o ≡ Some x → o ≡ Some y → x ≡ y
one_value o x y e f = cc

in_order : (i j : ℕ) → (i < j) ⊎ ((j < i) ⊎ (i ≡ j))
in_order i j = grind arith

one_difference : (b : Tables) (plan : Plan) (H : List Entry) (session : ℕ) (eligible : Bands) (i j : ℕ) → IsFirstDifference b plan H session eligible i → IsFirstDifference b plan H session eligible j → i ≡ j
one_difference b plan H session eligible i j h k = elim (in_order i j) [
  | inl before ↦ absurd (h.differs (k.before h.band i before))
  | inr (inl behind) ↦ absurd (k.differs (h.before k.band j behind))
  | inr (inr at) ↦ at
]

one_not_drawn : (b : Tables) (plan : Plan) (H : List Entry) (session : ℕ) (eligible : Bands) (i j : ℕ) → IsNotDrawn b plan H session eligible i → IsNotDrawn b plan H session eligible j → i ≡ j
one_not_drawn b plan H session eligible i j (other_number n) (other_number m) = refl
one_not_drawn b plan H session eligible i j (other_number n) (other_items k e d) = absurd (n e)
one_not_drawn b plan H session eligible i j (other_items k e d) (other_number m) = absurd (m e)
one_not_drawn b plan H session eligible i j (other_items k e d) (other_items l f c) = one_difference b plan H session eligible k l d c

not_both_drawn : (b : Tables) (plan : Plan) (H : List Entry) (session : ℕ) (eligible : Bands) (i : ℕ) → AreDrawn b plan H session eligible → IsNotDrawn b plan H session eligible i → ⊥
not_both_drawn b plan H session eligible i drawn (other_number n) = n drawn.number
not_both_drawn b plan H session eligible i drawn (other_items k e d) = d.differs (drawn.each d.band k)

one_step : (o : Option Place) (i j : ℕ) → o ≡ Some (Pending i) → o ≡ Some (Pending j) → i ≡ j
one_step o i j e f = cc

waits_at : (step item : ℕ) (proved : Bool) (at : Place) → at ≡ Waiting step item proved → IsWaitingAt step at
waits_at step item proved at e = subst (λ (p : Place). IsWaitingAt step p) (sym e) refl

-- the items of the waiting step
one_item : (o : Option Place) (step item other : ℕ) (proved mark : Bool) → o ≡ Some (Waiting step item proved) → o ≡ Some (Waiting step other mark) → item ≡ other
one_item o step item other proved mark e f = cc

module _ (b : Tables) (plan : Plan) (H : List Entry) where
  -- ---- facts of one problem are facts of the other
  module _ (session step : ℕ) (P Q : Problem) (p : IsProblemOf b plan H session step P) (q : IsProblemOf b plan H session step Q) where
    moved : Q ≡ P
    moved = one_problem b plan H session step Q P q p

    not_form : (X : Set) (breach : Breach) → IsFirstBreach P X (Some breach) → Form Q X → ⊥
    not_form X breach h k = breach_no_form P X breach h (subst (λ (R : Problem). Form R X) moved k)

    same_breach : (X : Set) (breach other : Breach) → IsFirstBreach P X (Some breach) → IsFirstBreach Q X (Some other) → breach ≡ other
    same_breach X breach other h k = let e = one_breach P X (Some breach) (Some other) h (subst (λ (R : Problem). IsFirstBreach R X (Some other)) moved k) in cc

    same_next : (X : Set) (i j : ℕ) → IsNext P X i → IsNext Q X j → i ≡ j
    same_next X i j h k = one_next P X i j h (subst (λ (R : Problem). IsNext R X j) moved k)

    no_tree : (nodes : ℕ) (claim : Claim) (tree : Option ProofTree) → (HasTree P plan.budget nodes claim tree → ⊥) → HasTree Q plan.budget nodes claim tree → ⊥
    no_tree nodes claim tree h k = h (subst (λ (R : Problem). HasTree R plan.budget nodes claim tree) moved k)

    same_verdict : (X : Option Set) (tree : Option ProofTree) (v w : Verdict) → HasVerdict P X tree v → HasVerdict Q X tree w → v ≡ w
    same_verdict X None v w h k = absurd h
    same_verdict X (Some T) v w h k = one_verdict P X T v w h (subst (λ (R : Problem). HasVerdict R X (Some T) w) moved k)

  -- ---- a start
  module _ (session booking : ℕ) (eligible : Bands) (without : Option Without) (tree : Option ProofTree) where
    abbrev OfStart : Illegal → Type 0
    OfStart r = IsIllegal b plan H (Started session booking eligible without) tree r

    drawn_differs : (item : ℕ) → AreDrawn b plan H session eligible → IsNotDrawn b plan H session eligible item → ⊥
    drawn_differs item drawn differs = not_both_drawn b plan H session eligible item drawn differs

    one_start : (r q : Illegal) → OfStart r → OfStart q → r ≡ q
    one_start (NotNumber n) (NotNumber m) h k = ap NotNumber (h.1 ∙ sym k.1)
    one_start (NotNumber n) (Booked m) h k = absurd (h.0 k.0)
    one_start (NotNumber n) (NotDrawn j) h k = absurd (h.0 k.0)
    one_start (NotNumber n) (NoItem m) h k = absurd (h.0 k.0)
    one_start (NotNumber n) (NotWithout other) h k = absurd (h.0 k.0)
    one_start (NotNumber n) (NotSpent m) h k = absurd (h.0 k.0)
    one_start (NotNumber n) q h k = absurd k
    one_start (Booked n) (NotNumber m) h k = absurd (k.0 h.0)
    one_start (Booked n) (Booked m) h k = ap Booked (one_value (holder H booking) n m h.1 k.1)
    one_start (Booked n) (NotDrawn j) h k = absurd (none_some (holder H booking) n k.1 h.1)
    one_start (Booked n) (NoItem m) h k = absurd (none_some (holder H booking) n k.1 h.1)
    one_start (Booked n) (NotWithout other) h k = absurd (none_some (holder H booking) n k.1 h.1)
    one_start (Booked n) (NotSpent m) h k = absurd (none_some (holder H booking) n k.1 h.1)
    one_start (Booked n) q h k = absurd k
    one_start (NotDrawn i) (NotNumber m) h k = absurd (k.0 h.0)
    one_start (NotDrawn i) (Booked m) h k = absurd (none_some (holder H booking) m h.1 k.1)
    one_start (NotDrawn i) (NotDrawn j) h k = ap NotDrawn (one_not_drawn b plan H session eligible i j h.2 k.2)
    one_start (NotDrawn i) (NoItem m) h k = absurd (drawn_differs i k.2 h.2)
    one_start (NotDrawn i) (NotWithout other) h k = absurd (drawn_differs i k.2 h.2)
    one_start (NotDrawn i) (NotSpent m) h k = absurd (drawn_differs i k.2 h.2)
    one_start (NotDrawn i) q h k = absurd k
    one_start (NoItem n) (NotNumber m) h k = absurd (k.0 h.0)
    one_start (NoItem n) (Booked m) h k = absurd (none_some (holder H booking) m h.1 k.1)
    one_start (NoItem n) (NotDrawn j) h k = absurd (drawn_differs j h.2 k.2)
    one_start (NoItem n) (NoItem m) h k = ap NoItem (h.4 ∙ sym k.4)
    one_start (NoItem n) (NotWithout other) h k = absurd (no_list_breach b plan without other h.3 k.3)
    one_start (NoItem n) (NotSpent m) h k = absurd (no_list_legal b plan without h.3 k.3)
    one_start (NoItem n) q h k = absurd k
    one_start (NotWithout breach) (NotNumber m) h k = absurd (k.0 h.0)
    one_start (NotWithout breach) (Booked m) h k = absurd (none_some (holder H booking) m h.1 k.1)
    one_start (NotWithout breach) (NotDrawn j) h k = absurd (drawn_differs j h.2 k.2)
    one_start (NotWithout breach) (NoItem m) h k = absurd (no_list_breach b plan without breach k.3 h.3)
    one_start (NotWithout breach) (NotWithout other) h k = ap NotWithout (one_breach_of b plan without breach other h.3 k.3)
    one_start (NotWithout breach) (NotSpent m) h k = absurd (breach_not_legal b plan without breach h.3 k.3)
    one_start (NotWithout breach) q h k = absurd k
    one_start (NotSpent n) (NotNumber m) h k = absurd (k.0 h.0)
    one_start (NotSpent n) (Booked m) h k = absurd (none_some (holder H booking) m h.1 k.1)
    one_start (NotSpent n) (NotDrawn j) h k = absurd (drawn_differs j h.2 k.2)
    one_start (NotSpent n) (NoItem m) h k = absurd (no_list_legal b plan without k.3 h.3)
    one_start (NotSpent n) (NotWithout other) h k = absurd (breach_not_legal b plan without other k.3 h.3)
    one_start (NotSpent n) (NotSpent m) h k = ap NotSpent (h.5 ∙ sym k.5)
    one_start (NotSpent n) q h k = absurd k
    one_start r q h k = absurd h

    may_start : (r : Illegal) → OfStart r → MayFollow b plan H (Started session booking eligible without) tree → ⊥
    may_start (NotNumber n) h may = h.0 may.0.number
    may_start (Booked n) h may = none_some (holder H booking) n may.0.not_booked h.1
    may_start (NotDrawn i) h may = drawn_differs i may.0.drawn h.2
    may_start (NoItem n) h may = no_list_legal b plan without h.3 may.0.listed
    may_start (NotWithout breach) h may = breach_not_legal b plan without breach h.3 may.0.listed
    may_start (NotSpent n) h may = h.4 may.1
    may_start r h may = h

  -- ---- setting eligibility aside
  module _ (session step band : ℕ) (cause : Cause) (nodes : ℕ) (tree : Option ProofTree) where
    abbrev OfAside : Illegal → Type 0
    OfAside r = IsIllegal b plan H (SetAside session step band cause nodes) tree r

    -- the place is none, or no Pending, but for a problem
    not_there : (now : ℕ) (P : Problem) → place plan H session ≡ None → IsProblemOf b plan H session now P → ⊥
    not_there now P e p = none_some (place plan H session) (Pending now) e p.pending

    not_pending : (now : ℕ) (P : Problem) (at : Place) → place plan H session ≡ Some at → (IsPendingPlace at → ⊥) → IsProblemOf b plan H session now P → ⊥
    not_pending now P at e other p = other (subst (λ (q : Place). IsPendingPlace q) (one_value (place plan H session) (Pending now) at p.pending e) tt)

    -- there is one problem, whatever step is said
    same : (i j : ℕ) (P Q : Problem) → IsProblemOf b plan H session i P → IsProblemOf b plan H session j Q → Q ≡ P
    same i j P Q p q = one_problem b plan H session i Q P (subst (λ (k : ℕ). IsProblemOf b plan H session k Q) (one_step (place plan H session) j i q.pending p.pending) q) p

    clash : (i j : ℕ) (P Q : Problem) → IsProblemOf b plan H session i P → IsProblemOf b plan H session j Q → P.aside ≡ true → Q.aside ≡ false → ⊥
    clash i j P Q p q h k = true≢false (sym h ∙ (ap (λ (R : Problem). R.aside) (sym (same i j P Q p q)) ∙ k))

    one_aside : (r q : Illegal) → OfAside r → OfAside q → r ≡ q
    one_aside (NoSession n) (NoSession m) h k = ap NoSession (h.1 ∙ sym k.1)
    one_aside (NoSession n) (NotPending other) h k = absurd (none_some (place plan H session) other h.0 k.0)
    one_aside (NoSession n) IsAside h k = absurd (not_there (k.0) k.1 h.0 k.2)
    one_aside (NoSession n) (NotStep j) h k = absurd (not_there (j) k.0 h.0 k.1)
    one_aside (NoSession n) (NotBand j) h k = absurd (not_there (step) k.0 h.0 k.1)
    one_aside (NoSession n) (NotSpent m) h k = absurd (not_there (step) k.0 h.0 k.1)
    one_aside (NoSession n) (Tree w) h k = absurd (not_there (step) k.0 h.0 k.1)
    one_aside (NoSession n) q h k = absurd k
    one_aside (NotPending at) (NoSession m) h k = absurd (none_some (place plan H session) at k.0 h.0)
    one_aside (NotPending at) (NotPending other) h k = ap NotPending (one_value (place plan H session) at other h.0 k.0)
    one_aside (NotPending at) IsAside h k = absurd (not_pending (k.0) k.1 at h.0 h.1 k.2)
    one_aside (NotPending at) (NotStep j) h k = absurd (not_pending (j) k.0 at h.0 h.1 k.1)
    one_aside (NotPending at) (NotBand j) h k = absurd (not_pending (step) k.0 at h.0 h.1 k.1)
    one_aside (NotPending at) (NotSpent m) h k = absurd (not_pending (step) k.0 at h.0 h.1 k.1)
    one_aside (NotPending at) (Tree w) h k = absurd (not_pending (step) k.0 at h.0 h.1 k.1)
    one_aside (NotPending at) q h k = absurd k
    one_aside IsAside (NoSession m) h k = absurd (not_there (h.0) h.1 k.0 h.2)
    one_aside IsAside (NotPending other) h k = absurd (not_pending (h.0) h.1 other k.0 k.1 h.2)
    one_aside IsAside IsAside h k = refl
    one_aside IsAside (NotStep j) h k = absurd (clash h.0 (j) h.1 k.0 h.2 k.1 h.3 k.2)
    one_aside IsAside (NotBand j) h k = absurd (clash h.0 (step) h.1 k.0 h.2 k.1 h.3 k.2)
    one_aside IsAside (NotSpent m) h k = absurd (clash h.0 (step) h.1 k.0 h.2 k.1 h.3 k.2)
    one_aside IsAside (Tree w) h k = absurd (clash h.0 (step) h.1 k.0 h.2 k.1 h.3 k.2)
    one_aside IsAside q h k = absurd k
    one_aside (NotStep i) (NoSession m) h k = absurd (not_there (i) h.0 k.0 h.1)
    one_aside (NotStep i) (NotPending other) h k = absurd (not_pending (i) h.0 other k.0 k.1 h.1)
    one_aside (NotStep i) IsAside h k = absurd (clash k.0 (i) k.1 h.0 k.2 h.1 k.3 h.2)
    one_aside (NotStep i) (NotStep j) h k = ap NotStep (one_step (place plan H session) i j h.1.pending k.1.pending)
    one_aside (NotStep i) (NotBand j) h k = absurd (h.3 (one_step (place plan H session) step i k.1.pending h.1.pending))
    one_aside (NotStep i) (NotSpent m) h k = absurd (h.3 (one_step (place plan H session) step i k.1.pending h.1.pending))
    one_aside (NotStep i) (Tree w) h k = absurd (h.3 (one_step (place plan H session) step i k.1.pending h.1.pending))
    one_aside (NotStep i) q h k = absurd k
    one_aside (NotBand i) (NoSession m) h k = absurd (not_there (step) h.0 k.0 h.1)
    one_aside (NotBand i) (NotPending other) h k = absurd (not_pending (step) h.0 other k.0 k.1 h.1)
    one_aside (NotBand i) IsAside h k = absurd (clash k.0 (step) k.1 h.0 k.2 h.1 k.3 h.2)
    one_aside (NotBand i) (NotStep j) h k = absurd (k.3 (one_step (place plan H session) step j h.1.pending k.1.pending))
    one_aside (NotBand i) (NotBand j) h k = ap NotBand (h.3 ∙ (ap (λ (R : Problem). band_of plan R.theta) (sym (same step step h.0 k.0 h.1 k.1)) ∙ sym k.3))
    one_aside (NotBand i) (NotSpent m) h k = absurd (h.4 (k.3 ∙ (ap (λ (R : Problem). band_of plan R.theta) (same step step h.0 k.0 h.1 k.1) ∙ sym h.3)))
    one_aside (NotBand i) (Tree w) h k = absurd (h.4 (k.3 ∙ (ap (λ (R : Problem). band_of plan R.theta) (same step step h.0 k.0 h.1 k.1) ∙ sym h.3)))
    one_aside (NotBand i) q h k = absurd k
    one_aside (NotSpent n) (NoSession m) h k = absurd (not_there (step) h.0 k.0 h.1)
    one_aside (NotSpent n) (NotPending other) h k = absurd (not_pending (step) h.0 other k.0 k.1 h.1)
    one_aside (NotSpent n) IsAside h k = absurd (clash k.0 (step) k.1 h.0 k.2 h.1 k.3 h.2)
    one_aside (NotSpent n) (NotStep j) h k = absurd (k.3 (one_step (place plan H session) step j h.1.pending k.1.pending))
    one_aside (NotSpent n) (NotBand j) h k = absurd (k.4 (h.3 ∙ (ap (λ (R : Problem). band_of plan R.theta) (same step step k.0 h.0 k.1 h.1) ∙ sym k.3)))
    one_aside (NotSpent n) (NotSpent m) h k = ap NotSpent (h.5 ∙ sym k.5)
    one_aside (NotSpent n) (Tree w) h k = absurd (no_tree session step h.0 k.0 h.1 k.1 nodes (claim_of_cause cause) tree h.4 k.4)
    one_aside (NotSpent n) q h k = absurd k
    one_aside (Tree v) (NoSession m) h k = absurd (not_there (step) h.0 k.0 h.1)
    one_aside (Tree v) (NotPending other) h k = absurd (not_pending (step) h.0 other k.0 k.1 h.1)
    one_aside (Tree v) IsAside h k = absurd (clash k.0 (step) k.1 h.0 k.2 h.1 k.3 h.2)
    one_aside (Tree v) (NotStep j) h k = absurd (k.3 (one_step (place plan H session) step j h.1.pending k.1.pending))
    one_aside (Tree v) (NotBand j) h k = absurd (k.4 (h.3 ∙ (ap (λ (R : Problem). band_of plan R.theta) (same step step k.0 h.0 k.1 h.1) ∙ sym k.3)))
    one_aside (Tree v) (NotSpent m) h k = absurd (no_tree session step k.0 h.0 k.1 h.1 nodes (claim_of_cause cause) tree k.4 h.4)
    one_aside (Tree v) (Tree w) h k = ap Tree (same_verdict session step h.0 k.0 h.1 k.1 None tree v w h.5 k.5)
    one_aside (Tree v) q h k = absurd k
    one_aside r q h k = absurd h

    may_aside : (r : Illegal) → OfAside r → MayFollow b plan H (SetAside session step band cause nodes) tree → ⊥
    may_aside (NoSession n) h may = not_there step may.problem h.0 may.is_problem
    may_aside (NotPending at) h may = not_pending step may.problem at h.0 h.1 may.is_problem
    may_aside IsAside h may = clash h.0 step h.1 may.problem h.2 may.is_problem h.3 may.not_aside
    may_aside (NotStep i) h may = h.3 (one_step (place plan H session) step i may.is_problem.pending h.1.pending)
    may_aside (NotBand i) h may = h.4 (may.band_is ∙ (ap (λ (R : Problem). band_of plan R.theta) (same step step h.0 may.problem h.1 may.is_problem) ∙ sym h.3))
    may_aside (NotSpent n) h may = no_tree session step h.0 may.problem h.1 may.is_problem nodes (claim_of_cause cause) tree h.4 may.shows.has_tree
    may_aside (Tree v) h may = h.6 (subst (λ (w : Verdict). IsAsked (claim_of_cause cause) w) (same_verdict session step may.problem h.0 may.is_problem h.1 None tree may.shows.verdict v may.shows.has_verdict h.5) may.shows.asked)
    may_aside r h may = h

  -- ---- a serving
  module _ (session step item : ℕ) (form : List ℕ) (proved : Bool) (nodes : ℕ) (tree : Option ProofTree) where
    abbrev OfServing : Illegal → Type 0
    OfServing r = IsIllegal b plan H (Served session step item form proved nodes) tree r

    gone : (P : Problem) → place plan H session ≡ None → IsProblemOf b plan H session step P → ⊥
    gone P e p = none_some (place plan H session) (Pending step) e p.pending

    elsewhere : (P : Problem) (at : Place) → place plan H session ≡ Some at → at ≢ Pending step → IsProblemOf b plan H session step P → ⊥
    elsewhere P at e other p = other (one_value (place plan H session) at (Pending step) e p.pending)

    one_serving : (r q : Illegal) → OfServing r → OfServing q → r ≡ q
    one_serving (NoSession n) (NoSession m) h k = ap NoSession (h.1 ∙ sym k.1)
    one_serving (NoSession n) (NotPending at) h k = absurd (none_some (place plan H session) at h.0 k.0)
    one_serving (NoSession n) (NotForm breach) h k = absurd (gone k.0 h.0 k.1)
    one_serving (NoSession n) (NotItem j) h k = absurd (gone k.0 h.0 k.1)
    one_serving (NoSession n) (NotSpent m) h k = absurd (gone k.0 h.0 k.1)
    one_serving (NoSession n) (Tree w) h k = absurd (gone k.0 h.0 k.1)
    one_serving (NoSession n) q h k = absurd k
    one_serving (NotPending at) (NoSession m) h k = absurd (none_some (place plan H session) at k.0 h.0)
    one_serving (NotPending at) (NotPending other) h k = ap NotPending (one_value (place plan H session) at other h.0 k.0)
    one_serving (NotPending at) (NotForm breach) h k = absurd (elsewhere k.0 at h.0 h.1 k.1)
    one_serving (NotPending at) (NotItem j) h k = absurd (elsewhere k.0 at h.0 h.1 k.1)
    one_serving (NotPending at) (NotSpent m) h k = absurd (elsewhere k.0 at h.0 h.1 k.1)
    one_serving (NotPending at) (Tree w) h k = absurd (elsewhere k.0 at h.0 h.1 k.1)
    one_serving (NotPending at) q h k = absurd k
    one_serving (NotForm breach) (NoSession m) h k = absurd (gone h.0 k.0 h.1)
    one_serving (NotForm breach) (NotPending at) h k = absurd (elsewhere h.0 at k.0 k.1 h.1)
    one_serving (NotForm breach) (NotForm other) h k = ap NotForm (same_breach session step h.0 k.0 h.1 k.1 (has form) breach other h.2 k.2)
    one_serving (NotForm breach) (NotItem j) h k = absurd (not_form session step h.0 k.0 h.1 k.1 (has form) breach h.2 k.2)
    one_serving (NotForm breach) (NotSpent m) h k = absurd (not_form session step h.0 k.0 h.1 k.1 (has form) breach h.2 k.2)
    one_serving (NotForm breach) (Tree w) h k = absurd (not_form session step h.0 k.0 h.1 k.1 (has form) breach h.2 k.2)
    one_serving (NotForm breach) q h k = absurd k
    one_serving (NotItem i) (NoSession m) h k = absurd (gone h.0 k.0 h.1)
    one_serving (NotItem i) (NotPending at) h k = absurd (elsewhere h.0 at k.0 k.1 h.1)
    one_serving (NotItem i) (NotForm breach) h k = absurd (not_form session step k.0 h.0 k.1 h.1 (has form) breach k.2 h.2)
    one_serving (NotItem i) (NotItem j) h k = ap NotItem (same_next session step h.0 k.0 h.1 k.1 (has form) i j h.3 k.3)
    one_serving (NotItem i) (NotSpent m) h k = absurd (h.4 (same_next session step k.0 h.0 k.1 h.1 (has form) item i k.3 h.3))
    one_serving (NotItem i) (Tree w) h k = absurd (h.4 (same_next session step k.0 h.0 k.1 h.1 (has form) item i k.3 h.3))
    one_serving (NotItem i) q h k = absurd k
    one_serving (NotSpent n) (NoSession m) h k = absurd (gone h.0 k.0 h.1)
    one_serving (NotSpent n) (NotPending at) h k = absurd (elsewhere h.0 at k.0 k.1 h.1)
    one_serving (NotSpent n) (NotForm breach) h k = absurd (not_form session step k.0 h.0 k.1 h.1 (has form) breach k.2 h.2)
    one_serving (NotSpent n) (NotItem j) h k = absurd (k.4 (same_next session step h.0 k.0 h.1 k.1 (has form) item j h.3 k.3))
    one_serving (NotSpent n) (NotSpent m) h k = ap NotSpent (h.5 ∙ sym k.5)
    one_serving (NotSpent n) (Tree w) h k = absurd (no_tree session step h.0 k.0 h.1 k.1 nodes (claim_of_mark proved) tree h.4 k.4)
    one_serving (NotSpent n) q h k = absurd k
    one_serving (Tree v) (NoSession m) h k = absurd (gone h.0 k.0 h.1)
    one_serving (Tree v) (NotPending at) h k = absurd (elsewhere h.0 at k.0 k.1 h.1)
    one_serving (Tree v) (NotForm breach) h k = absurd (not_form session step k.0 h.0 k.1 h.1 (has form) breach k.2 h.2)
    one_serving (Tree v) (NotItem j) h k = absurd (k.4 (same_next session step h.0 k.0 h.1 k.1 (has form) item j h.3 k.3))
    one_serving (Tree v) (NotSpent m) h k = absurd (no_tree session step k.0 h.0 k.1 h.1 nodes (claim_of_mark proved) tree k.4 h.4)
    one_serving (Tree v) (Tree w) h k = ap Tree (same_verdict session step h.0 k.0 h.1 k.1 (Some (has form)) tree v w h.5 k.5)
    one_serving (Tree v) q h k = absurd k
    one_serving r q h k = absurd h

    may_serve : (r : Illegal) → OfServing r → MayFollow b plan H (Served session step item form proved nodes) tree → ⊥
    may_serve (NoSession n) h may = gone may.problem h.0 may.is_problem
    may_serve (NotPending at) h may = elsewhere may.problem at h.0 h.1 may.is_problem
    may_serve (NotForm breach) h may = not_form session step h.0 may.problem h.1 may.is_problem (has form) breach h.2 may.is_form
    may_serve (NotItem i) h may = h.4 (same_next session step may.problem h.0 may.is_problem h.1 (has form) item i may.next h.3)
    may_serve (NotSpent n) h may = no_tree session step h.0 may.problem h.1 may.is_problem nodes (claim_of_mark proved) tree h.4 may.shows.has_tree
    may_serve (Tree v) h may = h.6 (subst (λ (w : Verdict). IsAsked (claim_of_mark proved) w) (same_verdict session step may.problem h.0 may.is_problem h.1 (Some (has form)) tree may.shows.verdict v may.shows.has_verdict h.5) may.shows.asked)
    may_serve r h may = h

  -- ---- an answer
  module _ (session step response : ℕ) (tree : Option ProofTree) where
    abbrev OfAnswer : Illegal → Type 0
    OfAnswer r = IsIllegal b plan H (Answered session step response) tree r

    one_answer : (r q : Illegal) → OfAnswer r → OfAnswer q → r ≡ q
    one_answer (NoSession n) (NoSession m) h k = ap NoSession (h.1 ∙ sym k.1)
    one_answer (NoSession n) (NotSpent m) h k = absurd (k.0 h.0)
    one_answer (NoSession n) (NotWaiting at) h k = absurd (none_some (place plan H session) at h.0 k.1)
    one_answer (NoSession n) (BadResponse m) h k = absurd (none_some (place plan H session) (Waiting step k.1.0 k.1.1) h.0 k.1.2)
    one_answer (NoSession n) q h k = absurd k
    one_answer (NotSpent n) (NoSession m) h k = absurd (h.0 k.0)
    one_answer (NotSpent n) (NotSpent m) h k = ap NotSpent (h.2 ∙ sym k.2)
    one_answer (NotSpent n) (NotWaiting at) h k = absurd (h.1 k.0)
    one_answer (NotSpent n) (BadResponse m) h k = absurd (h.1 k.0)
    one_answer (NotSpent n) q h k = absurd k
    one_answer (NotWaiting at) (NoSession m) h k = absurd (none_some (place plan H session) at k.0 h.1)
    one_answer (NotWaiting at) (NotSpent m) h k = absurd (k.1 h.0)
    one_answer (NotWaiting at) (NotWaiting other) h k = ap NotWaiting (one_value (place plan H session) at other h.1 k.1)
    one_answer (NotWaiting at) (BadResponse m) h k = absurd (h.2 (waits_at step k.1.0 k.1.1 at (one_value (place plan H session) at (Waiting step k.1.0 k.1.1) h.1 k.1.2)))
    one_answer (NotWaiting at) q h k = absurd k
    one_answer (BadResponse n) (NoSession m) h k = absurd (none_some (place plan H session) (Waiting step h.1.0 h.1.1) k.0 h.1.2)
    one_answer (BadResponse n) (NotSpent m) h k = absurd (k.1 h.0)
    one_answer (BadResponse n) (NotWaiting at) h k = absurd (k.2 (waits_at step h.1.0 h.1.1 at (one_value (place plan H session) at (Waiting step h.1.0 h.1.1) k.1 h.1.2)))
    one_answer (BadResponse n) (BadResponse m) h k = ap BadResponse (h.1.3 ∙ (ap (categories b) (one_item (place plan H session) step h.1.0 k.1.0 h.1.1 k.1.1 h.1.2 k.1.2) ∙ sym k.1.3))
    one_answer (BadResponse n) q h k = absurd k
    one_answer r q h k = absurd h

    may_answer : (r : Illegal) → OfAnswer r → MayFollow b plan H (Answered session step response) tree → ⊥
    may_answer (NoSession n) h may = none_some (place plan H session) (Waiting step may.0.item may.0.proved) h.0 may.0.waiting
    may_answer (NotSpent n) h may = h.1 may.1
    may_answer (NotWaiting at) h may = h.2 (waits_at step may.0.item may.0.proved at (one_value (place plan H session) at (Waiting step may.0.item may.0.proved) h.1 may.0.waiting))
    may_answer (BadResponse n) h may =
        let same = ap (categories b) (one_item (place plan H session) step h.1.0 may.0.item h.1.1 may.0.proved h.1.2 may.0.waiting) in
        let number = h.1.3 in
        let high = h.1.4 in
        let low = may.0.in_range in
        omega arith
    may_answer r h may = h

  -- ---- closing
  module _ (session : ℕ) (tree : Option ProofTree) where
    abbrev OfClosing : Illegal → Type 0
    OfClosing r = IsIllegal b plan H (Closed session) tree r

    one_closing : (r q : Illegal) → OfClosing r → OfClosing q → r ≡ q
    one_closing (NoSession n) (NoSession m) h k = ap NoSession (h.1 ∙ sym k.1)
    one_closing (NoSession n) (NotSpent m) h k = absurd (k.0 h.0)
    one_closing (NoSession n) (Ended at) h k = absurd (none_some (place plan H session) at h.0 k.1)
    one_closing (NoSession n) q h k = absurd k
    one_closing (NotSpent n) (NoSession m) h k = absurd (h.0 k.0)
    one_closing (NotSpent n) (NotSpent m) h k = ap NotSpent (h.2 ∙ sym k.2)
    one_closing (NotSpent n) (Ended at) h k = absurd (h.1 k.0)
    one_closing (NotSpent n) q h k = absurd k
    one_closing (Ended at) (NoSession m) h k = absurd (none_some (place plan H session) at k.0 h.1)
    one_closing (Ended at) (NotSpent m) h k = absurd (k.1 h.0)
    one_closing (Ended at) (Ended other) h k = ap Ended (one_value (place plan H session) at other h.1 k.1)
    one_closing (Ended at) q h k = absurd k
    one_closing r q h k = absurd h

    may_close : (r : Illegal) → OfClosing r → MayFollow b plan H (Closed session) tree → ⊥
    may_close (NoSession n) h may = none_some (place plan H session) may.0.at h.0 may.0.stands
    may_close (NotSpent n) h may = h.1 may.1
    may_close (Ended at) h may = h.2 (subst (λ (p : Place). GoesOn p) (one_value (place plan H session) may.0.at at may.0.stands h.1) may.0.goes_on)
    may_close r h may = h

pub one_reason : OneReason
one_reason b plan H (Started session booking eligible without) tree r q h k = one_start b plan H session booking eligible without tree r q h k
one_reason b plan H (SetAside session step band cause nodes) tree r q h k = one_aside b plan H session step band cause nodes tree r q h k
one_reason b plan H (Served session step item form proved nodes) tree r q h k = one_serving b plan H session step item form proved nodes tree r q h k
one_reason b plan H (Answered session step response) tree r q h k = one_answer b plan H session step response tree r q h k
one_reason b plan H (Closed session) tree r q h k = one_closing b plan H session tree r q h k

pub no_reason_if_may : NoReasonIfMay
no_reason_if_may b plan H (Started session booking eligible without) tree r h may = may_start b plan H session booking eligible without tree r h may
no_reason_if_may b plan H (SetAside session step band cause nodes) tree r h may = may_aside b plan H session step band cause nodes tree r h may
no_reason_if_may b plan H (Served session step item form proved nodes) tree r h may = may_serve b plan H session step item form proved nodes tree r h may
no_reason_if_may b plan H (Answered session step response) tree r h may = may_answer b plan H session step response tree r h may
no_reason_if_may b plan H (Closed session) tree r h may = may_close b plan H session tree r h may
