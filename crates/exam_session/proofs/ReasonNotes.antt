-- From what a tree doesn't show to why its record may not follow.
use Rattle.std.proofs.Common.{◌≡◌, ℕ, Bool, List, Option, Some, None, ap, subst}
use Rattle.std.specs.Prelude.{IsFalse, Result, Ok, Err, IfErr}
use Rattle.bank_tables.specs.Items.{has}
use Rattle.bank_tables.specs.Tables.{Tables}
use Rattle.form_model.specs.Plan.{Plan, band_of}
use Rattle.form_model.specs.Problem.{Problem}
use Rattle.form_model.specs.Forms.{Form}
use Rattle.serving_model.specs.Serving.{IsNext}
use Rattle.certificate_model.specs.ProofTrees.{ProofTree}
use Rattle.history_model.specs.declared.entry.Cause.{Cause}
use Rattle.history_model.specs.declared.entry.Entry.{Entry}
use Rattle.history_model.specs.declared.entry.Entry.TheVariants.{SetAside, Served}
use Rattle.history_model.specs.declared.illegal.Illegal.{Illegal}
use Rattle.history_model.specs.declared.illegal.Illegal.TheVariants.{NotNumber, Booked, NotDrawn, NoItem, NotWithout, NoSession, NotPending, IsAside, NotStep, NotBand, NotForm, NotItem, NotSpent, Tree, NotWaiting, BadResponse, Ended}
use Rattle.history_model.specs.SessionProblems.{IsProblemOf}
use Rattle.history_model.specs.declared.claim.Claim.{Claim}
use Rattle.history_model.specs.Judging.{claim_of_mark, claim_of_cause}
use Rattle.history_model.specs.Reasons.{IsIllegal}
use Rattle.exam_session.specs.Claims.{IsNotShown}
use Rattle.exam_session.specs.Waits.{WaitsForNone}

-- the problem of a session has the plan of the history
pub same_plan : (b : Tables) (plan : Plan) (H : List Entry) (s step : ℕ) (P : Problem) → IsProblemOf b plan H s step P → P.plan ≡ plan
same_plan b plan H s step P is = ap (λ (Q : Problem). Q.plan) is.of_seat.is

pub of_serving : (b : Tables) (plan : Plan) (H : List Entry) (s step item nodes : ℕ) (form : List ℕ) (proved : Bool) (tree : Option ProofTree) (P : Problem) (claim : Claim) (reason : Illegal)
    → IsProblemOf b plan H s step P → Form P (has form) → IsNext P (has form) item → claim ≡ claim_of_mark proved → IsNotShown P (Some (has form)) P.plan.budget nodes claim tree reason → IsIllegal b plan H (Served s step item form proved nodes) tree reason
of_serving b plan H s step item nodes form proved tree P claim reason is form_is next claimed not_shown = by reason (subst (λ (c : Claim). IsNotShown P (Some (has form)) plan.budget nodes c tree reason) claimed (subst (λ (p : Plan). IsNotShown P (Some (has form)) p.budget nodes claim tree reason) (same_plan b plan H s step P is) not_shown))
  where
    by : (r : Illegal) → IsNotShown P (Some (has form)) plan.budget nodes (claim_of_mark proved) tree r → IsIllegal b plan H (Served s step item form proved nodes) tree r
    by (NotNumber count) h = absurd h
    by (Booked session) h = absurd h
    by (NotDrawn item) h = absurd h
    by (NoItem count) h = absurd h
    by (NotWithout breach) h = absurd h
    by (NoSession count) h = absurd h
    by (NotPending at) h = absurd h
    by IsAside h = absurd h
    by (NotStep now) h = absurd h
    by (NotBand now) h = absurd h
    by (NotForm breach) h = absurd h
    by (NotItem item) h = absurd h
    by (NotSpent number) h = (P, is, form_is, next, h.0, h.1)
    by (Tree verdict) h = (P, is, form_is, next, h.0, h.1, h.2)
    by (NotWaiting at) h = absurd h
    by (BadResponse number) h = absurd h
    by (Ended at) h = absurd h

pub of_aside : (b : Tables) (plan : Plan) (H : List Entry) (s step band nodes : ℕ) (cause : Cause) (tree : Option ProofTree) (P : Problem) (claim : Claim) (reason : Illegal)
    → IsProblemOf b plan H s step P → IsFalse P.aside → band ≡ band_of plan P.theta → claim ≡ claim_of_cause cause → IsNotShown P None P.plan.budget nodes claim tree reason → IsIllegal b plan H (SetAside s step band cause nodes) tree reason
of_aside b plan H s step band nodes cause tree P claim reason is not_aside band_is claimed not_shown = by reason (subst (λ (c : Claim). IsNotShown P None plan.budget nodes c tree reason) claimed (subst (λ (p : Plan). IsNotShown P None p.budget nodes claim tree reason) (same_plan b plan H s step P is) not_shown))
  where
    by : (r : Illegal) → IsNotShown P None plan.budget nodes (claim_of_cause cause) tree r → IsIllegal b plan H (SetAside s step band cause nodes) tree r
    by (NotNumber count) h = absurd h
    by (Booked session) h = absurd h
    by (NotDrawn item) h = absurd h
    by (NoItem count) h = absurd h
    by (NotWithout breach) h = absurd h
    by (NoSession count) h = absurd h
    by (NotPending at) h = absurd h
    by IsAside h = absurd h
    by (NotStep now) h = absurd h
    by (NotBand now) h = absurd h
    by (NotForm breach) h = absurd h
    by (NotItem item) h = absurd h
    by (NotSpent number) h = (P, is, not_aside, band_is, h.0, h.1)
    by (Tree verdict) h = (P, is, not_aside, band_is, h.0, h.1, h.2)
    by (NotWaiting at) h = absurd h
    by (BadResponse number) h = absurd h
    by (Ended at) h = absurd h

-- a session that waits for no item
pub of_no_wait : (b : Tables) (plan : Plan) (H : List Entry) (s step band nodes : ℕ) (cause : Cause) (tree : Option ProofTree) (reason : Illegal) → WaitsForNone plan H s reason → IsIllegal b plan H (SetAside s step band cause nodes) tree reason
of_no_wait b plan H s step band nodes cause tree (NotNumber count) h = absurd h
of_no_wait b plan H s step band nodes cause tree (Booked session) h = absurd h
of_no_wait b plan H s step band nodes cause tree (NotDrawn item) h = absurd h
of_no_wait b plan H s step band nodes cause tree (NoItem count) h = absurd h
of_no_wait b plan H s step band nodes cause tree (NotWithout breach) h = absurd h
of_no_wait b plan H s step band nodes cause tree (NoSession count) h = h
of_no_wait b plan H s step band nodes cause tree (NotPending at) h = h
of_no_wait b plan H s step band nodes cause tree IsAside h = absurd h
of_no_wait b plan H s step band nodes cause tree (NotStep now) h = absurd h
of_no_wait b plan H s step band nodes cause tree (NotBand now) h = absurd h
of_no_wait b plan H s step band nodes cause tree (NotForm breach) h = absurd h
of_no_wait b plan H s step band nodes cause tree (NotItem item) h = absurd h
of_no_wait b plan H s step band nodes cause tree (NotSpent number) h = absurd h
of_no_wait b plan H s step band nodes cause tree (Tree verdict) h = absurd h
of_no_wait b plan H s step band nodes cause tree (NotWaiting at) h = absurd h
of_no_wait b plan H s step band nodes cause tree (BadResponse number) h = absurd h
of_no_wait b plan H s step band nodes cause tree (Ended at) h = absurd h

pub if_err : {A B : Type 0} (P Q : B → Type 0) → ((e : B) → P e → Q e) → (r : Result A B) → IfErr r P → IfErr r Q
if_err P Q f (Ok x) h = tt
if_err P Q f (Err e) h = f e h
