-- Which records may follow a history: an entry with the proof tree that shows it.
use Rattle.std.specs.Prelude.{◌≡◌, ℕ, Bool, true, false, List, [], ◌∷◌, ◌++◌, length, map, IsFalse, Option, Some, None}
use Rattle.bank_tables.specs.Items.{Set, has}
use Rattle.bank_tables.specs.Tables.{Tables}
use Rattle.history_model.specs.declared.claim.Claim.{Claim}
use Rattle.history_model.specs.declared.claim.Claim.TheVariants.{FormIsBest, NoneIsForm, BudgetIsSpent}
use Rattle.history_model.specs.declared.entry.Cause.{Cause}
use Rattle.history_model.specs.declared.entry.Cause.TheVariants.{NoForm as CauseNoForm, Spent}
use Rattle.history_model.specs.declared.entry.Entry.{Entry}
use Rattle.history_model.specs.declared.entry.Entry.TheVariants.{SetAside, Served}
use Rattle.certificate_model.specs.declared.verdict.Verdict.{Verdict}
use Rattle.certificate_model.specs.declared.verdict.Verdict.TheVariants.{Optimal, NoForm, Partial}
use Rattle.form_model.specs.Plan.{Plan, band_of}
use Rattle.form_model.specs.Problem.{Problem}
use Rattle.form_model.specs.Forms.{Form}
use Rattle.serving_model.specs.Serving.{IsNext}
use Rattle.certificate_model.specs.ProofTrees.{ProofTree}
use Rattle.certificate_model.specs.Verdicts.{IsVerdict}
use Rattle.certificate_model.specs.Spending.{IsSpent}
use Rattle.history_model.specs.SessionProblems.{IsProblemOf}
use Rattle.history_model.specs.Legality.{Legal}

-- a form that isn't marked proved was found within a spent budget
abbrev pub claim_of_mark : Bool → Claim
claim_of_mark true = FormIsBest
claim_of_mark false = BudgetIsSpent

abbrev pub claim_of_cause : Cause → Claim
claim_of_cause CauseNoForm = NoneIsForm
claim_of_cause Spent = BudgetIsSpent

abbrev pub IsPartial : Verdict → Type 0
IsPartial (Partial leaves) = Unit {0}
IsPartial verdict = ⊥

-- the verdict is the one that the claim asks for
abbrev pub IsAsked : Claim → Verdict → Type 0
IsAsked FormIsBest verdict = verdict ≡ Optimal
IsAsked NoneIsForm verdict = verdict ≡ NoForm
IsAsked BudgetIsSpent verdict = IsPartial verdict

-- where the claim asks for a spent tree, the tree is spent
abbrev pub IsSpentIfAsked : Claim → Problem → ProofTree → ℕ → Type 0
IsSpentIfAsked BudgetIsSpent P T budget = IsSpent P T budget
IsSpentIfAsked claim P T budget = Unit {0}

-- the tree has the number of nodes that the entry gives, and is spent where the claim asks for that
pub record IsTreeOf (P : Problem) (budget nodes : ℕ) (claim : Claim) (T : ProofTree) : Type 0 where
  pub number : nodes ≡ length T.nodes
  pub spent : IsSpentIfAsked claim P T budget

-- there is such a tree
abbrev pub HasTree : Problem → ℕ → ℕ → Claim → Option ProofTree → Type 0
HasTree P budget nodes claim (Some T) = IsTreeOf P budget nodes claim T
HasTree P budget nodes claim None = ⊥

-- the verdict on the tree, with the form X or none
abbrev pub HasVerdict : Problem → Option Set → Option ProofTree → Verdict → Type 0
HasVerdict P X (Some T) verdict = IsVerdict P X T verdict
HasVerdict P X None verdict = ⊥

-- the tree shows what is claimed: it is such a tree, and its verdict is the one asked for
pub record Shows (P : Problem) (X : Option Set) (budget nodes : ℕ) (claim : Claim)
    (tree : Option ProofTree) : Type 0 where
  pub has_tree : HasTree P budget nodes claim tree
  pub verdict : Verdict
  pub has_verdict : HasVerdict P X tree verdict
  pub asked : IsAsked claim verdict

-- eligibility is set aside once in a band, which is that of the estimate, and the tree shows the
-- cause
pub record MaySetAside (b : Tables) (plan : Plan) (H : List Entry) (session step band : ℕ)
    (cause : Cause) (nodes : ℕ) (tree : Option ProofTree) : Type 0 where
  pub problem : Problem
  pub is_problem : IsProblemOf b plan H session step problem
  pub band_is : band ≡ band_of plan problem.theta
  pub not_aside : IsFalse problem.aside
  pub shows : Shows problem None plan.budget nodes (claim_of_cause cause) tree

-- an item is served by the serving rule from a form, and the tree shows its mark
pub record MayServe (b : Tables) (plan : Plan) (H : List Entry) (session step item : ℕ) (form : Set)
    (proved : Bool) (nodes : ℕ) (tree : Option ProofTree) : Type 0 where
  pub problem : Problem
  pub is_problem : IsProblemOf b plan H session step problem
  pub is_form : Form problem form
  pub next : IsNext problem form item
  pub shows : Shows problem (Some form) plan.budget nodes (claim_of_mark proved) tree

-- the entry, with a tree or none, may follow the history; only SetAside and Served have a tree
abbrev pub MayFollow : Tables → Plan → List Entry → Entry → Option ProofTree → Type 0
MayFollow b plan H (SetAside session step band cause nodes) tree =
    MaySetAside b plan H session step band cause nodes tree
MayFollow b plan H (Served session step item form proved nodes) tree =
    MayServe b plan H session step item (has form) proved nodes tree
MayFollow b plan H entry tree = Legal b plan H entry × (tree ≡ None)

pub record Record : Type 0 where
  pub entry : Entry
  pub tree : Option ProofTree

abbrev pub entries_of : List Record → List Entry
entries_of R = map (λ (r : Record). r.entry) R

-- each record may follow the entries before it
pub data Backed (b : Tables) (plan : Plan) : List Record → Type 0 where
  empty : Backed b plan []
  more : (R : List Record) (r : Record) → Backed b plan R
      → MayFollow b plan (entries_of R) r.entry r.tree → Backed b plan (R ++ r ∷ [])
