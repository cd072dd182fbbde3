-- The verdict on a proof tree.
use Rattle.std.specs.Prelude.{◌≡◌, ℕ, zero, suc, ◌+◌, ◌*◌, ◌≤◌, ◌<◌, ◌⊎◌, ◌≢◌, Bool, true, false, not, ◌||◌, ◌==◌, List, [], ◌∷◌, ◌++◌, length, IsTrue, IsFalse, ℤ, pos, negsuc, ◌≤ℤ◌, Option, Some, None, All, if◌then◌else◌}
use Rattle.bank_tables.specs.Items.{Set}
use Rattle.bank_tables.specs.Tables.{size}
use Rattle.bank_tables.specs.Sums.{any_below}
use Rattle.certificate_model.specs.declared.node.Node.{Node}
use Rattle.certificate_model.specs.declared.node.Node.TheVariants.{BranchItem, BranchStimulus, Bound, Ray, Count, Whole, Open, Fix}
use Rattle.certificate_model.specs.declared.verdict.Reason.{Reason}
use Rattle.certificate_model.specs.declared.verdict.Reason.TheVariants.{NotForm, Determined, NoVector, NoSide, NotClosed, NotNegative, RowPossible, NotWhole, Better, OpenWhole, FixesNothing}
use Rattle.certificate_model.specs.declared.verdict.Verdict.{Verdict}
use Rattle.certificate_model.specs.declared.verdict.Verdict.TheVariants.{Optimal, NoForm, Partial, Bad}
use Rattle.form_model.specs.Problem.{Problem}
use Rattle.form_model.specs.Forms.{Form, objective, used, stimuli_of, size_in}
use Rattle.certificate_model.specs.Paths.{Path, root, is_free, is_chosen, is_open, with_item, with_stimulus}
use Rattle.certificate_model.specs.Relaxed.{Multipliers, cap_side, IsRelaxedMaximum}
use Rattle.certificate_model.specs.Fixing.{fixed_path, settles}
use Rattle.certificate_model.specs.Counting.{is_impossible, taken_or_free}
use Rattle.certificate_model.specs.ProofTrees.{ProofTree, vector_at}

-- the side is one of the plan's, or one of the cap, which each plan has
abbrev pub IsSide : Problem → ℕ → Type 0
IsSide P side = (side < 2 * length P.plan.rows + 2 * stimuli_of P.bank)
    ⊎ ((side ≡ cap_side) ⊎ (side ≡ cap_side + 1))

-- each side named is one of these
abbrev pub NamesOnlySides : Problem → Multipliers → Type 0
NamesOnlySides P v = All (λ pair. IsSide P pair.0) v

-- the relaxed maximum is defined, and at most top
pub record MaximumIsAtMost (P : Problem) (p : Path) (v : Multipliers) (ray : Bool)
    (top : ℤ) : Type 0 where
  pub maximum : ℤ
  pub is_maximum : IsRelaxedMaximum P p v ray maximum
  pub below : maximum ≤ℤ top

-- the relaxed maximum is too low for a form better than X
abbrev pub ClosesByBound : Problem → Option Set → Path → Multipliers → Type 0
ClosesByBound P None p v = ⊥
ClosesByBound P (Some X) p v = MaximumIsAtMost P p v false (pos (256 * objective P X + 255))

-- the only set that may be a form on the path, where no item is free, or the test is full with the
-- items taken, or with all that are taken or free
abbrev pub only_candidate : Problem → Path → Option Set
only_candidate P p =
    if not (any_below (size P.bank) (is_free P p)) || size_in P.bank p.taken == P.plan.length
    then Some p.taken
    else (if size_in P.bank (taken_or_free P p) == P.plan.length then Some (taken_or_free P p)
    else None)

-- X is there, and its objective is at least that of Y
abbrev pub IsAtLeast : Problem → Option Set → Set → Type 0
IsAtLeast P (Some X) Y = objective P Y ≤ objective P X
IsAtLeast P None Y = ⊥

-- Y lacks a chosen stimulus
pub record LacksChosen (P : Problem) (p : Path) (Y : Set) : Type 0 where
  pub missing : ℕ
  pub first : 0 < missing
  pub last : missing ≤ stimuli_of P.bank
  pub chosen : IsTrue (is_chosen P p missing)
  pub unused : IsFalse (used P.bank Y missing)

-- the only candidate is there, and is no form, or lacks a chosen stimulus, or is no better than X
abbrev pub CandidateIsSettled : Problem → Option Set → Path → Option Set → Type 0
CandidateIsSettled P X p None = ⊥
CandidateIsSettled P X p (Some Y) = (Form P Y → ⊥) ⊎ LacksChosen P p Y ⊎ IsAtLeast P X Y

-- the stimulus is one of the bank's, and open
pub record IsStimulusBranch (P : Problem) (p : Path) (s : ℕ) : Type 0 where
  pub first : 0 < s
  pub last : s ≤ stimuli_of P.bank
  pub is_open : IsTrue (is_open P p s)

-- X is there and its objective reaches the goal
abbrev pub ReachesGoal : Problem → Option Set → ℕ → Type 0
ReachesGoal P None goal = ⊥
ReachesGoal P (Some X) goal = goal ≤ objective P X

-- the node is sound on the path p, with a form X or none
abbrev pub IsSound : Problem → Option Set → ProofTree → Path → Node → Type 0
IsSound P X T p (BranchItem i) = IsTrue (is_free P p i)
IsSound P X T p (BranchStimulus s) = IsStimulusBranch P p s
IsSound P X T p (Bound v) =
    (v < length T.vectors) × NamesOnlySides P (vector_at T v) × ClosesByBound P X p (vector_at T v)
IsSound P X T p (Ray v) = (v < length T.vectors) × NamesOnlySides P (vector_at T v)
    × MaximumIsAtMost P p (vector_at T v) true (negsuc 0)
IsSound P X T p (Count r) = IsTrue (is_impossible P p r)
IsSound P X T p Whole = CandidateIsSettled P X p (only_candidate P p)
IsSound P X T p Open = only_candidate P p ≡ None
IsSound P X T p (Fix v goal) = (v < length T.vectors) × NamesOnlySides P (vector_at T v)
    × ReachesGoal P X goal × IsTrue (settles P p (vector_at T v) goal)

-- why it is not
abbrev pub IsUnsound : Problem → Option Set → ProofTree → Path → Node → Reason → Type 0
IsUnsound P X T p (BranchItem i) Determined = IsFalse (is_free P p i)
IsUnsound P X T p (BranchStimulus s) Determined = IsStimulusBranch P p s → ⊥
IsUnsound P X T p (Bound v) NoVector = length T.vectors ≤ v
IsUnsound P X T p (Bound v) NoSide = (v < length T.vectors) × (NamesOnlySides P (vector_at T v) → ⊥)
IsUnsound P X T p (Bound v) NotClosed = (v < length T.vectors) × NamesOnlySides P (vector_at T v)
    × (ClosesByBound P X p (vector_at T v) → ⊥)
IsUnsound P X T p (Ray v) NoVector = length T.vectors ≤ v
IsUnsound P X T p (Ray v) NoSide = (v < length T.vectors) × (NamesOnlySides P (vector_at T v) → ⊥)
IsUnsound P X T p (Ray v) NotNegative = (v < length T.vectors) × NamesOnlySides P (vector_at T v)
    × (MaximumIsAtMost P p (vector_at T v) true (negsuc 0) → ⊥)
IsUnsound P X T p (Count r) RowPossible = IsFalse (is_impossible P p r)
IsUnsound P X T p Whole NotWhole = only_candidate P p ≡ None
IsUnsound P X T p Whole Better =
    (only_candidate P p ≢ None) × (CandidateIsSettled P X p (only_candidate P p) → ⊥)
IsUnsound P X T p Open OpenWhole = only_candidate P p ≢ None
IsUnsound P X T p (Fix v goal) NoVector = length T.vectors ≤ v
IsUnsound P X T p (Fix v goal) NoSide =
    (v < length T.vectors) × (NamesOnlySides P (vector_at T v) → ⊥)
IsUnsound P X T p (Fix v goal) NotClosed = (v < length T.vectors) × NamesOnlySides P (vector_at T v)
    × (ReachesGoal P X goal → ⊥)
IsUnsound P X T p (Fix v goal) FixesNothing = (v < length T.vectors)
    × NamesOnlySides P (vector_at T v) × ReachesGoal P X goal
    × IsFalse (settles P p (vector_at T v) goal)
IsUnsound P X T p node reason = ⊥

-- the paths below a node, left first
abbrev pub below : Problem → ProofTree → Path → Node → List Path
below P T p (BranchItem i) = with_item p i true ∷ with_item p i false ∷ []
below P T p (BranchStimulus s) = with_stimulus P p s true ∷ with_stimulus P p s false ∷ []
below P T p (Fix v goal) = fixed_path P p (vector_at T v) goal ∷ []
below P T p node = []

-- how many Open leaves a node is
abbrev pub open_leaf : Node → ℕ
open_leaf Open = 1
open_leaf node = 0

-- the verdict where all nodes are sound, by the number of Open leaves
abbrev pub verdict_of : Option Set → ℕ → Verdict
verdict_of X (suc met) = Partial (suc met)
verdict_of (Some X) zero = Optimal
verdict_of None zero = NoForm

-- the verdict on the nodes from place `at` on, one subtree for each waiting path, with `met` Open
-- leaves before
abbrev pub GivesFrom : Problem → Option Set → ProofTree → ℕ → ℕ → List Node → List Path → Verdict
    → Type 0
GivesFrom P X T at met [] [] verdict = verdict ≡ verdict_of X met
GivesFrom P X T at met [] (p ∷ paths) verdict = ⊥
GivesFrom P X T at met (node ∷ nodes) [] verdict = ⊥
GivesFrom P X T at met (node ∷ nodes) (p ∷ paths) verdict = (IsSound P X T p node
    × GivesFrom P X T (at + 1) (met + open_leaf node) nodes (below P T p node ++ paths) verdict)
    ⊎ ((reason : Reason) × IsUnsound P X T p node reason × (verdict ≡ Bad at reason))

-- the set is a form, or there is none
abbrev pub IsFormOrNone : Problem → Option Set → Type 0
IsFormOrNone P (Some X) = Form P X
IsFormOrNone P None = Unit {0}

-- the verdict on the tree T with the form X or none
abbrev pub IsVerdict : Problem → Option Set → ProofTree → Verdict → Type 0
IsVerdict P X T verdict =
    (IsFormOrNone P X × GivesFrom P X T 0 0 T.nodes (root P ∷ []) verdict)
    ⊎ ((IsFormOrNone P X → ⊥) × (verdict ≡ Bad 0 NotForm))
