-- What the definitions imply, as the public laws state it.
use Rattle.std.specs.Prelude.{◌≡◌, ℕ, ◌+◌, ◌*◌, ◌^◌, ◌≤◌, ◌<◌, length, ℤ, pos, ◌≤ℤ◌, true, false, IsTrue, IsFalse, Option, Some, None, Bool}
use Rattle.bank_tables.specs.Items.{Set}
use Rattle.certificate_model.specs.declared.verdict.Verdict.{Verdict}
use Rattle.certificate_model.specs.declared.verdict.Verdict.TheVariants.{Optimal, NoForm, Partial}
use Rattle.form_model.specs.Problem.{Problem}
use Rattle.form_model.specs.Forms.{Form, Best, HasNoForm, objective}
use Rattle.certificate_model.specs.Paths.{Path, root, undecided, Under}
use Rattle.certificate_model.specs.Relaxed.{Multipliers, cap, lagrangian_without_links, lagrangian, IsRelaxedMaximum}
use Rattle.certificate_model.specs.Fixing.{fixed_path}
use Rattle.certificate_model.specs.ClosedForm.{IsGreatestFill, closed_form}
use Rattle.certificate_model.specs.Counting.{is_impossible, length_impossible}
use Rattle.certificate_model.specs.ProofTrees.{ProofTree}
use Rattle.certificate_model.specs.Verdicts.{IsVerdict}
use Rattle.certificate_model.specs.Spending.{open_leaves, IsSpent}

-- 256 times the objective of a form on a path is at most the relaxed maximum there, whatever the
-- multipliers
abbrev pub WeakDuality : Type 0
WeakDuality = (P : Problem) (p : Path) (v : Multipliers) (r : ℤ) (X : Set)
    → IsRelaxedMaximum P p v false r → Under P p X → pos (256 * objective P X) ≤ℤ r

-- a form on a path that is better than a goal is on the path that a vector fixes for this goal
abbrev pub FixKeeps : Type 0
FixKeeps = (P : Problem) (p : Path) (v : Multipliers) (goal : ℕ) (X : Set) → Under P p X
    → goal < objective P X → Under P (fixed_path P p v goal) X

-- a vector that names neither side of the cap has the Lagrangian without the links
abbrev pub NoCapNoLinks : Type 0
NoCapNoLinks = (P : Problem) (p : Path) (v : Multipliers) (ray : Bool) (X Z : Set) → cap v ≡ None
    → lagrangian P p v ray X Z ≡ lagrangian_without_links P v ray X Z

-- a ray's relaxed maximum is not negative where a form is on the path
abbrev pub RayIsNotNegative : Type 0
RayIsNotNegative = (P : Problem) (p : Path) (v : Multipliers) (r : ℤ) (X : Set)
    → IsRelaxedMaximum P p v true r → Under P p X → pos 0 ≤ℤ r

-- a row that is impossible by counting leaves no form on the path
abbrev pub CountingIsSound : Type 0
CountingIsSound =
    (P : Problem) (p : Path) (X : Set) (r : ℕ) → IsTrue (is_impossible P p r) → Under P p X → ⊥

abbrev pub OptimalIsBest : Type 0
OptimalIsBest = (P : Problem) (X : Set) (T : ProofTree) → IsVerdict P (Some X) T Optimal → Best P X

abbrev pub NoFormIsNone : Type 0
NoFormIsNone = (P : Problem) (T : ProofTree) → IsVerdict P None T NoForm → HasNoForm P

-- a tree has at most one verdict
abbrev pub OneVerdict : Type 0
OneVerdict = (P : Problem) (X : Option Set) (T : ProofTree) (v w : Verdict) → IsVerdict P X T v
    → IsVerdict P X T w → v ≡ w

-- the number of a Partial verdict is that of the tree's Open leaves, which has some
abbrev pub PartialCountsOpen : Type 0
PartialCountsOpen = (P : Problem) (X : Option Set) (T : ProofTree) (k : ℕ)
    → IsVerdict P X T (Partial k) → (0 < k) × (k ≡ open_leaves T.nodes)

-- a tree whose verdict is Partial has fewer nodes than a full binary tree over all that is
-- undecided at the root
abbrev pub PartialIsSmall : Type 0
PartialIsSmall = (P : Problem) (X : Option Set) (T : ProofTree) (k : ℕ)
    → IsVerdict P X T (Partial k) → length T.nodes + 1 < 2 ^ (undecided P (root P) + 1)

-- a spent tree has at most one Open leaf more than the root has free items and open stimuli
abbrev pub FewOpen : Type 0
FewOpen = (P : Problem) (T : ProofTree) (budget : ℕ) → IsSpent P T budget
    → open_leaves T.nodes ≤ undecided P (root P) + 1

-- the relaxed maximum is its closed form, whatever free items of the greatest capped weights fill
-- the test
abbrev pub ClosedFormIsMaximum : Type 0
ClosedFormIsMaximum = (P : Problem) (p : Path) (v : Multipliers) (ray : Bool) (T : Set) (t : ℤ)
    → IsGreatestFill P p v ray T t → IsRelaxedMaximum P p v ray (closed_form P p v ray T)

-- X isn't there, or its objective is at most that of Y
abbrev pub IsNoBetter : Problem → Option Set → Set → Type 0
IsNoBetter P None Y = Unit {0}
IsNoBetter P (Some X) Y = objective P X ≤ objective P Y

-- a form that is no worse leaves a Partial verdict as it is
abbrev pub BetteringKeeps : Type 0
BetteringKeeps = (P : Problem) (X : Option Set) (Y : Set) (T : ProofTree) (k : ℕ) → Form P Y
    → IsNoBetter P X Y → IsVerdict P X T (Partial k) → IsVerdict P (Some Y) T (Partial k)

-- where the length is possible by counting there is a relaxed maximum, it is one number, and
-- elsewhere there is none
abbrev pub SomeMaximum : Type 0
SomeMaximum = (P : Problem) (p : Path) (v : Multipliers) (ray : Bool)
    → IsFalse (length_impossible P p) → (r : ℤ) × IsRelaxedMaximum P p v ray r

abbrev pub OneMaximum : Type 0
OneMaximum = (P : Problem) (p : Path) (v : Multipliers) (ray : Bool) (r q : ℤ)
    → IsRelaxedMaximum P p v ray r → IsRelaxedMaximum P p v ray q → r ≡ q

abbrev pub MaximumMeansPossible : Type 0
MaximumMeansPossible = (P : Problem) (p : Path) (v : Multipliers) (ray : Bool) (r : ℤ)
    → IsRelaxedMaximum P p v ray r → IsFalse (length_impossible P p)
