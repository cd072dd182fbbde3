-- A form of greater objective keeps every sound node sound.
use Rattle.std.proofs.Common.{ℕ, zero, suc, ◌+◌, ◌≤◌, inl, inr, List, [], ◌∷◌, ◌++◌, arith, Option, Some, None}
use Rattle.std.proofs.lemmas.Int.{ints}
use Rattle.bank_tables.specs.Items.{Set}
use Rattle.certificate_model.specs.declared.node.Node.{Node}
use Rattle.certificate_model.specs.declared.node.Node.TheVariants.{BranchItem, BranchStimulus, Bound, Ray, Count, Whole, Open, Fix}
use Rattle.certificate_model.specs.declared.verdict.Verdict.TheVariants.{Partial}
use Rattle.form_model.specs.Forms.{Form, objective}
use Rattle.certificate_model.specs.Paths.{Path}
use Rattle.certificate_model.specs.Laws.{IsNoBetter}
use Rattle.form_model.specs.Problem.{Problem}
use Rattle.certificate_model.specs.ProofTrees.{ProofTree}
use Rattle.certificate_model.specs.Verdicts.{only_candidate, CandidateIsSettled, IsSound, below, open_leaf, GivesFrom, IsVerdict}

module _ (P : Problem) (X Y : Set) (T : ProofTree) (better : objective P X ≤ objective P Y) where
  settled : (p : Path) (Z : Option Set) → CandidateIsSettled P (Some X) p Z → CandidateIsSettled P (Some Y) p Z
  settled p None s = absurd s
  settled p (Some Z) (inl no_form) = inl no_form
  settled p (Some Z) (inr (inl lacks)) = inr (inl lacks)
  settled p (Some Z) (inr (inr no_better)) = inr (inr (omega arith))

  sound : (p : Path) (node : Node) → IsSound P (Some X) T p node → IsSound P (Some Y) T p node
  sound p (BranchItem i) s = s
  sound p (BranchStimulus t) s = s
  sound p (Bound v) s = (s.0, s.1, record { maximum = s.2.maximum; is_maximum = s.2.is_maximum; below = let b = s.2.below in omega (arith, ints) })
  sound p (Ray v) s = s
  sound p (Count r) s = s
  sound p Whole s = settled p (only_candidate P p) s
  sound p Open s = s
  sound p (Fix v goal) s = (s.0, s.1, omega (arith, s.2), s.3)

  pub same_partial : (at met : ℕ) (nodes : List Node) (paths : List Path) (k : ℕ) → GivesFrom P (Some X) T at met nodes paths (Partial k) → GivesFrom P (Some Y) T at met nodes paths (Partial k)
  same_partial at zero [] [] k g = absurd (cc)
  same_partial at (suc met) [] [] k g = g
  same_partial at met [] (p ∷ paths) k g = absurd g
  same_partial at met (node ∷ nodes) [] k g = absurd g
  same_partial at met (node ∷ nodes) (p ∷ paths) k (inl s) = inl (sound p node s.0, same_partial (at + 1) (met + open_leaf node) nodes (below P T p node ++ paths) k s.1)
  same_partial at met (node ∷ nodes) (p ∷ paths) k (inr bad) = absurd (let e = bad.2 in cc)

-- nodes that are sound without a form are sound with one
module _ (P : Problem) (Y : Set) (T : ProofTree) where
  settled_alone : (p : Path) (Z : Option Set) → CandidateIsSettled P None p Z → CandidateIsSettled P (Some Y) p Z
  settled_alone p None s = absurd s
  settled_alone p (Some Z) (inl no_form) = inl no_form
  settled_alone p (Some Z) (inr (inl lacks)) = inr (inl lacks)
  settled_alone p (Some Z) (inr (inr better)) = absurd better

  sound_alone : (p : Path) (node : Node) → IsSound P None T p node → IsSound P (Some Y) T p node
  sound_alone p (BranchItem i) s = s
  sound_alone p (BranchStimulus t) s = s
  sound_alone p (Bound v) s = absurd s.2
  sound_alone p (Ray v) s = s
  sound_alone p (Count r) s = s
  sound_alone p Whole s = settled_alone p (only_candidate P p) s
  sound_alone p Open s = s
  sound_alone p (Fix v goal) s = absurd s.2

  partial_alone : (at met : ℕ) (nodes : List Node) (paths : List Path) (k : ℕ) → GivesFrom P None T at met nodes paths (Partial k) → GivesFrom P (Some Y) T at met nodes paths (Partial k)
  partial_alone at zero [] [] k g = absurd (cc)
  partial_alone at (suc met) [] [] k g = g
  partial_alone at met [] (p ∷ paths) k g = absurd g
  partial_alone at met (node ∷ nodes) [] k g = absurd g
  partial_alone at met (node ∷ nodes) (p ∷ paths) k (inl s) = inl (sound_alone p node s.0, partial_alone (at + 1) (met + open_leaf node) nodes (below P T p node ++ paths) k s.1)
  partial_alone at met (node ∷ nodes) (p ∷ paths) k (inr bad) = absurd (let e = bad.2 in cc)

-- so a better form leaves a Partial verdict as it is
pub bettering_keeps : (P : Problem) (X : Option Set) (Y : Set) (T : ProofTree) (k : ℕ) → Form P Y → IsNoBetter P X Y → IsVerdict P X T (Partial k) → IsVerdict P (Some Y) T (Partial k)
bettering_keeps P None Y T k form no_better (inl gives) = inl (form, partial_alone P Y T 0 0 T.nodes _ k gives.1)
bettering_keeps P (Some X) Y T k form no_better (inl gives) = inl (form, same_partial P X Y T no_better 0 0 T.nodes _ k gives.1)
bettering_keeps P X Y T k form no_better (inr bad) = absurd (let e = bad.1 in cc)
