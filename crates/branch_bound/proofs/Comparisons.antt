-- Comparing forms.
use Rattle.std.proofs.Common.{ℕ, ◌≤◌, inl, inr, [], arith, Option, Some, None}
use Rattle.std.proofs.lemmas.Int.{ints}
use Rattle.bank_tables.specs.Items.{Set}
use Rattle.certificate_model.specs.declared.node.Node.{Node}
use Rattle.certificate_model.specs.declared.node.Node.TheVariants.{BranchItem, BranchStimulus, Bound, Ray, Count, Whole, Open, Fix}
use Rattle.form_model.specs.Problem.{Problem}
use Rattle.form_model.specs.Forms.{objective}
use Rattle.certificate_model.specs.Paths.{Path}
use Rattle.certificate_model.specs.ProofTrees.{ProofTree}
use Rattle.certificate_model.specs.Verdicts.{IsFormOrNone, IsSound, CandidateIsSettled, only_candidate, ClosesByBound, ReachesGoal}
use Rattle.branch_bound.specs.Comparing.{IsAsGood}
use Rattle.branch_bound.specs.Searches.{plain_tree, Suits}

pub as_good-refl : (P : Problem) (X : Option Set) → IsAsGood P X X
as_good-refl P None = tt
as_good-refl P (Some X) = λ form. omega arith

pub as_good-trans : (P : Problem) (A B C : Option Set) → IsFormOrNone P B → IsAsGood P A B → IsAsGood P B C → IsAsGood P A C
as_good-trans P None B C form a b = tt
as_good-trans P (Some A) None None form a b = a
as_good-trans P (Some A) None (Some C) form a b = λ f. absurd (a f)
as_good-trans P (Some A) (Some B) None form a b = λ f. b form
as_good-trans P (Some A) (Some B) (Some C) form a b = λ f. omega (arith, a f, b form)

-- what is settled or sound stays so with a form that is as good
module _ (P : Problem) (T : ProofTree) (p : Path) where
  settled : (X Y Z : Option Set) → IsFormOrNone P X → IsAsGood P X Y → CandidateIsSettled P X p Z → CandidateIsSettled P Y p Z
  settled X Y None form as_good s = absurd s
  settled X Y (Some Z) form as_good (inl no_form) = inl no_form
  settled X Y (Some Z) form as_good (inr (inl lacks)) = inr (inl lacks)
  settled None Y (Some Z) form as_good (inr (inr at_least)) = absurd at_least
  settled (Some X) None (Some Z) form as_good (inr (inr at_least)) = absurd (as_good form)
  settled (Some X) (Some Y) (Some Z) form as_good (inr (inr at_least)) = inr (inr (omega (arith, as_good form)))

  closes : (X Y : Option Set) (v : _) → IsFormOrNone P X → IsAsGood P X Y → ClosesByBound P X p v → ClosesByBound P Y p v
  closes None Y v form as_good c = absurd c
  closes (Some X) None v form as_good c = absurd (as_good form)
  closes (Some X) (Some Y) v form as_good c =
      record {
        maximum = c.maximum;
        is_maximum = c.is_maximum;
        below = let b = c.below in let more : objective P X ≤ objective P Y = as_good form in omega (arith, ints);
      }

  reaches : (X Y : Option Set) (goal : ℕ) → IsFormOrNone P X → IsAsGood P X Y → ReachesGoal P X goal → ReachesGoal P Y goal
  reaches None Y goal form as_good r = absurd r
  reaches (Some X) None goal form as_good r = absurd (as_good form)
  reaches (Some X) (Some Y) goal form as_good r = omega (arith, as_good form)

  pub sound : (X Y : Option Set) (node : Node) → IsFormOrNone P X → IsAsGood P X Y → IsSound P X T p node → IsSound P Y T p node
  sound X Y (BranchItem i) form as_good s = s
  sound X Y (BranchStimulus t) form as_good s = s
  sound X Y (Bound v) form as_good s = (s.0, s.1, closes X Y _ form as_good s.2)
  sound X Y (Ray v) form as_good s = s
  sound X Y (Fix v goal) form as_good s = (s.0, s.1, reaches X Y goal form as_good s.2, s.3)
  sound X Y (Count r) form as_good s = s
  sound X Y Whole form as_good s = settled X Y (only_candidate P p) form as_good s
  sound X Y Open form as_good s = s

pub suits : (P : Problem) (p : Path) (X Y : Option Set) (node : Node) → IsFormOrNone P X → IsAsGood P X Y → Suits P X p node → Suits P Y p node
suits P p X Y node form as_good s = record { sound = sound P (plain_tree []) p X Y node form as_good s.sound; spent = s.spent; pruned = s.pruned; number = s.number }
