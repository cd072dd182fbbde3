-- Trees that spend their budget, and for each part of the rule one that breaks it alone.
use Rattle.std.proofs.Common.{◌≡◌, ℕ, inl, true, false, [], ◌∷◌, None, refl, sym, ◌∙◌, arith}
use Rattle.std.proofs.Math.Dec.{lit≤}
use Rattle.std.proofs.Math.Bool.{true≢false}
use Rattle.bank_tables.specs.Items.{has}
use Rattle.certificate_model.specs.declared.node.Node.TheVariants.{BranchItem, Whole, Open}
use Rattle.certificate_model.specs.declared.verdict.Verdict.TheVariants.{Partial}
use Rattle.certificate_model.specs.Paths.{Path, root, with_item}
use Rattle.certificate_model.specs.Counting.{is_impossible}
use Rattle.certificate_model.specs.ProofTrees.{ProofTree}
use Rattle.certificate_model.specs.Verdicts.{IsVerdict}
use Rattle.certificate_model.specs.Spending.{IsSpent, IsDepthFirst, IsUnresolved}
use Rattle.certificate_model.proofs.Computed.{all_possible}
use Rattle.form_model.proofs.BankA.{item_a, bank_a, plan_of_rows, plan_a, problem_a}
use Rattle.certificate_model.proofs.StepsOfA.{problem_three, first_impossible}
use Rattle.certificate_model.proofs.BankE.{one_open}

-- ---- two branches to the left, then three Open leaves: at a budget of five nodes the tree is
-- spent
unfoldable pub left_first : ProofTree
left_first = record { vectors = []; nodes = BranchItem 3 ∷ BranchItem 4 ∷ Open ∷ Open ∷ Open ∷ [] }

-- bank A has no start, so counting alone could settle a path, and settles none of these
unresolved_a : (p : Path) → ((r : ℕ) → is_impossible problem_a p r ≡ false) → IsUnresolved problem_a p
unfolding problem_a
unresolved_a p possible = record { possible = possible; exceeds = tt }

spent_a : IsSpent problem_a left_first 5
unfolding left_first problem_a bank_a item_a plan_of_rows plan_a has is_impossible
spent_a =
    let r = root problem_a in
    record {
      nodes = refl;
      some_open = lit≤ tt;
      depth_first = ((λ branch. branch), ((λ branch. branch), tt));
      unresolved = (
        (refl, unresolved_a r (all_possible problem_a r refl)),
        (
          (refl, unresolved_a (with_item r 3 true) (all_possible problem_a (with_item r 3 true) refl)),
          (
            unresolved_a (with_item (with_item r 3 true) 4 true) (all_possible problem_a (with_item (with_item r 3 true) 4 true) refl),
            (
              unresolved_a (with_item (with_item r 3 true) 4 false) (all_possible problem_a (with_item (with_item r 3 true) 4 false) refl),
              (unresolved_a (with_item r 3 false) (all_possible problem_a (with_item r 3 false) refl), tt),
            ),
          ),
        ),
      );
    }

-- its verdict is Partial, with three Open leaves, also without a form
partial_a : IsVerdict problem_a None left_first (Partial 3)
unfolding left_first problem_a bank_a item_a plan_of_rows plan_a
partial_a = inl (tt, inl (refl, inl (refl, inl (refl, inl (refl, inl (refl, refl))))))

-- ---- another budget
not_spent_at_7 : IsSpent problem_a left_first 7 → ⊥
unfolding left_first
not_spent_at_7 spent = let e = spent.nodes in omega arith

-- ---- a branch after an Open leaf: the tree was not searched depth first
unfoldable pub open_first : ProofTree
open_first = record { vectors = []; nodes = BranchItem 3 ∷ Open ∷ BranchItem 4 ∷ Open ∷ Open ∷ [] }

not_depth_first : IsSpent problem_a open_first 5 → ⊥
unfolding open_first
not_depth_first spent = spent.depth_first.0 tt

-- a leaf that isn't Open may be after an Open one, and before it
leaves_behind : IsDepthFirst (BranchItem 3 ∷ Open ∷ Whole ∷ []) × IsDepthFirst (BranchItem 3 ∷ Whole ∷ BranchItem 4 ∷ Open ∷ Open ∷ [])
leaves_behind = (((λ branch. branch), tt), ((λ branch. branch), tt))

-- ---- no Open leaf
unfoldable pub no_open : ProofTree
no_open = record { vectors = []; nodes = Whole ∷ [] }

not_without_open : IsSpent problem_a no_open 1 → ⊥
unfolding no_open
not_without_open spent = let some = spent.some_open in omega arith

-- ---- a branch on an item that is decided
unfoldable pub branch_twice : ProofTree
branch_twice = record { vectors = []; nodes = BranchItem 3 ∷ BranchItem 3 ∷ Open ∷ Open ∷ Open ∷ [] }

not_determined : IsSpent problem_a branch_twice 5 → ⊥
unfolding branch_twice problem_a bank_a item_a
not_determined spent = true≢false (sym spent.unresolved.1.0.0)

-- ---- nodes that are no tree: the right side of the branch is missing
unfoldable pub cut_off : ProofTree
cut_off = record { vectors = []; nodes = BranchItem 3 ∷ Open ∷ [] }

not_cut_off : IsSpent problem_a cut_off 2 → ⊥
unfolding cut_off
not_cut_off spent = spent.unresolved.1.1

-- ---- an Open leaf, or a branch, where a row is impossible by counting
not_impossible : IsSpent problem_three one_open 1 → ⊥
unfolding one_open
not_impossible spent = true≢false (sym first_impossible.0 ∙ spent.unresolved.0.possible 1)

unfoldable pub branch_and_open : ProofTree
branch_and_open = record { vectors = []; nodes = BranchItem 3 ∷ Open ∷ Open ∷ [] }

no_impossible_branch : IsSpent problem_three branch_and_open 3 → ⊥
unfolding branch_and_open
no_impossible_branch spent = true≢false (sym first_impossible.0 ∙ spent.unresolved.0.1.possible 1)
