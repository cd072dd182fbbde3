-- The steps of the fallback search at one path.
use Rattle.std.proofs.Common.{◌≡◌, ℕ, ◌+◌, inr, true, false, List, [], ◌∷◌, ◌++◌, sym, ap, ◌∙◌, subst, arith, append_assoc, Option}
use Rattle.bank_tables.specs.Items.{Set}
use Rattle.bank_tables.specs.Validity.{IsBank, HoldsItems}
use Rattle.certificate_model.specs.declared.node.Node.{Node}
use Rattle.certificate_model.specs.declared.node.Node.TheVariants.{Open}
use Rattle.form_model.specs.Problem.{Problem}
use Rattle.certificate_model.specs.Paths.{Path}
use Rattle.certificate_model.specs.Verdicts.{IsFormOrNone}
use Rattle.branch_bound.specs.Comparing.{IsAsGood}
use Rattle.branch_bound.specs.Searches.{plain_tree, IsSearch, Adds, GoesOn, IsBranchOn, side_of}
use Rattle.branch_bound.proofs.Comparisons.{as_good-refl}
use Rattle.branch_bound.proofs.LeafLaws.{open_suits, branch_suits, is_branch, two_sides, side_in_bank}
use Rattle.branch_bound.proofs.SearchLaws.{branch_search}

module _ (P : Problem) (p : Path) (B C : Option Set) (on : GoesOn P p B C) where
  pub form_stays : IsFormOrNone P B → IsFormOrNone P C
  form_stays form = subst (IsFormOrNone P) (sym on.same) form

  pub start_stays : (S : Option Set) → IsAsGood P S B → IsAsGood P S C
  start_stays S as_good = subst (IsAsGood P S) (sym on.same) as_good

  -- an Open leaf where no branch is left
  pub open_search : (k : ℕ) → k ≡ 0 → IsFormOrNone P B → IsSearch P p B k C k (Open ∷ [])
  open_search k none form =
      record {
        form = form_stays form;
        no_worse = start_stays B (as_good-refl P B);
        suit = λ X as_good rest paths all. (open_suits P p B C X on, all);
        number = omega arith;
        depth_first = tt;
        ended = inr none;
        no_branch = λ _. ((λ b. b), tt);
      }

  -- a branch, and the nodes of its two sides
  pub branch_adds : (node : Node) (D E : Option Set) (j k m n : ℕ) (before here between after : List Node)
      → IsBank P.bank
      → IsBranchOn P p node
      → j + 1 ≡ k
      → here ≡ before ++ node ∷ []
      → Adds P (side_of P p node true) C j here D m between
      → Adds P (side_of P p node false) D m between E n after
      → Adds P p B k before E n after
  branch_adds node D E j k m n before here between after bank is less pushed first second =
      let whole = branch_search P p (side_of P p node true) (side_of P p node false) node C D E j m n first.nodes second.nodes (two_sides P p (plain_tree []) node is) (is_branch P p node is) (λ X. branch_suits P p B C X node bank on is) first.search second.search in
      let from : IsSearch P p B (j + 1) E n (node ∷ (first.nodes ++ second.nodes)) = subst (λ (Z : Option Set). IsSearch P p Z (j + 1) E n (node ∷ (first.nodes ++ second.nodes))) on.same whole in
      record {
        nodes = node ∷ (first.nodes ++ second.nodes);
        added = second.added
            ∙ ap (λ (xs : List Node). xs ++ second.nodes) (first.added ∙ ap (λ (xs : List Node). xs ++ first.nodes) pushed)
            ∙ append_assoc (before ++ node ∷ []) first.nodes second.nodes
            ∙ append_assoc before (node ∷ []) (first.nodes ++ second.nodes);
        search = subst (λ (b : ℕ). IsSearch P p B b E n (node ∷ (first.nodes ++ second.nodes))) less from;
      }

-- the items taken on a side are of the bank
pub side_taken : (P : Problem) (p : Path) (node : Node) (side : _) (X Y : Set) → IsBranchOn P p node → X ≡ p.taken → HoldsItems P.bank X → Y ≡ (side_of P p node side).taken → HoldsItems P.bank Y
side_taken P p node side X Y is taken within same = subst (HoldsItems P.bank) (sym same) (side_in_bank P p node side is (subst (HoldsItems P.bank) taken within))
