-- Five items of which the three best are enemies of one another: no multipliers close the root, a
-- tree of branches does.
use Rattle.std.proofs.Common.{inl, inr, false, [], ◌∷◌, ℤ, pos, ◌≤ℤ◌, Some, refl, sym, arith}
use Rattle.std.proofs.lemmas.Int.{ints}
use Rattle.std.proofs.Math.Dec.{lit≤}
use Rattle.std.proofs.Math.Bool.{true≢false}
use Rattle.bank_tables.specs.Items.{has}
use Rattle.certificate_model.specs.declared.node.Node.TheVariants.{BranchItem, Count, Whole, Open}
use Rattle.certificate_model.specs.declared.verdict.Verdict.TheVariants.{Optimal}
use Rattle.form_model.specs.Forms.{Form, Best, Firm}
use Rattle.certificate_model.specs.Paths.{root, is_free}
use Rattle.certificate_model.specs.Weights.{item_weight, stimulus_weight, rows_constant}
use Rattle.certificate_model.specs.Counting.{is_impossible}
use Rattle.certificate_model.specs.Relaxed.{Multipliers, lagrangian_without_links, lagrangian, IsRelaxedPair, link_multiplier, IsRelaxedMaximum}
use Rattle.certificate_model.specs.ClosedForm.{excess_of_items}
use Rattle.certificate_model.specs.ProofTrees.{ProofTree, AreTrees}
use Rattle.certificate_model.specs.Spending.{IsSpent}
use Rattle.certificate_model.specs.Verdicts.{IsVerdict}
use Rattle.form_model.proofs.Computed.{these, these_below, these_in, form_is}
use Rattle.certificate_model.proofs.Computed.{all_possible, maximum_is}
use Rattle.certificate_model.proofs.TreeLaws.{optimal_is_best}
use Rattle.form_model.proofs.BankE.{item_e, bank_e, plan_e, problem_e}

-- ---- forms
pub form_03 : Form problem_e (these (0 ∷ 3 ∷ []))
unfolding problem_e bank_e item_e plan_e has
form_03 = form_is problem_e (these (0 ∷ 3 ∷ [])) (these_below 5 (0 ∷ 3 ∷ []) refl) (λ i e. absurd (cc)) refl

pub form_24 : Form problem_e (these (2 ∷ 4 ∷ []))
unfolding problem_e bank_e item_e plan_e has
form_24 = form_is problem_e (these (2 ∷ 4 ∷ [])) (these_below 5 (2 ∷ 4 ∷ []) refl) (λ i e. absurd (cc)) refl

-- ---- a tree of branches on items proves {0, 3} best: the enemies end in Count leaves, the other
-- sets in Whole leaves
unfoldable pub tree_e : ProofTree
tree_e =
    record {
      vectors = [];
      nodes =
          BranchItem 0
          ∷ BranchItem 1
          ∷ Count 1
          ∷ BranchItem 2
          ∷ Count 3
          ∷ BranchItem 3
          ∷ Whole
          ∷ Whole
          ∷ BranchItem 1
          ∷ BranchItem 2
          ∷ Count 2
          ∷ BranchItem 3
          ∷ Whole
          ∷ Whole
          ∷ BranchItem 2
          ∷ BranchItem 3
          ∷ Whole
          ∷ Whole
          ∷ Whole
          ∷ [];
    }

-- its nodes are one tree
one_tree_e : AreTrees 1 tree_e.nodes
unfolding tree_e
one_tree_e = tt

optimal_e : IsVerdict problem_e (Some (these (0 ∷ 3 ∷ []))) tree_e Optimal
unfolding tree_e problem_e bank_e item_e plan_e has is_impossible
optimal_e =
    inl (
      form_03,
      inl (
        refl,
        inl (
          refl,
          inl (
            refl,
            inl (
              refl,
              inl (
                refl,
                inl (
                  refl,
                  inl (
                    inr (inr (lit≤ tt)),
                    inl (
                      inr (inr (lit≤ tt)),
                      inl (
                        refl,
                        inl (
                          refl,
                          inl (
                            refl,
                            inl (
                              refl,
                              inl (
                                inr (inr (lit≤ tt)),
                                inl (
                                  inr (inr (lit≤ tt)),
                                  inl (refl, inl (refl, inl (inr (inr (lit≤ tt)), inl (inr (inr (lit≤ tt)), inl (inr (inr (lit≤ tt)), refl))))),
                                ),
                              ),
                            ),
                          ),
                        ),
                      ),
                    ),
                  ),
                ),
              ),
            ),
          ),
        ),
      ),
    )

best_e : Best problem_e (these (0 ∷ 3 ∷ []))
best_e = optimal_is_best problem_e (these (0 ∷ 3 ∷ [])) tree_e optimal_e

-- ---- {0, 3} is firm; {2, 4} is not, since item 3 in place of item 4 betters it
firm_03 : Firm problem_e (these (0 ∷ 3 ∷ []))
firm_03 = record { form = best_e.form; exchanges = λ Y form others. best_e.greatest Y form }

-- ---- no multipliers bring the relaxed maximum at the root below 14.5 times 256: half of {0, 1}
-- and half of {2, 3}
pair_01 : IsRelaxedPair problem_e (root problem_e) (these (0 ∷ 1 ∷ [])) (λ _. false)
unfolding problem_e bank_e item_e plan_e
pair_01 =
    record {
      n_items = refl;
      holds_taken = λ i e. absurd (true≢false (sym e));
      else_free = λ i e. inr (these_in (is_free problem_e (root problem_e)) (0 ∷ 1 ∷ []) refl i e);
      holds_chosen = λ s first last e. absurd (omega arith);
      else_open = λ s first last e. absurd (omega arith);
    }

pair_23 : IsRelaxedPair problem_e (root problem_e) (these (2 ∷ 3 ∷ [])) (λ _. false)
unfolding problem_e bank_e item_e plan_e
pair_23 =
    record {
      n_items = refl;
      holds_taken = λ i e. absurd (true≢false (sym e));
      else_free = λ i e. inr (these_in (is_free problem_e (root problem_e)) (2 ∷ 3 ∷ []) refl i e);
      holds_chosen = λ s first last e. absurd (omega arith);
      else_open = λ s first last e. absurd (omega arith);
    }

open_root : (v : Multipliers) (r : ℤ) → IsRelaxedMaximum problem_e (root problem_e) v false r → pos 3712 ≤ℤ r
unfolding problem_e bank_e item_e plan_e has lagrangian lagrangian_without_links link_multiplier
open_root v r is =
    let one = is.greatest (these (0 ∷ 1 ∷ [])) (λ _. false) pair_01 in
    let other = is.greatest (these (2 ∷ 3 ∷ [])) (λ _. false) pair_23 in
    omega (arith, ints)

-- ---- so at a budget of one node the search leaves one Open leaf, and that spends it
unfoldable pub one_open : ProofTree
one_open = record { vectors = []; nodes = Open ∷ [] }

plain_e : IsRelaxedMaximum problem_e (root problem_e) [] false (pos 4864)
unfolding problem_e bank_e item_e plan_e has item_weight stimulus_weight rows_constant link_multiplier excess_of_items
plain_e = maximum_is problem_e (root problem_e) [] false (these (0 ∷ 1 ∷ [])) (pos 2100) (pos 4864) (these_below 5 (0 ∷ 1 ∷ []) refl) refl refl

spent_e : IsSpent problem_e one_open 1
unfolding one_open problem_e bank_e item_e plan_e has is_impossible
spent_e =
    record {
      nodes = refl;
      some_open = lit≤ tt;
      depth_first = tt;
      unresolved = (record { possible = all_possible problem_e (root problem_e) refl; exceeds = λ form. record { maximum = pos 4864; is_maximum = plain_e; above = record { lt = tt } } }, tt);
    }
