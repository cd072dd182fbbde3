-- Four items of ten words each, and room for fifteen words in a test of two: a ray shows that there
-- is no form.
use Rattle.std.proofs.Common.{◌≡◌, ℕ, zero, suc, ◌≤◌, ◌<◌, inl, true, false, [], ◌∷◌, length, negsuc, None, refl, arith}
use Rattle.std.specs.Prelude.{All}
use Rattle.std.proofs.Math.Dec.{lit≤}
use Rattle.bank_tables.specs.Items.{has}
use Rattle.certificate_model.specs.declared.node.Node.TheVariants.{Ray}
use Rattle.certificate_model.specs.declared.verdict.Verdict.TheVariants.{NoForm}
use Rattle.form_model.specs.Problem.{Problem, whole}
use Rattle.form_model.specs.Forms.{HasNoForm}
use Rattle.certificate_model.specs.Paths.{root}
use Rattle.certificate_model.specs.Weights.{item_weight, stimulus_weight, rows_constant}
use Rattle.certificate_model.specs.Counting.{is_impossible}
use Rattle.certificate_model.specs.Relaxed.{link_multiplier, IsRelaxedMaximum}
use Rattle.certificate_model.specs.ClosedForm.{excess_of_items}
use Rattle.certificate_model.specs.ProofTrees.{ProofTree, IsProofTree, IsVector, vector_at}
use Rattle.certificate_model.specs.Verdicts.{IsVerdict}
use Rattle.form_model.proofs.Computed.{these, these_below}
use Rattle.certificate_model.proofs.Computed.{all_possible, maximum_is, at_most, names_sides}
use Rattle.certificate_model.proofs.TreeLaws.{no_form_is_none}
use Rattle.form_model.proofs.BankQ.{item_q, bank_q, plan_q}

unfoldable pub problem_q : Problem
problem_q = whole bank_q plan_q 0

-- counting finds nothing: no item alone exceeds the bound
possible_q : (r : ℕ) → is_impossible problem_q (root problem_q) r ≡ false
unfolding problem_q bank_q item_q plan_q has is_impossible
possible_q = all_possible problem_q (root problem_q) refl

-- side 1, the upper one, by 1: the constant 15, and -10 for each of two items
ray_q : IsRelaxedMaximum problem_q (root problem_q) ((1, 1) ∷ []) true (negsuc 4)
unfolding problem_q bank_q item_q plan_q has item_weight stimulus_weight rows_constant link_multiplier excess_of_items
ray_q = maximum_is problem_q (root problem_q) ((1, 1) ∷ []) true (these (0 ∷ 1 ∷ [])) (negsuc 9) (negsuc 4) (these_below 4 (0 ∷ 1 ∷ []) refl) refl refl

unfoldable pub one_ray : ProofTree
one_ray = record { vectors = ((1, 1) ∷ []) ∷ []; nodes = Ray 0 ∷ [] }

no_form_q : IsVerdict problem_q None one_ray NoForm
unfolding one_ray problem_q bank_q item_q plan_q
no_form_q = inl (tt, inl ((lit≤ tt, names_sides problem_q ((1, 1) ∷ []) refl, at_most problem_q (root problem_q) ((1, 1) ∷ []) true (negsuc 4) (negsuc 0) ray_q refl), refl))

none_q : HasNoForm problem_q
none_q = no_form_is_none problem_q one_ray no_form_q

-- the tree is a proof tree
is_tree_q : IsProofTree one_ray
unfolding one_ray
is_tree_q =
    record {
      vectors = record { few = lit≤ tt; ascending = ascending; low_sides = low_sides; short = short; few_pairs = lit≤ tt };
      few_nodes = lit≤ tt;
      one_tree = tt;
    }
  where
    ascending : (v : ℕ) → v < 1 → IsVector 0 (vector_at one_ray v)
    ascending zero w = (lit≤ tt, lit≤ tt, lit≤ tt, tt)
    ascending (suc v) w = absurd (omega arith)

    low_sides : (v : ℕ) → v < 1 → All (λ pair. pair.0 < 386) (vector_at one_ray v)
    low_sides zero w zero d x = lit≤ tt
    low_sides zero w (suc k) d x = absurd (omega arith)
    low_sides (suc v) w k d x = absurd (omega arith)

    short : (v : ℕ) → v < 1 → length (vector_at one_ray v) ≤ 384
    short zero w = lit≤ tt
    short (suc v) w = absurd (omega arith)
