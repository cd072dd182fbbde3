-- Bank A with a plan that has no form: a tree shows that.
use Rattle.std.proofs.Common.{◌≡◌, ℕ, zero, suc, ◌<◌, inl, inr, false, [], ◌∷◌, None, Some, refl, sym, ap, ◌∙◌, arith}
use Rattle.std.proofs.Math.Bool.{true≢false}
use Rattle.bank_tables.specs.Items.{has}
use Rattle.form_model.specs.declared.row.Row.TheVariants.{Count, Enemies}
use Rattle.certificate_model.specs.declared.node.Node.TheVariants.{Count as CountLeaf}
use Rattle.certificate_model.specs.declared.verdict.Reason.TheVariants.{RowPossible}
use Rattle.certificate_model.specs.declared.verdict.Verdict.TheVariants.{NoForm, Bad}
use Rattle.form_model.specs.Plan.{Plan}
use Rattle.form_model.specs.Problem.{Problem, whole}
use Rattle.form_model.specs.Forms.{HasNoForm}
use Rattle.certificate_model.specs.Paths.{root}
use Rattle.certificate_model.specs.Counting.{is_impossible, IsFirstImpossible}
use Rattle.certificate_model.specs.ProofTrees.{ProofTree}
use Rattle.certificate_model.specs.Pruning.{IsPruned}
use Rattle.certificate_model.specs.Verdicts.{IsVerdict}
use Rattle.form_model.proofs.Computed.{one_word}
use Rattle.certificate_model.proofs.TreeLaws.{no_form_is_none}
use Rattle.form_model.proofs.BankA.{item_a, bank_a, plan_of_rows}

-- ---- three of the two items 0 and 1 can't be: one Count leaf of row 1 shows that there is no form
unfoldable pub plan_three : Plan
unfolding plan_of_rows
plan_three = plan_of_rows (Count (one_word 3) 3 3 ∷ Enemies (one_word 36) ∷ [])

unfoldable pub problem_three : Problem
problem_three = whole bank_a plan_three 1

unfoldable pub one_count : ℕ → ProofTree
one_count r = record { vectors = []; nodes = CountLeaf r ∷ [] }

pub first_impossible : IsFirstImpossible problem_three (root problem_three) (Some 1)
unfolding problem_three bank_a item_a plan_of_rows plan_three has is_impossible
first_impossible = (refl, before)
  where
    before : (q : ℕ) → q < 1 → is_impossible problem_three (root problem_three) q ≡ false
    before zero w = refl
    before (suc q) w = absurd (omega arith)

no_form_three : IsVerdict problem_three None (one_count 1) NoForm
unfolding one_count
no_form_three = inl (tt, inl (first_impossible.0, refl))

none_three : HasNoForm problem_three
none_three = no_form_is_none problem_three (one_count 1) no_form_three

-- the tree is pruned at the lowest row
pruned_three : IsPruned problem_three (one_count 1)
unfolding one_count
pruned_three = (λ r is. ap CountLeaf (lowest r is), tt)
  where
    lowest : (r : ℕ) → IsFirstImpossible problem_three (root problem_three) (Some r) → 1 ≡ r
    lowest zero is = absurd (true≢false (sym is.0 ∙ first_impossible.1 0 (omega arith)))
    lowest (suc zero) is = refl
    lowest (suc (suc r)) is = absurd (true≢false (sym first_impossible.0 ∙ is.1 1 (omega arith)))

-- the length isn't impossible, so a Count leaf of it is refused
possible_three : IsVerdict problem_three None (one_count 0) (Bad 0 RowPossible)
unfolding one_count
possible_three = inl (tt, inr (RowPossible, first_impossible.1 0 (omega arith), refl))
