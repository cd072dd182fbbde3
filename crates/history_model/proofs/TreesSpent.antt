-- Spent trees of the problems of a seat.
use Rattle.std.proofs.Common.{false, [], ◌∷◌, pos, refl, sym, arith}
use Rattle.std.proofs.lemmas.Int.{ints}
use Rattle.std.proofs.Math.Bool.{true≢false}
use Rattle.bank_tables.specs.Items.{has}
use Rattle.certificate_model.specs.declared.node.Node.TheVariants.{BranchStimulus, Open}
use Rattle.form_model.specs.Forms.{Form}
use Rattle.certificate_model.specs.Paths.{root}
use Rattle.certificate_model.specs.Weights.{item_weight, stimulus_weight, rows_constant}
use Rattle.certificate_model.specs.Relaxed.{link_multiplier, IsRelaxedMaximum}
use Rattle.certificate_model.specs.ClosedForm.{excess_of_items}
use Rattle.certificate_model.specs.ProofTrees.{ProofTree}
use Rattle.certificate_model.specs.Spending.{IsSpent, IsUnresolved}
use Rattle.form_model.proofs.Computed.{these, these_below, one_word, word_below, form_is}
use Rattle.certificate_model.proofs.Computed.{maximum_is}
use Rattle.form_model.proofs.BankS.{item_s, bank_s, plan_s}
use Rattle.serving_model.proofs.BankS.{seat_s, problem_1}
use Rattle.certificate_model.proofs.BankE.{one_open}
use Rattle.certificate_model.proofs.Spent.{branch_and_open}

-- on a stimulus that isn't open: stimulus 1 is chosen, since item 0 was given
unfoldable pub branch_on_chosen : ProofTree
branch_on_chosen = record { vectors = []; nodes = BranchStimulus 1 ∷ Open ∷ Open ∷ [] }

not_on_chosen : IsSpent problem_1 branch_on_chosen 3 → ⊥
unfolding branch_on_chosen problem_1 seat_s bank_s item_s
not_on_chosen spent = true≢false (sym spent.unresolved.0.0.is_open)

-- ---- an Open leaf, or a branch, where the plain bound leaves no room above the start: on bank S
-- the start is best, and the plain bound is its objective
start_s : Form problem_1 (has (one_word 27))
unfolding problem_1 seat_s bank_s item_s plan_s has
start_s = form_is problem_1 (has (one_word 27)) (word_below 5 27 refl refl) (these_below 5 (0 ∷ []) refl) refl

plain_s : IsRelaxedMaximum problem_1 (root problem_1) [] false (pos 6912)
unfolding problem_1 seat_s bank_s item_s plan_s has item_weight stimulus_weight rows_constant link_multiplier excess_of_items
plain_s = maximum_is problem_1 (root problem_1) [] false (these (1 ∷ 3 ∷ 4 ∷ [])) (pos 600) (pos 6912) (these_below 5 (1 ∷ 3 ∷ 4 ∷ []) refl) refl refl

no_room : IsUnresolved problem_1 (root problem_1) → ⊥
unfolding problem_1 seat_s bank_s item_s has
no_room unresolved =
    let exceeds = unresolved.exceeds start_s in
    let (X, Z, pair, reached) = exceeds.is_maximum.reached in
    let most = plain_s.greatest X Z pair in
    let above = exceeds.above in
    omega (arith, ints)

not_below_the_start : IsSpent problem_1 one_open 1 → ⊥
unfolding one_open
not_below_the_start spent = no_room spent.unresolved.0

no_branch_below_the_start : IsSpent problem_1 branch_and_open 3 → ⊥
unfolding branch_and_open
no_branch_below_the_start spent = no_room spent.unresolved.0.1
