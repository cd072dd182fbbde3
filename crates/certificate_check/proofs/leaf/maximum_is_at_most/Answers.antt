use Rattle.std.proofs.Common.{◌≡◌, ◌+◌, ◌*◌, ◌<◌, ◌≤◌, ◌⊎◌, inl, inr, ℕ, length, get_or, arith, sym}
use Rattle.std.proofs.Math.Bool.{true≢false}
use Rattle.bank_tables.specs.Tables.{size, stimulus}
use Rattle.form_model.specs.Forms.{stimuli_of}
use Rattle.constraint_model.specs.Views.{problem_of}
use Rattle.certificate_check.proofs.Steps.{greatest_at_most}
use Rattle.certificate_check.proofs.leaf.maximum_is_at_most.Goals as goal

low_side : (side rows stimuli : ℕ) → rows ≤ 128 → stimuli ≤ 64 → (side < 2 * rows + 2 * stimuli) ⊎ ((side ≡ 384) ⊎ (side ≡ 385)) → side < 386
low_side side rows stimuli few most (inl own) = omega arith
low_side side rows stimuli few most (inr (inl low)) = omega arith
low_side side rows stimuli few most (inr (inr high)) = omega arith

pub relaxed_maximum-requires-clause-sides : goal.relaxed_maximum-requires-clause-sides
relaxed_maximum-requires-clause-sides c k d w =
    let P = problem_of c.args.problem.now in
    let most : stimuli_of P.bank ≤ 64 = greatest_at_most (size P.bank) 64 (stimulus P.bank) c.requires.well_made.bank.stimulus_high in
    low_side (get_or c.args.vector.now k d).0 (length P.plan.rows) (stimuli_of P.bank) c.requires.well_made.plan.few_rows most (c.requires.sides k d w)

pub returns-in-None : goal.returns-in-None
returns-in-None c = (λ h. absurd (true≢false (sym h)), λ most. absurd (c.in-None.ensures most.maximum most.is_maximum))
