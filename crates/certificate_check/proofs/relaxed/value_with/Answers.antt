use Rattle.std.proofs.Common.{◌≡◌, ℕ, suc, arith, ap, ◌∙◌, sym, subst}
use Rattle.std.specs.Prelude.{ℤ, ◌+ℤ◌, List}
use Rattle.std.proofs.lemmas.Int.{ints}
use Rattle.bank_tables.specs.Items.{Set, has}
use Rattle.bank_tables.specs.Sums.{sum_in_z, total_z}
use Rattle.bank_tables.specs.Tables.{size}
use Rattle.form_model.specs.Forms.{stimuli_of}
use Rattle.certificate_model.specs.Paths.{Path, is_free}
use Rattle.form_model.specs.Problem.{Problem}
use Rattle.certificate_model.specs.Ranges.{IsWithin, at}
use Rattle.certificate_model.specs.Weights.{rows_constant}
use Rattle.certificate_model.specs.Relaxed.{IsRelaxedMaximum}
use Rattle.constraint_model.specs.Views.{problem_of}
use Rattle.certificate_check.specs.Cuts.{path_of}
use Rattle.certificate_check.specs.Maximum.{gain_of_stimulus}
use Rattle.certificate_check.specs.Tops.{IsTopOf}
use Rattle.certificate_check.proofs.MaximumLaws.{four_summed, maximum_is}
use Rattle.certificate_check.proofs.relaxed.value_with.Goals as goal

within : (a b c d : ℤ) → IsWithin 72056494526300160 a → IsWithin 72619566961786880 b → IsWithin 72619566961786880 c → IsWithin 4692688144389111808 d → IsWithin 4909983772838985728 (a +ℤ ((b +ℤ c) +ℤ d))
within a b c d wa wb wc wd = record { low = omega (arith, ints); high = omega (arith, ints) }

pub returns-clause-within : goal.returns-clause-within
returns-clause-within c =
    subst (IsWithin 4909983772838985728) (sym (four_summed c.rows_constant.result c.sum_of-taken.result c.sum_of-free.result c.gains.result c.rows_constant.ensures.within c.sum_of-taken.ensures.within c.sum_of-free.ensures.within c.gains.ensures.within))
    (within c.rows_constant.result c.sum_of-taken.result c.sum_of-free.result c.gains.result c.rows_constant.ensures.within c.sum_of-taken.ensures.within c.sum_of-free.ensures.within c.gains.ensures.within)

pub returns-clause-maximum : goal.returns-clause-maximum
returns-clause-maximum c v ray multipliers are =
    let P : Problem = problem_of c.args.problem.now in
    let p : Path = path_of c.args.standing.now.cut in
    let weights : List ℤ = c.args.weights.now in
    let excesses : List ℤ = c.args.excesses.now in
    let T : Set = has c.top_of-top.result in
    let items : c.items-items.result ≡ size P.bank = c.items-items.ensures.items in
    let top : IsTopOf (size P.bank) weights (is_free P p) c.args.k T =
    subst (λ (F : Set). IsTopOf (size P.bank) weights F c.args.k T) c.requires.standing.free (subst (λ (n : ℕ). IsTopOf n weights (has c.args.standing.now.free) c.args.k T) items c.top_of-top.ensures) in
    let taken = c.sum_of-taken.ensures.value ∙ ap (λ (n : ℕ). sum_in_z n p.taken (at weights)) items in
    let free = c.sum_of-free.ensures.value ∙ ap (λ (n : ℕ). sum_in_z n T (at weights)) items in
    let constant = c.rows_constant.ensures.value ∙ ap (λ (M : ℕ → ℕ). rows_constant P M) multipliers in
    let stimuli = c.gains.ensures.value ∙ ap (λ (M : ℕ → ℕ). total_z (stimuli_of P.bank) (λ j. gain_of_stimulus P p M (at excesses j) (suc j))) multipliers in
    subst (IsRelaxedMaximum P p v ray) (sym (four_summed c.rows_constant.result c.sum_of-taken.result c.sum_of-free.result c.gains.result c.rows_constant.ensures.within c.sum_of-taken.ensures.within c.sum_of-free.ensures.within c.gains.ensures.within))
    (maximum_is P p v ray weights excesses are T c.args.k top c.requires.fills c.rows_constant.result c.sum_of-taken.result c.sum_of-free.result c.gains.result constant taken free stimuli)
