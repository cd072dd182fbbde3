use Rattle.std.proofs.Common.{◌≡◌, ℕ, arith, ap, ◌∙◌, sym, subst, w64, to_z, of_z}
use Rattle.std.specs.Prelude.{FitsSigned, ℤ, pos, ◌+ℤ◌, ◌*ℤ◌, slice_index}
use Rattle.std.proofs.lemmas.Int.{ints}
use Rattle.bank_tables.specs.Items.{has}
use Rattle.bank_tables.specs.Sums.{sum_in_z}
use Rattle.certificate_model.specs.Fixing.{places_left}
use Rattle.certificate_model.specs.Paths.{Path}
use Rattle.certificate_model.specs.Ranges.{IsWithin, at}
use Rattle.certificate_model.specs.Relaxed.{cap_side}
use Rattle.certificate_model.specs.Weights.{price}
use Rattle.constraint_model.specs.Views.{problem_of}
use Rattle.certificate_check.specs.Costs.{bound_top}
use Rattle.certificate_check.specs.Cuts.{path_of}
use Rattle.certificate_check.proofs.CostLaws.{read_back, wider}
use Rattle.certificate_check.proofs.costs.bound_of.Goals as goal

-- the sums of the code don't wrap
summed : (a b q s d : ℤ) → IsWithin 72056494526300160 a → IsWithin 72619566961786880 b → IsWithin 8589934592 q → IsWithin 72619575551721472 s → IsWithin 4692688144389111808 d →
    to_z w64 (of_z w64 (to_z w64 (of_z w64 (to_z w64 (of_z w64 a) +ℤ to_z w64 (of_z w64 b))) +ℤ to_z w64 (of_z w64 (to_z w64 (of_z w64 q) +ℤ to_z w64 (of_z w64 (to_z w64 (of_z w64 s) +ℤ to_z w64 (of_z w64 d))))))) ≡ (a +ℤ b) +ℤ (q +ℤ (s +ℤ d))
summed a b q s d wa wb wq ws wd = omega (arith, ints)

within : (a b q s d : ℤ) → IsWithin 72056494526300160 a → IsWithin 72619566961786880 b → IsWithin 8589934592 q → IsWithin 72619575551721472 s → IsWithin 4692688144389111808 d → IsWithin bound_top ((a +ℤ b) +ℤ (q +ℤ (s +ℤ d)))
within a b q s d wa wb wq ws wd = record { low = omega (arith, ints); high = omega (arith, ints) }

joined : (a b q s d a' b' q' s' d' : ℤ) → a ≡ a' → b ≡ b' → q ≡ q' → s ≡ s' → d ≡ d' → (a +ℤ b) +ℤ (q +ℤ (s +ℤ d)) ≡ (a' +ℤ b') +ℤ (q' +ℤ (s' +ℤ d'))
joined a b q s d a' b' q' s' d' e f g h i = cc

fits : (a b q s d : ℤ) → IsWithin 72056494526300160 a → IsWithin 72619566961786880 b → IsWithin 8589934592 q → IsWithin 72619575551721472 s → IsWithin 4692688144389111808 d →
    FitsSigned w64 (to_z w64 (of_z w64 (to_z w64 (of_z w64 a) +ℤ to_z w64 (of_z w64 b))) +ℤ to_z w64 (of_z w64 (to_z w64 (of_z w64 q) +ℤ to_z w64 (of_z w64 (to_z w64 (of_z w64 s) +ℤ to_z w64 (of_z w64 d))))))
fits a b q s d wa wb wq ws wd = omega (arith, ints)

pub overflow_add-result-4 : goal.overflow_add-result-4
overflow_add-result-4 c = fits c.rows_constant.result c.sum_of-taken.result c.price_of_places-places.result c.single_margins-single.result c.gains-stimuli.result c.rows_constant.ensures.within c.sum_of-taken.ensures.within c.price_of_places-places.ensures.within c.single_margins-single.ensures.within c.gains-stimuli.ensures.within

pub returns-clause-value : goal.returns-clause-value
returns-clause-value c =
    let P = problem_of c.args.problem.now in
    let p : Path = path_of c.args.standing.now.cut in
    let M : ℕ → ℕ = slice_index c.args.sides.now in
    let cap-is : to_z w64 (of_z w64 c.cap.result) ≡ price M cap_side = read_back c.cap.result (wider 16777216 c.cap.result (omega arith) c.cap.ensures.within) ∙ c.cap.ensures.cap in
    let places : c.price_of_places-places.result ≡ pos (places_left P p) *ℤ price M cap_side = c.price_of_places-places.ensures.value ∙ ap (λ (n : ℕ). pos n *ℤ to_z w64 (of_z w64 c.cap.result)) c.places_left.ensures.value ∙ ap (λ (z : ℤ). pos (places_left P p) *ℤ z) cap-is in
    summed c.rows_constant.result c.sum_of-taken.result c.price_of_places-places.result c.single_margins-single.result c.gains-stimuli.result c.rows_constant.ensures.within c.sum_of-taken.ensures.within c.price_of_places-places.ensures.within c.single_margins-single.ensures.within c.gains-stimuli.ensures.within
    ∙ joined c.rows_constant.result c.sum_of-taken.result c.price_of_places-places.result c.single_margins-single.result c.gains-stimuli.result _ _ _ _ _ c.rows_constant.ensures.value (subst (λ (n : ℕ). c.sum_of-taken.result ≡ sum_in_z n (has c.args.standing.now.cut.taken) (at c.args.weights.now)) c.items.ensures.items c.sum_of-taken.ensures.value) places c.single_margins-single.ensures.value c.gains-stimuli.ensures.value

pub returns-clause-within : goal.returns-clause-within
returns-clause-within c =
    subst (IsWithin bound_top) (sym (summed c.rows_constant.result c.sum_of-taken.result c.price_of_places-places.result c.single_margins-single.result c.gains-stimuli.result c.rows_constant.ensures.within c.sum_of-taken.ensures.within c.price_of_places-places.ensures.within c.single_margins-single.ensures.within c.gains-stimuli.ensures.within))
    (within c.rows_constant.result c.sum_of-taken.result c.price_of_places-places.result c.single_margins-single.result c.gains-stimuli.result c.rows_constant.ensures.within c.sum_of-taken.ensures.within c.price_of_places-places.ensures.within c.single_margins-single.ensures.within c.gains-stimuli.ensures.within)
