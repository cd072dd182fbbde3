use Rattle.std.proofs.Common.{◌≡◌, ◌+◌, ◌<◌, ◌∙◌, get_or, length, ap, sym, arith, Some, List, ℕ}
use Rattle.exam_text.specs.First.{first_below}
use Rattle.std.proofs.lemmas.Bool.{le-ltb}
use Rattle.exam_text.proofs.Firsts.{found_at}
use Rattle.form_model.specs.declared.row.StimulusBound.{StimulusBound}
use Rattle.form_model.specs.Plan.{no_bound}
use Rattle.form_model.specs.Forms.{stimuli_of}
use Rattle.constraint_model.specs.Faults.{bound_fault, bounds_fault}
use Rattle.constraint_model.proofs.faults.bounds_fault.Goals as goal

pub returns-in-Some : goal.returns-in-Some
unfolding bounds_fault
returns-in-Some c =
    let plan = c.args.draft.now in
    let bank = c.args.bank.now in
    let k : ℕ = c.loop-k.k in
    let lt : k < stimuli_of bank = omega (arith, c.loop-k-test.true, c.stimuli_of-stimuli.ensures.value) in
    let here : bound_fault (k + 1) (get_or plan.bounds k no_bound) ≡ Some c.in-Some.fault =
    ap (λ (bounds : List StimulusBound). bound_fault (k + 1) (get_or bounds k no_bound)) (sym c.as_slice-bounds.ensures) ∙ sym c.bound_fault.ensures ∙ c.in-Some.is in
    let found : first_below (stimuli_of bank) (λ k. bound_fault (k + 1) (get_or plan.bounds k no_bound)) ≡ Some c.in-Some.fault =
    found_at (stimuli_of bank) k (λ k. bound_fault (k + 1) (get_or plan.bounds k no_bound)) c.in-Some.fault c.loop-k.invariant here lt in
    rw (le-ltb (length plan.bounds) (stimuli_of bank) (omega (arith, c.stimuli_of-stimuli.ensures.value, ap (λ (bounds : List StimulusBound). length bounds) c.as_slice-bounds.ensures)), le-ltb (stimuli_of bank) (length plan.bounds) (omega (arith, c.stimuli_of-stimuli.ensures.value, ap (λ (bounds : List StimulusBound). length bounds) c.as_slice-bounds.ensures))) (sym found)
