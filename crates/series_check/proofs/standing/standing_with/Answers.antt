use Rattle.std.proofs.Common.{◌≡◌, ℕ, ◌∙◌, ap, sym, false, not, nat_lt, ◌&&◌, ◌||◌}
use Rattle.std.proofs.Math.Path.{fun_ext}
use Rattle.bank_tables.specs.Items.{has}
use Rattle.bank_tables.specs.Tables.{Tables, size}
use Rattle.form_model.specs.Forms.{used}
use Rattle.certificate_model.specs.Paths.{Path, is_free, is_chosen, is_open}
use Rattle.certificate_check.proofs.Collected.{both_tests}
use Rattle.series_check.proofs.standing.standing_with.Goals as goal

pub returns-clause-standing : goal.returns-clause-standing
returns-clause-standing c P same =
    let p : Path = record { taken = has c.args.taken; out = has c.args.out; branched_on = λ _. false } in
    let free : has c.items_besides-free.result ≡ is_free P p = fun_ext (λ (i : ℕ). c.items_besides-free.ensures i ∙ ap (λ (b : Tables). nat_lt i (size b) && (not (has c.args.taken i) && not (has c.args.out i))) (sym same)) in
    let chosen : has c.stimuli_used-chosen.result ≡ is_chosen P p = fun_ext (λ (s : ℕ). c.stimuli_used-chosen.ensures s ∙ ap (λ (b : Tables). used b (has c.args.taken) s) (sym same)) in
    let opened : has c.minus-opened.result ≡ is_open P p =
    fun_ext (λ (s : ℕ). c.minus-opened.ensures s
    ∙ both_tests _ _ _ _ (c.stimuli_used.ensures s ∙ ap (λ (b : Tables). used b (has c.items_besides-free.result) s) (sym same) ∙ ap (λ X. used P.bank X s) free) (ap (λ X. X s) chosen)) in
    record {
      free = free;
      may_hold = fun_ext (λ (i : ℕ). c.union.ensures i ∙ ap (λ X. has c.args.taken i || X i) free);
      chosen = chosen;
      opened = opened;
      may_use = fun_ext (λ (s : ℕ). c.union-2.ensures s ∙ ap (λ X. X s || has c.minus-opened.result s) chosen ∙ ap (λ X. is_chosen P p s || X s) opened);
    }
