use Rattle.std.proofs.Common.{◌&&◌, not, Bool, ap, ◌∙◌, refl}
use Rattle.std.proofs.Math.Path.{fun_ext}
use Rattle.bank_tables.specs.Items.{has}
use Rattle.constraint_model.specs.Views.{problem_of}
use Rattle.lagrange_bound.proofs.Branches.{root_open}
use Rattle.lagrange_bound.proofs.cut.Cut.root.Goals as goal

pub returns : goal.returns
returns c =
    let P = problem_of c.args.problem.now in
    record {
      taken = refl;
      out = refl;
      free = fun_ext c.others-free.ensures;
      chosen = fun_ext c.stimuli_used-chosen.ensures;
      opened = root_open P (has c.others-free.result) (has c.stimuli_used-chosen.result) (has c.minus-opened.result) c.others-free.ensures c.stimuli_used-chosen.ensures (λ s. c.minus-opened.ensures s ∙ ap (λ (b : Bool). b && not (has c.stimuli_used-chosen.result s)) (c.stimuli_used.ensures s));
    }
