use Rattle.std.proofs.Common.{◌<◌}
use Rattle.std.specs.Option.{option_map}
use Rattle.bank_tables.specs.Items.{Set, has}
use Rattle.bank_tables.specs.Tables.{size}
use Rattle.form_model.specs.Forms.{Form}
use Rattle.certificate_model.specs.Verdicts.{IsFormOrNone, IsAtLeast}
use Rattle.constraint_model.specs.Views.{problem_of}
use Rattle.form_enumeration.proofs.Masks.{mask_of}
use Rattle.form_enumeration.proofs.enumeration.best_form.Given as goal

-- what is kept is a form, and at least each form of an earlier mask
abbrev pub invariant-loop-mask : goal.invariant-loop-mask
invariant-loop-mask l =
    record {
      form : IsFormOrNone (problem_of l.problem) (option_map has l.best);
      greatest : (Y : Set) → Form (problem_of l.problem) Y → mask_of (size l.problem.bank.now) Y < l.mask → IsAtLeast (problem_of l.problem) (option_map has l.best) Y;
    }
