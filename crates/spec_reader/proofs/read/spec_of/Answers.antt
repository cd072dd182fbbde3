use Rattle.std.proofs.Common.{sym, ◌∙◌, map}
use Rattle.form_model.specs.Forms.{stimuli_of}
use Rattle.exam_text.proofs.Firsts.{none_split}
use Rattle.constraint_model.specs.Faults.{front_fault}
use Rattle.spec_reader.specs.Rules.{said}
use Rattle.spec_reader.specs.Reading.{numbers_fault}
use Rattle.spec_reader.proofs.read.spec_of.Goals as goal

pub of_tested-requires : goal.of_tested-requires
of_tested-requires c =
    (none_split (front_fault c.args.bank.now c.args.draft) (numbers_fault (stimuli_of c.args.bank.now) (map said c.args.rules.now)) (sym c.early_fault.ensures ∙ c.in-None.is)).0
