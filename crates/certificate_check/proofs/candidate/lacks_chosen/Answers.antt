use Rattle.std.proofs.Common.{sym, arith}
use Rattle.std.proofs.Math.Bool.{true≢false}
use Rattle.bank_tables.specs.Items.{has}
use Rattle.constraint_model.specs.Views.{problem_of}
use Rattle.certificate_check.specs.Cuts.{path_of}
use Rattle.certificate_check.proofs.Candidates.{none_lacks}
use Rattle.certificate_check.proofs.candidate.lacks_chosen.Goals as goal

pub returns : goal.returns
returns c = (
  λ h. absurd (true≢false (sym h)),
  λ lacks. absurd (none_lacks (problem_of c.args.problem.now) (path_of c.args.standing.now.cut) (has c.args.standing.now.chosen) (has c.stimuli_used-used.result) (has c.args.items.now) c.loop-k.k c.requires.chosen c.stimuli_used-used.ensures (omega (arith, c.stimuli-k-end.ensures)) c.loop-k.invariant lacks),
)
