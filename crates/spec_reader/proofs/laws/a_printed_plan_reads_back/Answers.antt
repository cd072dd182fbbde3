use Rattle.spec_reader.proofs.ShortLaws.{back_same, back_again, back_only}
use Rattle.spec_reader.proofs.laws.a_printed_plan_reads_back.Goals as goal

pub returns-clause-same : goal.returns-clause-same
returns-clause-same c = back_same

pub returns-clause-again : goal.returns-clause-again
returns-clause-again c = back_again

pub returns-clause-only : goal.returns-clause-only
returns-clause-only c = back_only
