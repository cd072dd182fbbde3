use Rattle.exam_records.proofs.CutLaws.{cut_off_is_told as old_cut_is_told}
use Rattle.exam_records.proofs.SecondCuts.{cut_off_is_told}
use Rattle.exam_records.proofs.laws.cut_off_is_told.Goals as goal

pub returns-clause-cut : goal.returns-clause-cut
returns-clause-cut c = cut_off_is_told

pub returns-clause-old_cut : goal.returns-clause-old_cut
returns-clause-old_cut c = old_cut_is_told
