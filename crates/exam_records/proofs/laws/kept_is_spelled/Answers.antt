use Rattle.exam_records.proofs.BandLaws.{kept_is_old, kept_payload}
use Rattle.exam_records.proofs.laws.kept_is_spelled.Goals as goal

pub returns-clause-is_old : goal.returns-clause-is_old
returns-clause-is_old c = kept_is_old

pub returns-clause-spelling : goal.returns-clause-spelling
returns-clause-spelling c = kept_payload
