use Rattle.exam_session.proofs.LiftLaws.{legal_has_bands}
use Rattle.exam_session.proofs.laws.a_legal_entry_has_bands.Goals as goal

pub returns : goal.returns
returns c = legal_has_bands
