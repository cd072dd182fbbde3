use Rattle.certificate_model.proofs.CountingLaws.{impossible_leaves_no_form}
use Rattle.certificate_model.proofs.laws.counting_is_sound.Goals as goal

pub returns : goal.returns
returns c = λ P p X r e under. impossible_leaves_no_form P p X under r e
