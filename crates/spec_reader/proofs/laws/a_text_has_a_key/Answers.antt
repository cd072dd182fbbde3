use Rattle.spec_reader.proofs.ReadKeys.{text_key}
use Rattle.spec_reader.proofs.laws.a_text_has_a_key.Goals as goal

pub returns : goal.returns
returns c = text_key
