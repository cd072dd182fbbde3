use Rattle.certificate_model.proofs.Duality.{no_cap_no_links}
use Rattle.certificate_model.proofs.laws.no_cap_no_links.Goals as goal

pub returns : goal.returns
returns c = no_cap_no_links
