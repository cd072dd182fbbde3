use Rattle.record_links.proofs.WorldLaws.{follows}
use Rattle.record_links.proofs.laws.a_follower_follows.Goals as goal

pub returns : goal.returns
returns g c = follows _
