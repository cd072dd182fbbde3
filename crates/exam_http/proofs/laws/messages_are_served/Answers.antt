use Rattle.exam_http.proofs.ServingLaws.{messages_of}
use Rattle.exam_http.proofs.laws.messages_are_served.Goals as goal

pub returns : goal.returns
returns g c token start new bytes texts rest served =
    messages_of token g.H.Handler.does g.H.Handler.probes g.H.Handler.idles start bytes texts rest new served
