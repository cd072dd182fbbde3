use Rattle.exam_serve.proofs.Fed.{are_fed}
use Rattle.exam_serve.proofs.laws.no_connection_starved.Goals as goal

pub returns : goal.returns
returns g c token opened closed doors back served =
    are_fed token g.L.Door.tells g.L.Door.coming g.L.Door.returned g.L.Door.is_out g.L.Door.faults g.L.Door.identity
    g.L.Link.Link.tells g.L.Link.Link.left g.L.Link.Link.written g.L.Link.Link.faults g.L.Link.Link.identity opened closed doors back served
