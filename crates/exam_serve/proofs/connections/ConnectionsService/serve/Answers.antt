use Rattle.std.proofs.Common.{rules, sym, subst}
use Rattle.std.specs.Option.{option_copied}
use Rattle.exam_serve.specs.Allowing.{IsFairLink}
use Rattle.exam_serve.specs.Connections.{AttendantKnown}
use Rattle.exam_serve.proofs.connections.ConnectionsService.serve.Goals as goal

-- what the caller may write is allowed
pub serve_connection-ended-requires-after_bounds : goal.serve_connection-ended-requires-after_bounds
serve_connection-ended-requires-after_bounds g c κs within =
    subst (λ (a : AttendantKnown). IsFairLink (option_copied c.args.self.now.token) g.K.Link.tells g.K.Link.left g.K.Link.written g.K.Link.allows a.caller c.args.link.now)
    (sym c.attendant.view_is) c.requires.fair

pub returns : goal.returns
returns g c = search rules
