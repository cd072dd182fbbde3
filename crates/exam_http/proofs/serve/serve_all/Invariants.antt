use Rattle.std.proofs.Common.{◌≡◌, ◌++◌, ℕ, List, IsTrue}
use Rattle.std.specs.Option.{option_copied}
use Rattle.exam_edge.specs.Allowing.{StillAllows}
use Rattle.exam_edge.specs.Lent.{IsLent}
use Rattle.wire_http.specs.Messages.{bytes_of}
use Rattle.exam_http.specs.Serving.{Serves, LeadsTo}
use Rattle.exam_http.proofs.serve.serve_all.Given as goal

abbrev pub invariant-messages : goal.invariant-messages
invariant-messages g l = record {
  leads : LeadsTo g.H.Handler.does g.H.Handler.probes g.H.Handler.idles l.fn.handler l.handler;
  served : IsTrue (g.K.Link.tells l.fn.link) → (texts : List ℕ)
      × (g.K.Link.written l.link ≡ g.K.Link.written l.fn.link ++ texts)
      × Serves (option_copied l.fn.terms.token) g.H.Handler.does g.H.Handler.probes g.H.Handler.idles l.fn.handler (bytes_of l.fn.kept ++ g.K.Link.left l.fn.link) texts
      (bytes_of l.kept ++ g.K.Link.left l.link) l.handler;
  allows : StillAllows g.K.Link.allows l.fn.link l.link;
  frame : IsLent g.K.Link.tells g.K.Link.identity g.K.Link.faults l.fn.link l.link;
}
