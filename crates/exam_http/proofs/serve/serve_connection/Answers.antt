use Rattle.std.proofs.Common.{◌++◌, ℕ, List, [], inl, refl, sym, subst, append-nil}
use Rattle.std.specs.Option.{option_copied}
use Rattle.exam_http.specs.Serving.{AllowsServed, begun, unchanged}
use Rattle.exam_http.proofs.serve.serve_connection.Goals as goal

pub returns-in-Err-clause-served : goal.returns-in-Err-clause-served
returns-in-Err-clause-served g c tells = (
  [],
  sym (append-nil _),
  record {
    state = c.args.handler.now;
    rest = g.K.Link.left c.args.link.now;
    texts = [];
    last = [];
    serves = begun;
    ends = (refl, inl (refl, refl));
    whole = refl;
  },
)

pub returns-in-Err-clause-leads : goal.returns-in-Err-clause-leads
returns-in-Err-clause-leads g c = unchanged

pub serve_all-requires-clause-allowed : goal.serve_all-requires-clause-allowed
serve_all-requires-clause-allowed g c κs within = λ told.
    subst (λ (kept : List ℕ). AllowsServed (option_copied c.args.token) g.H.Handler.does g.H.Handler.probes g.H.Handler.idles
    (g.K.Link.allows c.args.link.now) c.args.handler.now (kept ++ g.K.Link.left c.args.link.now) (g.K.Link.written c.args.link.now))
    (sym c.new-kept.ensures) (c.requires told)
