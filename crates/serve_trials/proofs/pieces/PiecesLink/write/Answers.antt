use Rattle.std.proofs.Common.{rules}
use Rattle.serve_trials.proofs.Parts.{may_begin}
use Rattle.serve_trials.proofs.pieces.PiecesLink.write.Goals as goal

pub write-requires : goal.write-requires
write-requires g c = record {
  allowed = λ told.
      may_begin (g.K.Link.allows c.args.self.now.link) (g.K.Link.written c.args.self.now.link) c.args.piece.now _ c.min-count.result (search rules)
      (c.requires.allowed told);
}
