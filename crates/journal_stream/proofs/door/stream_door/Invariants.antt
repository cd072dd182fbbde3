use Rattle.std.proofs.Common.{◌≡◌, ◌≤◌}
use Rattle.journal_stream.proofs.Chained.{ArePassed}
use Rattle.journal_stream.proofs.door.stream_door.Given as goal

abbrev pub invariant-links : goal.invariant-links
invariant-links g l = record {
  tells : g.G.GrowingLog.tells l.log ≡ g.G.GrowingLog.tells l.fn.log;
  passed : ArePassed g.L.Door.tells g.L.Door.coming g.L.Door.returned g.L.Door.is_out g.L.Door.faults g.L.Door.identity
      g.L.Link.Link.tells g.L.Link.Link.left g.L.Link.Link.written g.L.Link.Link.faults g.L.Link.Link.identity
      (g.G.GrowingLog.tells l.fn.log) (g.G.GrowingLog.records l.fn.log) l.fn.door l.door (g.G.GrowingLog.records l.log);
  faults : g.G.GrowingLog.faults l.fn.log ≤ g.G.GrowingLog.faults l.log;
}
