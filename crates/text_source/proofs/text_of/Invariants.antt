use Rattle.std.proofs.Common.{◌≡◌, ℕ, ◌-◌, ◌≤◌, ◌++◌, List, IsTrue, length}
use Rattle.exam_edge.specs.Lent.{IsLent}
use Rattle.text_source.proofs.text_of.Given as goal

abbrev pub invariant-text : goal.invariant-text
invariant-text g l = record {
  within : length l.text.items ≤ l.limit;
  size : length l.piece ≡ 4096;
  read : IsTrue (g.S.Source.tells l.fn.source) → l.text.items ++ g.S.Source.left l.source ≡ g.S.Source.left l.fn.source;
  beside : IsTrue (g.S.Source.tells l.fn.source) → (name : List ℕ) → g.S.Source.beside l.source name ≡ g.S.Source.beside l.fn.source name;
  there : IsTrue (g.S.Source.tells l.fn.source) → g.S.Source.there l.source ≡ g.S.Source.there l.fn.source;
  has : IsTrue (g.S.Source.tells l.fn.source) → (name : List ℕ) → g.S.Source.has l.source name ≡ g.S.Source.has l.fn.source name;
  frame : IsLent g.S.Source.tells g.S.Source.identity g.S.Source.faults l.fn.source l.source;
}

abbrev pub decreases-text : goal.decreases-text
decreases-text g l = l.limit - length l.text.items
