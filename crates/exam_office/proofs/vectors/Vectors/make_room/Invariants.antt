use Rattle.std.proofs.Common.{◌≡◌, ◌+◌, ◌-◌, ℕ}
use Rattle.std.specs.Vec.{vec_len}
use Rattle.exam_office.specs.KeptVectors.{vector_at}
use Rattle.exam_office.proofs.vectors.Vectors.make_room.Given as goal

abbrev pub invariant-loop-self : goal.invariant-loop-self
invariant-loop-self l = record {
  same : (s : ℕ) → vector_at l.self.each.items s ≡ vector_at l.initial.self.each.items s;
  doubt : l.self.doubt ≡ l.initial.self.doubt;
}

abbrev pub decreases-loop-self : goal.decreases-loop-self
decreases-loop-self l = l.session + 1 - vec_len l.self.each
