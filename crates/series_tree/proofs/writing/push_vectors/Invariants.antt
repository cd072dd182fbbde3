use Rattle.std.proofs.Common.{◌≡◌, ◌++◌, take}
use Rattle.std.specs.List.{flat_map}
use Rattle.proof_tree.specs.Spelling.{vector_bytes}
use Rattle.series_tree.proofs.writing.push_vectors.Given as goal

abbrev pub invariant-loop-vector : goal.invariant-loop-vector
invariant-loop-vector l = l.out.items ≡ l.fn.out.items ++ flat_map vector_bytes (take l.vector-index l.vectors)
