use Rattle.std.proofs.Common.{◌≡◌, arith}
use Rattle.std.proofs.lemmas.Grind.{common_steps}
use Rattle.series_tree.specs.Spelling.{bytes_of}
use Rattle.series_tree.proofs.TreeLaws.{short_vectors, few_bytes}
use Rattle.series_tree.proofs.writing.encode_series.Goals as goal

pub push_vectors-requires : goal.push_vectors-requires
push_vectors-requires c = rw c.vectors-vectors.ensures.vectors (short_vectors c.args.tree.now c.vectors-vectors.ensures.tree.shape)

pub returns-clause-few : goal.returns-clause-few
unfolding bytes_of
returns-clause-few c =
    let spelled : c.push_nodes.new.out.items ≡ bytes_of c.args.tree.now = grind (arith, common_steps) in
    rw spelled (few_bytes c.args.tree.now c.nodes.ensures.tree)
