use Rattle.std.proofs.Common.{List, ℕ, Some, ◌∙◌, sym, ap, arith}
use Rattle.spec_reader.proofs.Keys.{key_some}
use Rattle.spec_reader.proofs.rule.key_from.Goals as goal

pub returns : goal.returns
returns c = key_some c.args.word.now c.args.bytes.now c.requires.count (λ i. omega (arith, c.type_inv.bytes i)) c.requires.word ∙ ap (λ (k : List ℕ). Some k) (sym c.copy_from_slice.ensures.after)
